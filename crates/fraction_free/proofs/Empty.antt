-- A dictionary with no rows.
use Rattle.std.proofs.Common.{◌≡◌, ◌∙◌, inl, inr, ℕ, ◌+◌, ◌-◌, ◌<◌, ◌≤◌, ℤ, pos, List, [], ◌∷◌, ◌++◌, length, get_or, sym, ap, subst, refl, arith}
use Rattle.std.proofs.lemmas.List.{get_or_append_left, get_or_at, length_push, take_at, drop_all}
use Rattle.std.proofs.lemmas.List.FromFn.{length-range_with_len, get_or-range_with_len}
use Rattle.std.proofs.lemmas.Bool.{cases_eq}
use Rattle.std.proofs.lemmas.Int.{ints}
use Rattle.std.specs.List.{range_with_len}
use Rattle.minors.specs.Minor.{IsUnit}
use Rattle.minors.specs.Combination.{IsScale}
use Rattle.minors.proofs.Laws.{scale_of_identity}
use Rattle.fraction_free.specs.declared.loaded.LoadedRow.{LoadedRow}
use Rattle.fraction_free.specs.Arrangement.{IsArrangement, Arranged}
use Rattle.fraction_free.specs.Changes.{empty_dictionary}
use Rattle.fraction_free.specs.Representation.{unit, table_row, square_of, AreMinors, IsRepresentation}
use Rattle.fraction_free.proofs.Views.{view_with}
use Rattle.fraction_free.proofs.Table.{unit_is, length-square, square_at, table_row-increment}

abbrev pub first_order : ℕ → List ℕ
first_order m = range_with_len 1 m ++ 0 ∷ []

length-first : (m : ℕ) → length (first_order m) ≡ m + 1
length-first m = length_push (range_with_len 1 m) 0 ∙ ap (λ k. k + 1) (length-range_with_len 1 m)

first_last : (m : ℕ) → get_or (first_order m) m 0 ≡ 0
first_last m = get_or_at (range_with_len 1 m) 0 [] 0 m (length-range_with_len 1 m)

first_at : (m p : ℕ) → p < m → get_or (first_order m) p 0 ≡ 1 + p
first_at m p below = get_or_append_left (range_with_len 1 m) (0 ∷ []) 0 p (omega (arith, length-range_with_len 1 m)) ∙ get_or-range_with_len 1 m p 0 below

first_square : (m : ℕ) (p : ℕ) → p < m + 1 → get_or (square_of m [] (first_order m)) p [] ≡ unit (m + 1) p
first_square m p below =
    square_at m [] (first_order m) p [] (omega (arith, length-first m)) below
    ∙ elim (cases_eq p m) [
      | inl e ↦ ap (λ k. table_row m [] (get_or (first_order m) k 0)) e ∙ ap (table_row m []) (first_last m) ∙ ap (unit (m + 1)) (sym e)
      | inr ne ↦
          let inside : p < m = omega arith in
          let back : 1 + p - 1 ≡ p = omega arith in
          ap (table_row m []) (first_at m p inside) ∙ table_row-increment m [] (1 + p) (omega arith) (omega arith) ∙ ap (unit (m + 1)) back
    ]

empty_scale : (m : ℕ) → IsScale (pos 1) (square_of m [] (first_order m))
empty_scale m =
    let len : length (square_of m [] (first_order m)) ≡ m + 1 = length-square m [] (first_order m) (omega (arith, length-first m)) in
    scale_of_identity (square_of m [] (first_order m))
    (λ p below. subst (λ n. IsUnit n p (get_or (square_of m [] (first_order m)) p [])) (sym len) (subst (IsUnit (m + 1) p) (sym (first_square m p (omega arith))) (unit_is (m + 1) p)))

pub empty_minors : (m : ℕ) → 1 ≤ m → m ≤ 24 → IsArrangement (first_order m) → AreMinors m [] (pos 1) (first_order m) []
empty_minors m some most arranged = record {
  columns_some = some;
  columns_most = most;
  lines_len = refl;
  order_len = length-first m ∙ omega arith;
  constant = first_last m;
  rows = λ row below. absurd (omega arith);
  variables = arranged;
  positive = omega (arith, ints);
  scale_is = empty_scale m;
  lines_are = λ row below. absurd (omega arith);
}

pub empty_kept : (m : ℕ) (l : List LoadedRow) (s : ℤ) (places : Arranged) (lines : List (List ℤ)) (a b c d e f : ℕ) → 1 ≤ m → l ≡ [] → s ≡ pos 1 → lines ≡ []
    → places.order ≡ first_order m → IsArrangement places.order → m ≤ a → a ≤ 24 → b ≤ 65536 → a + 1 + b ≤ places.room → b ≤ c → b ≤ d
    → IsRepresentation (view_with m l s places.order lines a b e f) places c d
empty_kept m l s places lines a b c d e f some no_rows one no_lines order arranged columns_room columns_most rows_most places_room lines_room loaded_room = record {
  minors = rw (no_rows, one, order, no_lines) (empty_minors m some (omega arith) (subst IsArrangement order arranged));
  solutions = λ x h. record { each = λ row below. absurd (omega (arith, ap length no_rows)) };
  columns_room = columns_room;
  columns_most = columns_most;
  rows_room = omega (arith, ap length no_rows);
  rows_most = rows_most;
  places_room = places_room;
  has_lines_room = lines_room;
  has_loaded_room = loaded_room;
}

pub empty_view : (m : ℕ) (l : List LoadedRow) (s : ℤ) (order : List ℕ) (lines : List (List ℤ)) (a b e f : ℕ) → l ≡ [] → s ≡ pos 1 → lines ≡ [] → order ≡ first_order m
    → view_with m l s order lines a b e f ≡ empty_dictionary m a b e f
empty_view m l s order lines a b e f no_rows one no_lines is =
    rw (no_rows, one, no_lines, is, take_at (range_with_len 1 m) (0 ∷ []) m (length-range_with_len 1 m), drop_all (m + 1) (first_order m) (omega (arith, length-first m))) refl
