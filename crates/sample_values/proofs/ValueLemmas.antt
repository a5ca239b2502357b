-- The hidden values, cell by cell.
use Rattle.std.proofs.Common.{◌≡◌, ℕ, ◌+◌, ◌/◌, ◌<◌, ◌^◌, suc, List, [], ◌∷◌, ◌++◌, length, take, map, ℤ, pos, ◌≤ℤ◌, ap, ap₂, sym, subst, ◌∙◌, arith}
use Rattle.std.specs.Prelude.{All, unsigned_abs}
use Rattle.std.specs.List.{range_with_len, slice_set}
use Rattle.std.proofs.Math.Nat.{mod-lt}
use Rattle.std.proofs.lemmas.List.{take_more_set, map_push, length-set}
use Rattle.std.proofs.lemmas.List.Elements.{All-set, All-map}
use Rattle.std.proofs.lemmas.Int.{ints}
use Rattle.criteria_model.proofs.CountLemmas.{range_with_len-more}
use Rattle.sample_values.specs.Draws.{next_state, drawn, state_after, hidden_value, hidden_vector}

-- the first cells are the hidden values of the seed, and each cell is small
pub record AreValues (seed place draws : ℕ) (cells : List ℤ) : Type 0 where
  pub len : length cells ≡ 24
  pub small : All (λ x. unsigned_abs x < 2 ^ 96) cells
  pub state : draws ≡ state_after seed place
  pub values : take place cells ≡ hidden_vector seed place

state_next : (seed place : ℕ) → state_after seed (place + 1) ≡ next_state (state_after seed place)
state_next seed place = let more : place + 1 ≡ suc place = omega arith in ap (state_after seed) more

vector_next : (seed place : ℕ) → hidden_vector seed (place + 1) ≡ hidden_vector seed place ++ hidden_value seed (place + 1) ∷ []
vector_next seed place =
    let next : 1 + place ≡ place + 1 = omega arith in
    ap (map (hidden_value seed)) (range_with_len-more 1 place)
    ∙ map_push (hidden_value seed) (range_with_len 1 place) (1 + place)
    ∙ ap (λ n. hidden_vector seed place ++ hidden_value seed n ∷ []) next

pub next_values : (seed place draws now : ℕ) (cells : List ℤ) (x : ℤ) → AreValues seed place draws cells → place < 24 → now ≡ next_state draws
    → x ≡ pos (1 + drawn now) → AreValues seed (place + 1) now (slice_set cells place x)
next_values seed place draws now cells x so low next is =
    let state : now ≡ state_after seed (place + 1) = next ∙ ap next_state so.state ∙ sym (state_next seed place) in
    let value : x ≡ hidden_value seed (place + 1) = is ∙ ap (λ (n : ℕ). pos (1 + drawn n)) state in
    let below : drawn now < 1000 = mod-lt (now / 65536) (omega arith) in
    record {
      len = length-set cells place x ∙ so.len;
      small =
          All-set (λ y. unsigned_abs y < 2 ^ 96) cells place x
          (subst (λ (y : ℤ). unsigned_abs y < 2 ^ 96) (sym is) (omega (arith, below))) so.small;
      state = state;
      values =
          take_more_set cells place x (omega (arith, so.len, low))
          ∙ ap₂ (λ (xs : List ℤ) (y : ℤ). xs ++ y ∷ []) so.values value
          ∙ sym (vector_next seed place);
    }

pub values_positive : (seed count : ℕ) → All (λ x. pos 1 ≤ℤ x) (hidden_vector seed count)
values_positive seed count =
    All-map (λ x. pos 1 ≤ℤ x) (hidden_value seed) (range_with_len 1 count) (λ k d within. omega (arith, ints))
