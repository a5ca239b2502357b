-- Tables of marks, and marks that are written.
use Rattle.std.proofs.Common.{◌≡◌, ◌≢◌, ◌⊎◌, ℕ, zero, suc, ◌+◌, ◌-◌, ◌<◌, ◌≤◌, Bool, true, false, cond, ◌||◌, IsTrue, IsFalse, List, [], ◌∷◌, ◌++◌, length, slice_set, slice_get, replicate, Option, Some, length-append, refl, ap, sym, subst, ◌∙◌, inl, inr, arith}
use Rattle.std.specs.Option.{option_map_or}
use Rattle.std.proofs.lemmas.Option.{none-some, same_Some, get_or_from_slice_get, slice_get_within}
use Rattle.std.proofs.lemmas.Bool.{cases_lt}
use Rattle.std.proofs.lemmas.List.{length-set, length-replicate}
use Rattle.std.specs.List.{count_by}
use Rattle.criteria_model.specs.declared.limits.TheConstants.{MAX_CLASSES}
use Rattle.survey_core.specs.declared.marks.Ranking.{Ranking}
use Rattle.survey_core.specs.declared.marks.Ranking.TheVariants.{Unranked}
use Rattle.survey_core.specs.declared.marks.Ending.{Ending}
use Rattle.survey_core.specs.declared.marks.Ending.TheVariants.{Open, Closed}
use Rattle.survey_core.specs.declared.marks.Mark.{Mark}
use Rattle.survey_core.specs.declared.marks.Question.{Question}
use Rattle.survey_core.proofs.ListSteps.{slice_get_inside}
use Rattle.survey_core.specs.Marked.{IsTable, AreSettled, is_ranking, is_settled, is_open, is_ranked_mark, is_open_mark, unmarked, with_ranking, with_issued, with_ending}
use Rattle.std.proofs.lemmas.List.Sums.{sum_by-set, sum_by-cons, sum_by-append, count_by-le-length}

-- ---- one element is written
pub set_cases : {X : Type 0} (xs : List X) (i : ℕ) (y : X) (k : ℕ) (x : X) → slice_get (slice_set xs i y) k ≡ Some x
    → ((k ≡ i) × (y ≡ x)) ⊎ ((k ≢ i) × (slice_get xs k ≡ Some x))
set_cases [] i y k x h = absurd (none-some x h)
set_cases (z ∷ xs) zero y zero x h = inl (refl, same_Some y x h)
set_cases (z ∷ xs) zero y (suc k) x h = inr (omega arith, h)
set_cases (z ∷ xs) (suc i) y zero x h = inr (omega arith, h)
set_cases (z ∷ xs) (suc i) y (suc k) x h =
    elim (set_cases xs i y k x h) [ inl here ↦ inl (omega (arith, here.0), here.1) | inr there ↦ inr (omega (arith, there.0), there.1) ]

pub count_set : {X : Type 0} (p : X → Bool) (xs : List X) (i : ℕ) (x y : X) → slice_get xs i ≡ Some x
    → count_by p (slice_set xs i y) + cond (p x) 1 0 ≡ count_by p xs + cond (p y) 1 0
count_set p xs i x y at =
    ap (λ z. count_by p (slice_set xs i y) + cond (p z) 1 0) (sym (get_or_from_slice_get xs i x x at))
    ∙ sum_by-set (λ z. cond (p z) 1 0) xs i y x (slice_get_within xs i x at)

abbrev pub one_if : Bool → ℕ
one_if b = cond b 1 0

cond_le : (b : Bool) → cond b 1 0 ≤ 1
cond_le true = omega arith
cond_le false = omega arith

-- an element that fails the test is not counted
pub count_less : {X : Type 0} (p : X → Bool) (xs : List X) (i : ℕ) (x : X) → slice_get xs i ≡ Some x → p x ≡ false → count_by p xs < length xs
count_less p [] i x at fails = absurd (none-some x at)
count_less p (z ∷ xs) zero x at fails =
    omega (arith, sum_by-cons (λ y. cond (p y) 1 0) z xs, count_by-le-length p xs, ap (λ y. one_if (p y)) (same_Some z x at), ap one_if fails)
count_less p (z ∷ xs) (suc i) x at fails =
    omega (arith, sum_by-cons (λ y. cond (p y) 1 0) z xs, count_less p xs i x at fails, cond_le (p z))

pub count_none : {X : Type 0} (p : X → Bool) (n : ℕ) (x : X) → p x ≡ false → count_by p (replicate n x) ≡ 0
count_none p zero x fails = refl
count_none p (suc n) x fails =
    omega (arith, sum_by-cons (λ y. cond (p y) 1 0) x (replicate n x), count_none p n x fails, ap one_if fails)

-- ---- a mark that is written
pub ranked_same : (classes : List Mark) (k : ℕ) (ranking : Ranking) (mark : Mark) → slice_get classes k ≡ Some mark
    → slice_set classes k (record { ranking = ranking; issued = mark.issued }) ≡ with_ranking classes k ranking
ranked_same classes k ranking mark at =
    ap (λ (o : Option Mark). slice_set classes k (record { ranking = ranking; issued = option_map_or (λ m. m.issued) o false })) (sym at)

pub issued_same : (classes : List Mark) (k : ℕ) (mark : Mark) → slice_get classes k ≡ Some mark
    → slice_set classes k (record { ranking = mark.ranking; issued = true }) ≡ with_issued classes k
issued_same classes k mark at =
    ap (λ (o : Option Mark). slice_set classes k (record { ranking = option_map_or (λ m. m.ranking) o Unranked; issued = true })) (sym at)

pub ended_same : (questions : List Question) (k : ℕ) (ending : Ending) (question : Question) → slice_get questions k ≡ Some question
    → slice_set questions k (record { place = question.place; ending = ending }) ≡ with_ending questions k ending
ended_same questions k ending question at =
    ap (λ (o : Option Question). slice_set questions k (record { place = option_map_or (λ q. q.place) o 0; ending = ending })) (sym at)

-- ---- tables
next_unmarked : (n : ℕ) (mark : Mark) → slice_get (replicate n unmarked) 0 ≡ Some mark → IsFalse (is_settled mark)
next_unmarked zero mark h = absurd (none-some mark h)
next_unmarked (suc n) mark h = subst (λ (m : Mark). IsFalse (is_settled m)) (same_Some unmarked mark h) refl

pub new_table : (n room : ℕ) → n ≤ MAX_CLASSES → n ≤ room → IsTable (record { classes = replicate n unmarked; questions = [] }) room 0 0 0
new_table n room few fits = record {
  few = omega (arith, length-replicate n unmarked);
  room_for_all = omega (arith, length-replicate n unmarked);
  asked_count = count_none (λ mark. mark.issued) n unmarked refl;
  ranked_count = count_none is_ranked_mark n unmarked refl;
  open_questions = refl;
  front = λ k mark below at. absurd (omega arith);
  next = next_unmarked n;
  within = omega arith;
}

settled_not : (mark : Mark) → IsTrue (is_settled mark) → IsFalse (is_settled mark) → ⊥
settled_not mark is gone = let both : true ≡ false = sym is ∙ gone in cc

most_front : (classes : List Mark) (settled n : ℕ) → ((mark : Mark) → slice_get classes settled ≡ Some mark → IsFalse (is_settled mark)) → n ≤ length classes
    → AreSettled classes n → (settled < n) ⊎ (n ≤ settled) → n ≤ settled
most_front classes settled n next within all (inr low) = low
most_front classes settled n next within all (inl high) =
    let found : (mark : Mark) × (slice_get classes settled ≡ Some mark) = slice_get_inside classes settled (omega arith) in
    absurd (settled_not found.0 (all settled found.0 high found.1) (next found.0 found.1))

pub front_iff : (classes : List Mark) (settled n : ℕ) → AreSettled classes settled → ((mark : Mark) → slice_get classes settled ≡ Some mark → IsFalse (is_settled mark))
    → n ≤ length classes → (n ≤ settled → AreSettled classes n) × (AreSettled classes n → n ≤ settled)
front_iff classes settled n front next within = (
  (λ low k mark below at. front k mark (omega arith) at),
  (λ all. most_front classes settled n next within all (cases_lt settled n)),
)

or_yes : (b : Bool) → (b || true) ≡ true
or_yes true = refl
or_yes false = refl

-- a class of the front stays there
pub front_kept : (classes : List Mark) (i settled : ℕ) (old new : Mark) → AreSettled classes settled → slice_get classes i ≡ Some old
    → is_settled new ≡ true → AreSettled (slice_set classes i new) settled
front_kept classes i settled old new front at busy k mark below found =
    elim (set_cases classes i new k mark found) [
      | inl here ↦ subst (λ (m : Mark). IsTrue (is_settled m)) here.1 busy
      | inr there ↦ front k mark below there.1
    ]

pub issued_settled : (ranking : Ranking) → (is_ranking ranking || true) ≡ true
issued_settled ranking = or_yes (is_ranking ranking)

module _ (classes : List Mark) (questions : List Question) (room ranked open_count settled : ℕ)
    (table : IsTable (record { classes = classes; questions = questions }) room ranked open_count settled) where
  pub ranked_table : (i after : ℕ) (mark : Mark) (ranking : Ranking) → slice_get classes i ≡ Some mark → mark.ranking ≡ Unranked → is_ranking ranking ≡ true
      → (new : List Mark) → new ≡ slice_set classes i (record { ranking = ranking; issued = mark.issued })
      → AreSettled new after → ((m : Mark) → slice_get new after ≡ Some m → IsFalse (is_settled m)) → after ≤ length new
      → IsTable (record { classes = slice_set classes i (record { ranking = ranking; issued = mark.issued }); questions = questions }) room (ranked + 1) open_count after
  ranked_table i after mark ranking at before busy new is front next within =
      let to : Mark = record { ranking = ranking; issued = mark.issued } in
      let not_yet : is_ranked_mark mark ≡ false = ap is_ranking before in
      let len : length (slice_set classes i to) ≡ length classes = length-set classes i to in
      let asked : count_by (λ m. m.issued) (slice_set classes i to) + cond mark.issued 1 0 ≡ count_by (λ m. m.issued) classes + cond mark.issued 1 0 =
      count_set (λ m. m.issued) classes i mark to at in
      let more : count_by is_ranked_mark (slice_set classes i to) + cond (is_ranked_mark mark) 1 0 ≡ count_by is_ranked_mark classes + cond (is_ranking ranking) 1 0 =
      count_set is_ranked_mark classes i mark to at in
      record {
        few = omega (arith, table.few);
        room_for_all = omega (arith, table.room_for_all);
        asked_count = omega (arith, asked, table.asked_count);
        ranked_count = omega (arith, more, table.ranked_count, ap one_if not_yet, ap one_if busy);
        open_questions = table.open_questions;
        front = subst (λ (l : List Mark). AreSettled l after) is front;
        next = subst (λ (l : List Mark). (m : Mark) → slice_get l after ≡ Some m → IsFalse (is_settled m)) is next;
        within = subst (λ (l : List Mark). after ≤ length l) is within;
      }

  pub issued_table : (i after place : ℕ) (mark : Mark) → slice_get classes i ≡ Some mark → mark.issued ≡ false
      → (new : List Mark) → new ≡ slice_set classes i (record { ranking = mark.ranking; issued = true })
      → AreSettled new after → ((m : Mark) → slice_get new after ≡ Some m → IsFalse (is_settled m)) → after ≤ length new
      → IsTable (record { classes = slice_set classes i (record { ranking = mark.ranking; issued = true }); questions = questions ++ record { place = place; ending = Open } ∷ [] })
      room ranked (open_count + 1) after
  issued_table i after place mark at before new is front next within =
      let to : Mark = record { ranking = mark.ranking; issued = true } in
      let question : Question = record { place = place; ending = Open } in
      let len : length (slice_set classes i to) ≡ length classes = length-set classes i to in
      let asked : count_by (λ m. m.issued) (slice_set classes i to) + cond mark.issued 1 0 ≡ count_by (λ m. m.issued) classes + 1 =
      count_set (λ m. m.issued) classes i mark to at in
      let same : count_by is_ranked_mark (slice_set classes i to) + cond (is_ranked_mark mark) 1 0 ≡ count_by is_ranked_mark classes + cond (is_ranked_mark mark) 1 0 =
      count_set is_ranked_mark classes i mark to at in
      let opened : count_by is_open_mark (questions ++ question ∷ []) ≡ count_by is_open_mark questions + count_by is_open_mark (question ∷ []) =
      sum_by-append (λ q. cond (is_open_mark q) 1 0) questions (question ∷ []) in
      record {
        few = omega (arith, table.few);
        room_for_all = omega (arith, table.room_for_all);
        asked_count = omega (arith, asked, table.asked_count, ap one_if before, length-append questions (question ∷ []));
        ranked_count = omega (arith, same, table.ranked_count);
        open_questions = omega (arith, opened, table.open_questions);
        front = subst (λ (l : List Mark). AreSettled l after) is front;
        next = subst (λ (l : List Mark). (m : Mark) → slice_get l after ≡ Some m → IsFalse (is_settled m)) is next;
        within = subst (λ (l : List Mark). after ≤ length l) is within;
      }

  pub ended_table : (i : ℕ) (question : Question) (ending : Ending) → slice_get questions i ≡ Some question → question.ending ≡ Open → is_open ending ≡ false
      → IsTable (record { classes = classes; questions = slice_set questions i (record { place = question.place; ending = ending }) }) room ranked (open_count - 1) settled
  ended_table i question ending at before ended =
      let to : Question = record { place = question.place; ending = ending } in
      let fewer : count_by is_open_mark (slice_set questions i to) + cond (is_open_mark question) 1 0 ≡ count_by is_open_mark questions + cond (is_open ending) 1 0 =
      count_set is_open_mark questions i question to at in
      record {
        few = table.few;
        room_for_all = table.room_for_all;
        asked_count = omega (arith, table.asked_count, length-set questions i to);
        ranked_count = table.ranked_count;
        open_questions = omega (arith, fewer, table.open_questions, ap (λ (e : Ending). one_if (is_open e)) before, ap one_if ended);
        front = table.front;
        next = table.next;
        within = table.within;
      }

  -- an open question is counted
  pub some_open : (i : ℕ) (question : Question) → slice_get questions i ≡ Some question → question.ending ≡ Open → 1 ≤ open_count
  some_open i question at before =
      omega (arith, count_set is_open_mark questions i question (record { place = 0; ending = Closed 0 }) at, table.open_questions, ap (λ (e : Ending). one_if (is_open e)) before)
