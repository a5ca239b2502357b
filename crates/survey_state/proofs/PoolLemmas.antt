-- What a `State` keeps of the classes, after one more event.
use Rattle.std.proofs.Common.{◌≡◌, ◌≢◌, ◌⊎◌, ℕ, ◌+◌, ◌-◌, ◌<◌, ◌≤◌, min, Bool, true, false, ◌||◌, ◌==◌, not, IsTrue, IsFalse, List, [], ◌∷◌, ◌++◌, length, map, take, All, Option, Some, None, slice_get, slice_set, IfSome, MatchOption, ℤ, length-take, length-append, append-nil, refl, ap, ap₂, sym, subst, ◌∙◌, inl, inr, arith}
use Rattle.std.specs.Option.{option_map, option_map_or, option_and_then}
use Rattle.std.specs.List.{cons_option, position}
use Rattle.std.proofs.lemmas.Bool.{eq-eqb}
use Rattle.std.proofs.lemmas.List.{take-append-le, take-take, length-replicate}
use Rattle.std.proofs.lemmas.List.Elements.{All-take}
use Rattle.std.proofs.lemmas.Option.{none-some, same_Some, slice_get_within, get_or_from_slice_get}
use Rattle.criteria_model.specs.declared.pairs.Answer.{Answer}
use Rattle.criteria_model.specs.declared.pairs.Side.{Side}
use Rattle.criteria_model.specs.Answers.{Meets, MeetsAll}
use Rattle.farkas_check.specs.declared.combination.Combination.{Combination}
use Rattle.pair_enumeration.specs.Listed.{Listed}
use Rattle.question_queue.specs.declared.marks.Mark.{Mark}
use Rattle.question_queue.specs.declared.marks.Kept.{Kept}
use Rattle.question_queue.specs.Pools.{Pooled, ChangesMark, new_mark, new_pool, with_mark, as_ranked, as_asked, as_given, is_given, is_unranked, is_due, is_job, first_place, given_out, kept_at, vectors_of, met_of, cut_kept}
use Rattle.question_queue.specs.Laws.{IsFirstPlace}
use Rattle.question_queue.proofs.FirstLaws.{first_places_are_first}
use Rattle.survey_core.specs.declared.events.Event.{Event}
use Rattle.survey_core.specs.declared.events.Event.TheVariants.{Eliminate, Issue, Commit, Close, Withdraw}
use Rattle.survey_core.specs.Histories.{issued, is_issued, place_of, committed, answer_of, commits_class, is_unended, is_ranked}
use Rattle.survey_core.specs.Legal.{IsPlace, IsUnranked, AreEarlierAsked}
use Rattle.survey_core.specs.Laws.{RanksEachClass}
use Rattle.survey_core.specs.Recorded.{Recorded}
use Rattle.survey_core.proofs.ListSteps.{filtered_range, slice_get_inside}
use Rattle.survey_core.proofs.StandingLemmas.{standing-push}
use Rattle.survey_core.proofs.SoundLemmas.{IsSound, sound_history, committed-push, committed-issue, committed-withdraw, issued-same}
use Rattle.survey_core.proofs.NamedParts.{MayEliminate, MayIssue, MayCommit, MayWithdraw, named}
use Rattle.survey_core.proofs.NewLemmas.{replicate_at}
use Rattle.survey_core.proofs.NextTables.{each_set, each_mapped, map_set, other_no, or_nothing, or_something}
use Rattle.survey_state.specs.States.{given_at, IsFirstUnranked, IsFirstDue, IsKept, IsMarkOf, KeepsPool, IsLastEvent, AreMarkedUpTo, as_said}
use Rattle.survey_state.proofs.RankedLemmas.{ranked-push, asked-same, ranked-issue, asked-issue}

-- ---- one mark is changed
module _ (change : Mark → Mark) (marks : List Mark) (place : ℕ) where
  pub marks_changed : (P Q : ℕ → Mark → Type 0) → 1 ≤ place → ((k : ℕ) (mark : Mark) → slice_get marks k ≡ Some mark → P (k + 1) mark)
      → ((mark : Mark) → P place mark → Q place (change mark)) → ((other : ℕ) (mark : Mark) → place ≢ other → P other mark → Q other mark)
      → (k : ℕ) (mark : Mark) → slice_get (with_mark change marks (place - 1)) k ≡ Some mark → Q (k + 1) mark
  marks_changed P Q low each here others =
      let Each : List Mark → Type 0 = λ after. (k : ℕ) (mark : Mark) → slice_get after k ≡ Some mark → Q (k + 1) mark in
      let at_place : place - 1 + 1 ≡ place = omega arith in
      let go : (found : Option Mark) → slice_get marks (place - 1) ≡ found
      → Each (option_map_or (λ mark. slice_set marks (place - 1) (change mark)) found marks) =
      λ found. elim found as (λ found. slice_get marks (place - 1) ≡ found → Each (option_map_or (λ mark. slice_set marks (place - 1) (change mark)) found marks)) [
        | None ↦ λ none k mark at.
            others (k + 1) mark (λ same. none-some mark (sym none ∙ ap (λ n. slice_get marks n) (omega (arith, same)) ∙ at)) (each k mark at)
        | Some was ↦ λ at.
            each_set P Q marks place (change was) low each
            (here was (subst (λ (n : ℕ). P n was) at_place (each (place - 1) was at))) others
      ]
      in go (slice_get marks (place - 1)) refl

  pub given_same : ((mark : Mark) → (change mark).given ≡ mark.given) → map (λ mark. mark.given) (with_mark change marks (place - 1)) ≡ map (λ mark. mark.given) marks
  given_same keeps =
      let go : (found : Option Mark) → slice_get marks (place - 1) ≡ found
      → map (λ mark. mark.given) (option_map_or (λ mark. slice_set marks (place - 1) (change mark)) found marks) ≡ map (λ mark. mark.given) marks =
      λ found. elim found as (λ found. slice_get marks (place - 1) ≡ found
      → map (λ mark. mark.given) (option_map_or (λ mark. slice_set marks (place - 1) (change mark)) found marks) ≡ map (λ mark. mark.given) marks) [
        | None ↦ λ none. refl
        | Some was ↦ λ at. map_set (λ mark. mark.given) marks (place - 1) was (change was) at (keeps was)
      ]
      in go (slice_get marks (place - 1)) refl

pub given_changed : (change : Mark → Mark) (old new : Pooled) (place : ℕ) → ChangesMark change old new place → ((mark : Mark) → (change mark).given ≡ mark.given)
    → given_at new ≡ given_at old
given_changed change old new place is keeps = ap (λ (l : List Mark). map (λ mark. mark.given) l) is.marks ∙ given_same change old.marks place keeps

-- ---- kept vectors
meets_front : (levels : List ℕ) (answers : List Answer) (fewer many : ℕ) (vector : List ℤ) → fewer ≤ many → MeetsAll levels (take many answers) vector
    → MeetsAll levels (take fewer answers) vector
meets_front levels answers fewer many vector less meets = record {
  vector = meets.vector;
  each =
      subst (λ (l : List Answer). All (Meets levels vector) l) (take-take fewer many answers less)
      (All-take (Meets levels vector) fewer (take many answers) meets.each);
}

module _ (listed : Listed) (answers : List Answer) where
  -- more answers
  kept_longer : (more : List Answer) (place : ℕ) (latest : Option Kept) → IfSome latest (λ kept. IsKept listed answers place kept)
      → IfSome latest (λ kept. IsKept listed (answers ++ more) place kept)
  kept_longer more place None h = h
  kept_longer more place (Some kept) h =
      let front : take kept.met answers ≡ take kept.met (answers ++ more) = sym (take-append-le kept.met answers more h.within) in
      record {
        opposite = h.opposite;
        within = omega (arith, h.within, length-append answers more);
        plus_meets = subst (λ (l : List Answer). MeetsAll listed.criteria.levels l kept.plus) front h.plus_meets;
        minus_meets = subst (λ (l : List Answer). MeetsAll listed.criteria.levels l kept.minus) front h.minus_meets;
      }

  -- fewer answers
  kept_cut : (left place : ℕ) (latest : Option Kept) → left ≤ length answers → IfSome latest (λ kept. IsKept listed answers place kept)
      → IfSome (cut_kept left latest) (λ kept. IsKept listed (take left answers) place kept)
  kept_cut left place None few h = h
  kept_cut left place (Some kept) few h =
      let met : ℕ = min kept.met left in
      let front : take met answers ≡ take met (take left answers) = sym (take-take met left answers (omega arith)) in
      record {
        opposite = h.opposite;
        within = omega (arith, length-take left answers);
        plus_meets =
            subst (λ (l : List Answer). MeetsAll listed.criteria.levels l kept.plus) front
            (meets_front listed.criteria.levels answers met kept.met kept.plus (omega arith) h.plus_meets);
        minus_meets =
            subst (λ (l : List Answer). MeetsAll listed.criteria.levels l kept.minus) front
            (meets_front listed.criteria.levels answers met kept.met kept.minus (omega arith) h.minus_meets);
      }

-- ---- one more event, no withdrawal
module _ (listed : Listed) (journal history : List Event) (pool : Pooled) (before : KeepsPool listed journal pool)
    (more : List Answer) (answers_are : committed listed.classes history ≡ committed listed.classes journal ++ more) where
  kept_more : (k : ℕ) (latest : Option Kept) → slice_get pool.kept k ≡ Some latest
      → IfSome latest (λ kept. IsKept listed (committed listed.classes history) (k + 1) kept)
  kept_more k latest at =
      subst (λ (l : List Answer). IfSome latest (λ kept. IsKept listed l (k + 1) kept)) (sym answers_are)
      (kept_longer listed (committed listed.classes journal) more (k + 1) latest (before.each_kept k latest at))

  pool_marked : (change : Mark → Mark) (place : ℕ) (after : Pooled) → ChangesMark change pool after place → 1 ≤ place
      → ((mark : Mark) → IsMarkOf journal place mark → IsMarkOf history place (change mark))
      → ((other : ℕ) (mark : Mark) → place ≢ other → IsMarkOf journal other mark → IsMarkOf history other mark) → KeepsPool listed history after
  pool_marked change place after is low here others = record {
    len = is.len ∙ before.len;
    each_mark = λ k mark at.
        marks_changed change pool.marks place (IsMarkOf journal) (IsMarkOf history) low before.each_mark here others k mark
        (ap (λ (l : List Mark). slice_get l k) (sym is.marks) ∙ at);
    each_kept = λ k latest at. kept_more k latest (ap (λ (l : List (Option Kept)). slice_get l k) (sym is.kept) ∙ at);
  }

  pool_unmarked : ((place : ℕ) (mark : Mark) → IsMarkOf journal place mark → IsMarkOf history place mark) → KeepsPool listed history pool
  pool_unmarked same = record {
    len = before.len;
    each_mark = λ k mark at. same (k + 1) mark (before.each_mark k mark at);
    each_kept = kept_more;
  }

or_true : (a b : Bool) → b ≡ true → (a || b) ≡ true
or_true a b h = ap (λ c. a || c) h ∙ or_something a

or_false : (a b : Bool) → b ≡ false → (a || b) ≡ a
or_false a b h = ap (λ c. a || c) h ∙ or_nothing a

-- ---- the five kinds
module _ (core : Recorded) (pool : Pooled) where
  abbrev Keeps : Pooled → Type 0
  Keeps after = KeepsPool core.listed core.history after

  pub pool_eliminate : (worker place : ℕ) (verdict : Side) (combination : Combination) (after : Pooled)
      → IsLastEvent core (Eliminate worker place verdict combination) pool → ChangesMark as_ranked pool after place → Keeps after
  pool_eliminate worker place verdict combination after last is =
      let event : Event = Eliminate worker place verdict combination in
      let journal : List Event = last.journal in
      let history : List Event = journal ++ event ∷ [] in
      let may : MayEliminate core.listed journal place verdict combination = named core.listed journal event last.allowed in
      let sound : IsSound core.listed journal = sound_history core.listed journal last.legal in
      let ranked : (other : ℕ) → is_ranked history other ≡ (is_ranked journal other || ((place == other) || false)) =
      ranked-push journal event (standing-push journal event) refl in
      subst (λ (h : List Event). KeepsPool core.listed h after) (sym last.history)
      (pool_marked core.listed journal history pool last.kept [] (committed-push core.listed journal sound event refl (standing-push journal event))
      as_ranked place after is may.class.0
      (λ mark h. record {
        ranked = sym (ranked place ∙ or_true (is_ranked journal place) ((place == place) || false) (or_nothing (place == place) ∙ eq-eqb place place refl));
        asked = h.asked ∙ sym (asked-same journal event refl place);
      })
      (λ other mark differs h. record {
        ranked = h.ranked ∙ sym (ranked other ∙ or_false (is_ranked journal other) ((place == other) || false) (or_nothing (place == other) ∙ other_no place other differs));
        asked = h.asked ∙ sym (asked-same journal event refl other);
      }))

  pub pool_issue : (desk place : ℕ) (plus minus : List ℤ) (after : Pooled)
      → IsLastEvent core (Issue desk place plus minus) pool → ChangesMark as_asked pool after place → Keeps after
  pool_issue desk place plus minus after last is =
      let event : Event = Issue desk place plus minus in
      let journal : List Event = last.journal in
      let history : List Event = journal ++ event ∷ [] in
      let may : MayIssue core.listed journal place plus minus = named core.listed journal event last.allowed in
      let sound : IsSound core.listed journal = sound_history core.listed journal last.legal in
      let ranked : (other : ℕ) → is_ranked history other ≡ is_ranked journal other = ranked-issue core.listed journal sound desk place plus minus in
      let asked : (other : ℕ) → is_issued history other ≡ (is_issued journal other || (place == other)) = asked-issue core.listed journal sound desk place plus minus in
      subst (λ (h : List Event). KeepsPool core.listed h after) (sym last.history)
      (pool_marked core.listed journal history pool last.kept []
      (committed-issue core.listed journal sound desk place plus minus ∙ sym (append-nil (committed core.listed.classes journal)))
      as_asked place after is may.class.0
      (λ mark h. record {
        ranked = h.ranked ∙ sym (ranked place);
        asked = sym (asked place ∙ or_true (is_issued journal place) (place == place) (eq-eqb place place refl));
      })
      (λ other mark differs h. record {
        ranked = h.ranked ∙ sym (ranked other);
        asked = h.asked ∙ sym (asked other ∙ or_false (is_issued journal other) (place == other) (other_no place other differs));
      }))

  pub pool_commit : (desk question : ℕ) (side : Side) (plus minus point : List ℤ) (place : ℕ) (after : Pooled)
      → IsLastEvent core (Commit desk question side plus minus point) pool → place_of (issued core.history) question ≡ Some place → 1 ≤ place
      → ChangesMark as_ranked pool after place → Keeps after
  pool_commit desk question side plus minus point place after last asks low is =
      let event : Event = Commit desk question side plus minus point in
      let journal : List Event = last.journal in
      let history : List Event = journal ++ event ∷ [] in
      let sound : IsSound core.listed journal = sound_history core.listed journal last.legal in
      let asks_now : place_of (issued journal) question ≡ Some place =
      ap (λ (l : List ℕ). place_of l question) (sym (ap (λ (h : List Event). issued h) last.history ∙ issued-same journal event refl)) ∙ asks in
      let commits : (other : ℕ) → commits_class (issued journal) other event ≡ (place == other) =
      λ other. ap (λ (o : Option ℕ). option_map_or (λ p. p == other) o false) asks_now in
      let ranked : (other : ℕ) → is_ranked history other ≡ (is_ranked journal other || commits_class (issued journal) other event) =
      ranked-push journal event (standing-push journal event) refl in
      subst (λ (h : List Event). KeepsPool core.listed h after) (sym last.history)
      (pool_marked core.listed journal history pool last.kept (cons_option (answer_of core.listed.classes (issued journal) event) [])
      (committed-push core.listed journal sound event refl (standing-push journal event))
      as_ranked place after is low
      (λ mark h. record {
        ranked = sym (ranked place ∙ or_true (is_ranked journal place) (commits_class (issued journal) place event) (commits place ∙ eq-eqb place place refl));
        asked = h.asked ∙ sym (asked-same journal event refl place);
      })
      (λ other mark differs h. record {
        ranked = h.ranked ∙ sym (ranked other ∙ or_false (is_ranked journal other) (commits_class (issued journal) other event) (commits other ∙ other_no place other differs));
        asked = h.asked ∙ sym (asked-same journal event refl other);
      }))

  pub pool_close : (desk question : ℕ) → IsLastEvent core (Close desk question) pool → Keeps pool
  pool_close desk question last =
      let event : Event = Close desk question in
      let journal : List Event = last.journal in
      let history : List Event = journal ++ event ∷ [] in
      let sound : IsSound core.listed journal = sound_history core.listed journal last.legal in
      subst (λ (h : List Event). KeepsPool core.listed h pool) (sym last.history)
      (pool_unmarked core.listed journal history pool last.kept [] (committed-push core.listed journal sound event refl (standing-push journal event))
      (λ place mark h. record {
        ranked = h.ranked ∙ sym (ranked-push journal event (standing-push journal event) refl place ∙ or_nothing (is_ranked journal place));
        asked = h.asked ∙ sym (asked-same journal event refl place);
      }))

  -- the question of a Commit was asked
  pub commit_asked : (desk question : ℕ) (side : Side) (plus minus point : List ℤ) → IsLastEvent core (Commit desk question side plus minus point) pool
      → (1 ≤ question) × (question ≤ length (issued core.history))
  commit_asked desk question side plus minus point last =
      let event : Event = Commit desk question side plus minus point in
      let may : MayCommit core.listed last.journal question side plus minus point = named core.listed last.journal event last.allowed in
      let found : (1 ≤ question) × (question < 1 + length (issued last.journal)) × (is_unended last.journal question ≡ true) =
      filtered_range (is_unended last.journal) 1 (length (issued last.journal)) question may.open_question in
      let same : length (issued core.history) ≡ length (issued last.journal) =
      ap (λ (h : List Event). length (issued h)) last.history ∙ ap (λ (l : List ℕ). length l) (issued-same last.journal event refl) in
      (found.0, omega (arith, found.1, same))

  -- ---- Withdraw
  module _ (desk answer : ℕ) (last : IsLastEvent core (Withdraw desk answer) pool) where
    withdraw_event : Event
    withdraw_event = Withdraw desk answer

    pub some_answer : 1 ≤ answer
    some_answer =
        let may : MayWithdraw core.listed last.journal answer = named core.listed last.journal (Withdraw desk answer) last.allowed in may.last_answer.0

    pub marked_first : (marks : List Mark) → marks ≡ pool.marks → AreMarkedUpTo core 0 marks
    marked_first marks same =
        subst (λ (l : List Mark). AreMarkedUpTo core 0 l) (sym same)
        (record {
          len = last.kept.len;
          asked = λ k mark at.
              (last.kept.each_mark k mark at).asked ∙ sym (asked-same last.journal (Withdraw desk answer) refl (k + 1))
              ∙ ap (λ (h : List Event). is_issued h (k + 1)) (sym last.history);
          ranked = λ k mark low. absurd (omega arith);
        })

    pub pool_withdraw : (after : Pooled) → AreMarkedUpTo core (length core.listed.classes) after.marks → after.kept ≡ map (cut_kept (answer - 1)) pool.kept → Keeps after
    pool_withdraw after marked kept_is =
        let event : Event = Withdraw desk answer in
        let journal : List Event = last.journal in
        let answers : List Answer = committed core.listed.classes journal in
        let may : MayWithdraw core.listed journal answer = named core.listed journal event last.allowed in
        let sound : IsSound core.listed journal = sound_history core.listed journal last.legal in
        let left : ℕ = answer - 1 in
        let answers_are : committed core.listed.classes core.history ≡ take left answers =
        ap (λ (h : List Event). committed core.listed.classes h) last.history
        ∙ committed-withdraw core.listed journal sound desk answer may.last_answer.1
        ∙ ap (λ n. take (n - 1) answers) (sym may.last_answer.1) in
        let few : left ≤ length answers = omega (arith, may.last_answer.1) in
        record {
          len = marked.len;
          each_mark = λ k mark at. record {
            ranked = marked.ranked k mark (omega (arith, marked.len, slice_get_within after.marks k mark at)) at;
            asked = marked.asked k mark at;
          };
          each_kept = λ k latest at.
              subst (λ (l : List Answer). IfSome latest (λ kept. IsKept core.listed l (k + 1) kept)) (sym answers_are)
              (each_mapped
              (λ place latest. IfSome latest (λ kept. IsKept core.listed answers place kept))
              (λ place latest. IfSome latest (λ kept. IsKept core.listed (take left answers) place kept))
              (cut_kept left) pool.kept last.kept.each_kept (λ place latest. kept_cut core.listed answers left place latest few) k latest
              (ap (λ (l : List (Option Kept)). slice_get l k) (sym kept_is) ∙ at));
        }

-- one class more is marked
pub marked_next : (core : Recorded) (count : ℕ) (old new : Pooled) → ChangesMark (as_said (is_ranked core.history (count + 1))) old new (count + 1)
    → AreMarkedUpTo core count old.marks → AreMarkedUpTo core (count + 1) new.marks
marked_next core count old new is before = record {
  len = is.len ∙ before.len;
  asked = λ k mark at.
      marks_changed (as_said (is_ranked core.history (count + 1))) old.marks (count + 1)
      (λ place m. m.asked ≡ is_issued core.history place) (λ place m. m.asked ≡ is_issued core.history place) (omega arith)
      before.asked (λ m h. h) (λ other m differs h. h) k mark (ap (λ (l : List Mark). slice_get l k) (sym is.marks) ∙ at);
  ranked = λ k mark low at.
      marks_changed (as_said (is_ranked core.history (count + 1))) old.marks (count + 1)
      (λ place m. place ≤ count → m.ranked ≡ is_ranked core.history place) (λ place m. place ≤ count + 1 → m.ranked ≡ is_ranked core.history place) (omega arith)
      (λ j m found within. before.ranked j m (omega arith) found) (λ m h within. refl) (λ other m differs h within. h (omega (arith, differs)))
      k mark (ap (λ (l : List Mark). slice_get l k) (sym is.marks) ∙ at) (omega arith);
}

-- ---- tests of a mark
not_false : (b : Bool) → IsFalse (not b) → b ≡ true
not_false true h = refl
not_false false h = absurd cc

not_true : (b : Bool) → IsTrue (not b) → b ≡ false
not_true true h = absurd cc
not_true false h = refl

none_of : (a b : Bool) → IsTrue (not (a || b)) → (a ≡ false) × (b ≡ false)
none_of true b h = absurd cc
none_of false b h = (refl, not_true b h)

some_of : (a b : Bool) → IsFalse (not (a || b)) → (a ≡ true) ⊎ (b ≡ true)
some_of true b h = inl refl
some_of false b h = inr (not_false b h)

match_by : {X : Type 0} {P Q : Type 0} {A B : X → Type 0} (o : Option X) → (P → Q) → ((x : X) → A x → B x) → MatchOption o P A → MatchOption o Q B
match_by None none some h = none h
match_by (Some x) none some h = some x h

either_by : {journal : List Event} {place : ℕ} → ((mark : Mark) × IsMarkOf journal place mark × IsFalse (is_due mark))
    → IsTrue (is_ranked journal place) ⊎ IsTrue (is_issued journal place)
either_by h = elim (some_of h.0.ranked h.0.asked h.2) [ inl ranked ↦ inl (sym h.1.ranked ∙ ranked) | inr asked ↦ inr (sym h.1.asked ∙ asked) ]

-- ---- a new pool, of no events
pub new_kept : (listed : Listed) (count : ℕ) → count ≡ length listed.classes → KeepsPool listed [] (new_pool count)
new_kept listed count size = record {
  len = length-replicate count new_mark ∙ size;
  each_mark = λ k mark at.
      subst (λ (m : Mark). IsMarkOf [] (k + 1) m) (replicate_at count new_mark k mark at) (record { ranked = refl; asked = refl });
  each_kept = λ k latest at.
      subst (λ (o : Option Kept). IfSome o (λ kept. IsKept listed (committed listed.classes []) (k + 1) kept)) (replicate_at count None k latest at) tt;
}

-- ---- what a `State` answers from it
module _ {listed : Listed} {journal : List Event} {pool : Pooled} (kept : KeepsPool listed journal pool) where
  -- the mark of a class
  mark_of : (place : ℕ) (mark : Mark) → 1 ≤ place → slice_get pool.marks (place - 1) ≡ Some mark → IsMarkOf journal place mark
  mark_of place mark low at =
      let same : place - 1 + 1 ≡ place = omega arith in
      subst (λ (n : ℕ). IsMarkOf journal n mark) same (kept.each_mark (place - 1) mark at)

  found_mark : (place : ℕ) → 1 ≤ place → place ≤ length pool.marks → (mark : Mark) × (slice_get pool.marks (place - 1) ≡ Some mark)
  found_mark place low high = slice_get_inside pool.marks (place - 1) (omega arith)

  -- where the test fails for all marks, or for all before a place
  none_passes : (test : Mark → Bool) → All (λ mark. IsFalse (test mark)) pool.marks → (place : ℕ) → 1 ≤ place → place ≤ length pool.marks
      → (mark : Mark) × IsMarkOf journal place mark × IsFalse (test mark)
  none_passes test all place low high =
      let found : (mark : Mark) × (slice_get pool.marks (place - 1) ≡ Some mark) = found_mark place low high in (
        found.0,
        mark_of place found.0 low found.1,
        subst (λ (m : Mark). IsFalse (test m)) (get_or_from_slice_get pool.marks (place - 1) found.0 found.0 found.1)
            (all (place - 1) found.0 (omega arith)),
      )

  earlier_fails : (test : Mark → Bool) (place : ℕ) → IsFirstPlace test pool.marks place → (earlier : ℕ) → 1 ≤ earlier → earlier < place
      → (mark : Mark) × IsMarkOf journal earlier mark × IsFalse (test mark)
  earlier_fails test place first earlier low less =
      let found : (mark : Mark) × (slice_get pool.marks (earlier - 1) ≡ Some mark) = found_mark earlier low (omega (arith, first.high)) in
      (found.0, mark_of earlier found.0 low found.1, first.earlier (earlier - 1) found.0 (omega arith) found.1)

  first_passes : (test : Mark → Bool) (place : ℕ) → IsFirstPlace test pool.marks place → (mark : Mark) × IsMarkOf journal place mark × IsTrue (test mark)
  first_passes test place first =
      let found : (mark : Mark) × (slice_get pool.marks (place - 1) ≡ Some mark) = found_mark place first.low first.high in
      (found.0, mark_of place found.0 first.low found.1, first.passes found.0 found.1)

  class_of_first : (test : Mark → Bool) (place : ℕ) → IsFirstPlace test pool.marks place → IsPlace listed place
  class_of_first test place first = (first.low, omega (arith, first.high, kept.len))

  pub first_unranked_is : MatchOption (first_place is_unranked pool.marks) (RanksEachClass listed journal) (λ place. IsFirstUnranked listed journal place)
  first_unranked_is =
      match_by (first_place is_unranked pool.marks)
      (λ all place is.
      let here = none_passes is_unranked all place is.0 (omega (arith, is.1, kept.len)) in
      sym here.1.ranked ∙ not_false here.0.ranked here.2)
      (λ place first.
      let here = first_passes is_unranked place first in
      record {
        class = class_of_first is_unranked place first;
        unranked = sym here.1.ranked ∙ not_true here.0.ranked here.2;
        earlier = λ earlier low less.
            (let there = earlier_fails is_unranked place first earlier low less in
            sym there.1.ranked ∙ not_false there.0.ranked there.2);
      })
      (first_places_are_first is_unranked pool.marks)

  pub first_due_is : MatchOption (first_place is_due pool.marks) (AreEarlierAsked journal (length listed.classes + 1)) (λ place. IsFirstDue listed journal place)
  first_due_is =
      match_by (first_place is_due pool.marks)
      (λ all earlier low less. either_by (none_passes is_due all earlier low (omega (arith, less, kept.len))))
      (λ place first.
      let here = first_passes is_due place first in
      let neither = none_of here.0.ranked here.0.asked here.2 in
      record {
        class = class_of_first is_due place first;
        unranked = sym here.1.ranked ∙ neither.0;
        unasked = sym here.1.asked ∙ neither.1;
        earlier = λ earlier low less. either_by (earlier_fails is_due place first earlier low less);
      })
      (first_places_are_first is_due pool.marks)

  pub job_is : (version : ℕ) → MatchOption (first_place (is_job version) pool.marks) (Unit {0}) (λ place. IsPlace listed place × IsUnranked journal place)
  job_is version =
      match_by (first_place (is_job version) pool.marks) (λ all. tt)
      (λ place first.
      let here = first_passes (is_job version) place first in
      (class_of_first (is_job version) place first, sym here.1.ranked ∙ (none_of here.0.ranked (is_given version here.0.given) here.2).0))
      (first_places_are_first (is_job version) pool.marks)

  -- what is given out is marked as before
  pub job_kept : (version : ℕ) (after : Pooled) → after.marks ≡ given_out version pool.marks → length after.marks ≡ length pool.marks → after.kept ≡ pool.kept
      → KeepsPool listed journal after
  job_kept version after marks_are len same = record {
    len = len ∙ kept.len;
    each_mark = λ k mark at. given_mark (position (is_job version) pool.marks) k mark (ap (λ (l : List Mark). slice_get l k) (sym marks_are) ∙ at);
    each_kept = λ k latest at. kept.each_kept k latest (ap (λ (l : List (Option Kept)). slice_get l k) (sym same) ∙ at);
  }
    where
      given_mark : (found : Option ℕ) (k : ℕ) (mark : Mark)
          → slice_get (option_map_or (λ before. with_mark (as_given version) pool.marks before) found pool.marks) k ≡ Some mark → IsMarkOf journal (k + 1) mark
      given_mark None k mark at = kept.each_mark k mark at
      given_mark (Some before) k mark at =
          let one_back : before ≡ before + 1 - 1 = omega arith in
          marks_changed (as_given version) pool.marks (before + 1) (IsMarkOf journal) (IsMarkOf journal) (omega arith) kept.each_mark
          (λ m h. record { ranked = h.ranked; asked = h.asked }) (λ other m differs h. h) k mark
          (ap (λ n. slice_get (with_mark (as_given version) pool.marks n) k) (sym one_back) ∙ at)

  -- vectors are kept for a class
  pub vectors_kept : (place : ℕ) (vectors : Kept) (after : Pooled) → 1 ≤ place → IsKept listed (committed listed.classes journal) place vectors
      → after.marks ≡ pool.marks → after.kept ≡ slice_set pool.kept (place - 1) (Some vectors) → KeepsPool listed journal after
  vectors_kept place vectors after low is same kept_is = record {
    len = ap (λ (l : List Mark). length l) same ∙ kept.len;
    each_mark = λ k mark at. kept.each_mark k mark (ap (λ (l : List Mark). slice_get l k) (sym same) ∙ at);
    each_kept = λ k latest at.
        each_set KeptFor KeptFor pool.kept place (Some vectors) low kept.each_kept is (λ other o differs h. h) k latest
        (ap (λ (l : List (Option Kept)). slice_get l k) (sym kept_is) ∙ at);
  }
    where
      KeptFor : ℕ → Option Kept → Type 0
      KeptFor place latest = IfSome latest (λ kept. IsKept listed (committed listed.classes journal) place kept)

  pub kept_is : (place : ℕ) → 1 ≤ place → IfSome (kept_at pool.kept place) (λ kept. IsKept listed (committed listed.classes journal) place kept)
  kept_is place low =
      let same : place - 1 + 1 ≡ place = omega arith in
      let go : (found : Option (Option Kept)) → slice_get pool.kept (place - 1) ≡ found
      → IfSome (option_and_then (λ latest. latest) found) (λ kept. IsKept listed (committed listed.classes journal) place kept) =
      λ found. elim found as (λ found. slice_get pool.kept (place - 1) ≡ found
      → IfSome (option_and_then (λ latest. latest) found) (λ kept. IsKept listed (committed listed.classes journal) place kept)) [
        | None ↦ λ none. tt
        | Some latest ↦ λ at.
            subst (λ (n : ℕ). IfSome latest (λ kept. IsKept listed (committed listed.classes journal) n kept)) same (kept.each_kept (place - 1) latest at)
      ]
      in go (slice_get pool.kept (place - 1)) refl

  pub kept_as : (place met : ℕ) (plus minus : List ℤ) → 1 ≤ place → option_map vectors_of (kept_at pool.kept place) ≡ Some (plus, minus)
      → met ≡ met_of (kept_at pool.kept place) → IsKept listed (committed listed.classes journal) place (record { plus = plus; minus = minus; met = met })
  kept_as place met plus minus low vectors count = by (kept_at pool.kept place) (kept_is place low) vectors count
    where
      by : (o : Option Kept) → IfSome o (λ kept. IsKept listed (committed listed.classes journal) place kept) → option_map vectors_of o ≡ Some (plus, minus)
          → met ≡ met_of o → IsKept listed (committed listed.classes journal) place (record { plus = plus; minus = minus; met = met })
      by None h is many = absurd (none-some (plus, minus) is)
      by (Some found) h is many =
          let both : (found.plus, found.minus) ≡ (plus, minus) = same_Some (found.plus, found.minus) (plus, minus) is in
          let same : found ≡ record { plus = plus; minus = minus; met = met } =
          ap₂ (λ (p m : List ℤ). record { plus = p; minus = m; met = found.met }) (ap (λ (v : List ℤ × List ℤ). v.0) both) (ap (λ (v : List ℤ × List ℤ). v.1) both)
          ∙ ap (λ (n : ℕ). record { plus = plus; minus = minus; met = n }) (sym many) in
          subst (λ (k : Kept). IsKept listed (committed listed.classes journal) place k) same h

-- a pool by its parts
pub pool_by : (pool : Pooled) (marks : List Mark) (kept : List (Option Kept)) → pool.marks ≡ marks → pool.kept ≡ kept → pool ≡ record { marks = marks; kept = kept }
pool_by pool marks kept one other = ap₂ (λ (m : List Mark) (k : List (Option Kept)). record { marks = m; kept = k }) one other
