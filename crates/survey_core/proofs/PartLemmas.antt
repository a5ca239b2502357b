-- A rule is broken by one first part, and by none where each part holds.
use Rattle.std.proofs.Common.{◌≡◌, ◌⊎◌, ℕ, zero, suc, ◌<◌, List, [], ◌∷◌, Option, Some, None, IsSomeAnd, ℤ, refl, ap, sym, subst, ◌∙◌, inl, inr, arith}
use Rattle.std.proofs.lemmas.Option.{same_Some}
use Rattle.criteria_model.specs.declared.pairs.Pair.{Pair}
use Rattle.criteria_model.specs.declared.pairs.Answer.{Answer}
use Rattle.criteria_model.specs.declared.pairs.Side.{Side}
use Rattle.farkas_check.specs.declared.combination.Combination.{Combination}
use Rattle.farkas_check.specs.declared.flaws.Flaw.{Flaw}
use Rattle.farkas_check.specs.declared.flaws.Flaw.TheVariants.{Scale, Increment, Cite, Weight, Sum, Strict}
use Rattle.farkas_check.specs.Flaws.{IsFirstFlaw}
use Rattle.farkas_check.specs.Proof.{HasPositiveScale, HasNonnegativeIncrements, HasCited, HasWeights, HasSums, IsStrictEnough, Proves}
use Rattle.pair_enumeration.specs.Listed.{Listed}
use Rattle.survey_core.specs.declared.broken.Broken.{Broken}
use Rattle.survey_core.specs.declared.broken.Broken.TheVariants as broken
use Rattle.survey_core.specs.declared.events.Event.{Event}
use Rattle.survey_core.specs.declared.events.Event.TheVariants.{Eliminate, Issue, Commit, Close, Withdraw}
use Rattle.survey_core.specs.Histories.{class_at, committed}
use Rattle.survey_core.specs.Parts.{Part, part, AllHold, FirstFails}
use Rattle.survey_core.specs.Legal.{IsPlace, ProvesClass, HasFirstFlaw, eliminate_parts, issue_parts, commit_parts, close_parts, withdraw_parts, parts}
use Rattle.survey_core.specs.Laws.{OneFirstPart, AllowedLacksNone}
use Rattle.survey_core.proofs.ListSteps.{some_and}

-- ---- rules
-- a part that fails doesn't hold, and has one name
record IsProper (tested : Part) : Type 0 where
  not_both : (name : Broken) → tested.fails name → ¬ tested.holds
  one_name : (one other : Broken) → tested.fails one → tested.fails other → one ≡ other

abbrev AreProper : List Part → Type 0
AreProper [] = Unit {0}
AreProper (first ∷ later) = IsProper first × AreProper later

one_part : (name : Broken) (holds : Type 0) → IsProper (part name holds)
one_part name holds = record { not_both = λ name fails. fails.1; one_name = λ one other h k. h.0 ∙ sym k.0 }

first_once : (rule : List Part) → AreProper rule → (one other : Broken) → FirstFails rule one → FirstFails rule other → one ≡ other
first_once [] proper one other h k = absurd h
first_once (first ∷ later) proper one other (inl h) (inl k) = proper.0.one_name one other h k
first_once (first ∷ later) proper one other (inl h) (inr k) = absurd (proper.0.not_both one h k.0)
first_once (first ∷ later) proper one other (inr h) (inl k) = absurd (proper.0.not_both other k h.0)
first_once (first ∷ later) proper one other (inr h) (inr k) = first_once later proper.1 one other h.1 k.1

none_fails : (rule : List Part) → AreProper rule → (name : Broken) → AllHold rule → ¬ FirstFails rule name
none_fails [] proper name all h = h
none_fails (first ∷ later) proper name all (inl h) = proper.0.not_both name h all.0
none_fails (first ∷ later) proper name all (inr h) = none_fails later proper.1 name all.1 h.1

-- ---- the flaws of a combination, by their numbers
-- the first parts hold, up to this number
abbrev AllBelow : (ℕ → Type 0) → ℕ → Type 0
AllBelow holds zero = Unit {0}
AllBelow holds (suc n) = AllBelow holds n × holds n

-- x names the first part that fails
record IsFirstOf {X : Type 0} (holds : ℕ → Type 0) (name : ℕ → X) (x : X) : Type 0 where
  number : ℕ
  below : AllBelow holds number
  fails : ¬ holds number
  named : name number ≡ x

at_below : (holds : ℕ → Type 0) (n k : ℕ) → k < n → AllBelow holds n → holds k
at_below holds zero k lt all = absurd (omega arith)
at_below holds (suc n) k lt all =
    let either : (k ≡ n) ⊎ (k < n) = grind arith in
    elim either [ inl last ↦ subst holds (sym last) all.1 | inr before ↦ at_below holds n k before all.0 ]

order_of : (m n : ℕ) → (m < n) ⊎ ((m ≡ n) ⊎ (n < m))
order_of m n = grind arith

flaw_once : {X : Type 0} (holds : ℕ → Type 0) (name : ℕ → X) (x y : X) → IsFirstOf holds name x → IsFirstOf holds name y → x ≡ y
flaw_once holds name x y h k =
    elim (order_of h.number k.number) [
      | inl less ↦ absurd (h.fails (at_below holds k.number h.number less k.below))
      | inr other ↦ elim other [
        | inl same ↦ sym h.named ∙ ap name same ∙ k.named
        | inr more ↦ absurd (k.fails (at_below holds h.number k.number more h.below))
      ]
    ]

module _ (levels : List ℕ) (answers : List Answer) (c : Combination) (pair : Pair) (side : Side) where
  abbrev flaw_part : ℕ → Type 0
  flaw_part zero = HasPositiveScale c
  flaw_part (suc zero) = HasNonnegativeIncrements c
  flaw_part (suc (suc zero)) = HasCited answers c
  flaw_part (suc (suc (suc zero))) = HasWeights answers c
  flaw_part (suc (suc (suc (suc zero)))) = HasSums levels answers c pair side
  flaw_part (suc (suc (suc (suc (suc n))))) = IsStrictEnough answers c side

  abbrev flaw_named : ℕ → Flaw
  flaw_named zero = Scale
  flaw_named (suc zero) = Increment
  flaw_named (suc (suc zero)) = Cite
  flaw_named (suc (suc (suc zero))) = Weight
  flaw_named (suc (suc (suc (suc zero)))) = Sum
  flaw_named (suc (suc (suc (suc (suc n))))) = Strict

  abbrev IsFirst : Flaw → Type 0
  IsFirst flaw = IsFirstFlaw levels answers c pair side (Some flaw)

  first_flaw : (flaw : Flaw) → IsFirst flaw → IsFirstOf flaw_part flaw_named flaw
  first_flaw Scale h = record { number = 0; below = tt; fails = h; named = refl }
  first_flaw Increment h = record { number = 1; below = (tt, h.0); fails = h.1; named = refl }
  first_flaw Cite h = record { number = 2; below = ((tt, h.0), h.1); fails = h.2; named = refl }
  first_flaw Weight h = record { number = 3; below = (((tt, h.0), h.1), h.2); fails = h.3; named = refl }
  first_flaw Sum h = record { number = 4; below = ((((tt, h.0), h.1), h.2), h.3); fails = h.4; named = refl }
  first_flaw Strict h = record { number = 5; below = (((((tt, h.0), h.1), h.2), h.3), h.4); fails = h.5; named = refl }

  pub first_flaw_once : (one other : Flaw) → IsFirst one → IsFirst other → one ≡ other
  first_flaw_once one other h k = flaw_once flaw_part flaw_named one other (first_flaw one h) (first_flaw other k)

  pub proved_has_no_flaw : (flaw : Flaw) → Proves levels answers c pair side → ¬ IsFirst flaw
  proved_has_no_flaw Scale h k = k h.scale
  proved_has_no_flaw Increment h k = k.1 h.own
  proved_has_no_flaw Cite h k = k.2 h.cited
  proved_has_no_flaw Weight h k = k.3 h.weights
  proved_has_no_flaw Sum h k = k.4 h.sums
  proved_has_no_flaw Strict h k = k.5 h.strict

-- ---- what an event needs
two_facts : {X : Type 0} (o : Option X) (P Q : X → Type 0) → ((x : X) → P x → Q x → ⊥) → IsSomeAnd o P → ¬ IsSomeAnd o Q
two_facts None P Q apart h k = h
two_facts (Some x) P Q apart h k = apart x h k

module _ (listed : Listed) (history : List Event) where
  -- the part of an Eliminate that has the names of flaws
  proof_part : ℕ → Side → Combination → Part
  proof_part place verdict c = record { holds = ProvesClass listed history place verdict c; fails = HasFirstFlaw listed history place verdict c }

  flaw_not_both : (place : ℕ) (verdict : Side) (c : Combination) (name : Broken) → HasFirstFlaw listed history place verdict c name
      → ¬ ProvesClass listed history place verdict c
  flaw_not_both place verdict c (broken.Flaw flaw) h proved =
      let levels : List ℕ = listed.criteria.levels in
      let answers : List Answer = committed listed.classes history in
      two_facts (class_at listed.classes place) (λ pair. Proves levels answers c pair verdict)
      (λ pair. IsFirstFlaw levels answers c pair verdict (Some flaw)) (λ pair. proved_has_no_flaw levels answers c pair verdict flaw) proved h
  flaw_not_both place verdict c name h proved = h

  same_flaw : (place : ℕ) (verdict : Side) (c : Combination) (one other : Flaw) → HasFirstFlaw listed history place verdict c (broken.Flaw one)
      → HasFirstFlaw listed history place verdict c (broken.Flaw other) → one ≡ other
  same_flaw place verdict c one other h k =
      let levels : List ℕ = listed.criteria.levels in
      let answers : List Answer = committed listed.classes history in
      let First : Flaw → Pair → Type 0 = λ flaw pair. IsFirstFlaw levels answers c pair verdict (Some flaw) in
      let a : (pair : Pair) × (class_at listed.classes place ≡ Some pair) × First one pair = some_and (class_at listed.classes place) (First one) h in
      let b : (pair : Pair) × (class_at listed.classes place ≡ Some pair) × First other pair = some_and (class_at listed.classes place) (First other) k in
      let same : a.0 ≡ b.0 = same_Some a.0 b.0 (sym a.1 ∙ b.1) in
      first_flaw_once levels answers c b.0 verdict one other (subst (First one) same a.2) b.2

  flaw_one_name : (place : ℕ) (verdict : Side) (c : Combination) (one other : Broken) → HasFirstFlaw listed history place verdict c one
      → HasFirstFlaw listed history place verdict c other → one ≡ other
  flaw_one_name place verdict c (broken.Flaw f) (broken.Flaw g) h k = ap broken.Flaw (same_flaw place verdict c f g h k)
  flaw_one_name place verdict c (broken.Flaw f) other h k = absurd k
  flaw_one_name place verdict c one other h k = absurd h

  are_proper : (event : Event) → AreProper (parts listed history event)
  are_proper (Eliminate worker place verdict c) =
      (one_part _ _, (one_part _ _, (record { not_both = flaw_not_both place verdict c; one_name = flaw_one_name place verdict c }, tt)))
  are_proper (Issue desk place plus minus) =
      (one_part _ _, (one_part _ _, (one_part _ _, (one_part _ _, (one_part _ _, (one_part _ _, tt))))))
  are_proper (Commit desk question side plus minus point) = (one_part _ _, (one_part _ _, (one_part _ _, (one_part _ _, tt))))
  are_proper (Close desk question) = (one_part _ _, (one_part _ _, tt))
  are_proper (Withdraw desk answer) = (one_part _ _, (one_part _ _, tt))

pub one_first_part_lem : OneFirstPart
one_first_part_lem listed history event one other h k = first_once (parts listed history event) (are_proper listed history event) one other h k

pub allowed_lacks_none_lem : AllowedLacksNone
allowed_lacks_none_lem listed history event name may = none_fails (parts listed history event) (are_proper listed history event) name may

-- ---- where no class has the place
other_name : {name other : Broken} {holds : Type 0} (later : Type 0) → (name ≡ other → ⊥) → (((name ≡ other) × (¬ holds)) ⊎ (holds × later)) → later
other_name later differs (inl h) = absurd (differs h.0)
other_name later differs (inr h) = h.1

pub eliminate_lacks_class : (listed : Listed) (history : List Event) (place : ℕ) (verdict : Side) (c : Combination)
    → FirstFails (eliminate_parts listed history place verdict c) broken.Class → ¬ IsPlace listed place
eliminate_lacks_class listed history place verdict c (inl h) = h.1
eliminate_lacks_class listed history place verdict c (inr h) = λ is.
    elim (other_name _ (λ e. cc) h.1) [ inl flaw ↦ flaw | inr rest ↦ rest.1 ]

pub issue_lacks_class : (listed : Listed) (history : List Event) (place : ℕ) (plus minus : List ℤ)
    → FirstFails (issue_parts listed history place plus minus) broken.Class → ¬ IsPlace listed place
issue_lacks_class listed history place plus minus (inl h) = h.1
issue_lacks_class listed history place plus minus (inr h) = λ is.
    other_name _ (λ e. cc) (other_name _ (λ e. cc) (other_name _ (λ e. cc) (other_name _ (λ e. cc) (other_name _ (λ e. cc) h.1))))

pub commit_has_no_class : (listed : Listed) (history : List Event) (question : ℕ) (side : Side) (plus minus point : List ℤ)
    → ¬ FirstFails (commit_parts listed history question side plus minus point) broken.Class
commit_has_no_class listed history question side plus minus point h =
    other_name _ (λ e. cc) (other_name _ (λ e. cc) (other_name _ (λ e. cc) (other_name _ (λ e. cc) h)))

pub close_has_no_class : (history : List Event) (question : ℕ) → ¬ FirstFails (close_parts history question) broken.Class
close_has_no_class history question h = other_name _ (λ e. cc) (other_name _ (λ e. cc) h)

pub withdraw_has_no_class : (listed : Listed) (history : List Event) (answer : ℕ) → ¬ FirstFails (withdraw_parts listed history answer) broken.Class
withdraw_has_no_class listed history answer h = other_name _ (λ e. cc) (other_name _ (λ e. cc) h)
