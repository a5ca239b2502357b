-- What may not follow, or doesn't prove, lacks a first part: said as "not none", since the parts need not be decided.
use Rattle.std.proofs.Common.{◌≡◌, ℕ, ◌-◌, List, [], ◌∷◌, length, refl, sym, subst, inl, inr, arith}
use Rattle.std.specs.Prelude.{Option, Some, IsSomeAnd}
use Rattle.criteria_model.specs.declared.pairs.Pair.{Pair}
use Rattle.criteria_model.specs.declared.pairs.Answer.{Answer}
use Rattle.criteria_model.specs.declared.pairs.Side.{Side}
use Rattle.criteria_model.specs.Worth.{increments}
use Rattle.farkas_check.specs.declared.combination.Combination.{Combination}
use Rattle.farkas_check.specs.declared.flaws.Flaw.{Flaw}
use Rattle.farkas_check.specs.declared.flaws.Flaw.TheVariants as flaws
use Rattle.farkas_check.specs.Flaws.{IsFirstFlaw}
use Rattle.farkas_check.specs.Proof.{Proves}
use Rattle.pair_enumeration.specs.Listed.{Listed}
use Rattle.survey_core.specs.declared.broken.Broken.{Broken}
use Rattle.survey_core.specs.declared.broken.Broken.TheVariants as broken
use Rattle.survey_core.specs.declared.events.Event.{Event}
use Rattle.survey_core.specs.declared.events.Event.TheVariants as events
use Rattle.survey_core.specs.Histories.{class_at, committed}
use Rattle.survey_core.specs.Legal.{IsEvent, MayFollow, FailsFirst, eliminate_parts, issue_parts, commit_parts, close_parts, withdraw_parts}
use Rattle.survey_core.specs.Parts.{Part, part, AllHold, FirstFails}
use Rattle.row_laws.proofs.ItemLemmas.{item_of, slice_get_inside}

-- a combination of the right length that proves no verdict has a first flaw
pub some_flaw : (levels : List ℕ) (answers : List Answer) (combination : Combination) (pair : Pair) (side : Side)
    → length combination.increments ≡ increments levels
    → ((flaw : Flaw) → ¬ IsFirstFlaw levels answers combination pair side (Some flaw)) → ¬ (Proves levels answers combination pair side) → ⊥
some_flaw levels answers combination pair side len none not_proved =
    none flaws.Scale (λ scale. none flaws.Increment (
      scale,
      λ own. none flaws.Cite (
        scale,
        own,
        λ cited.
            none flaws.Weight (
              scale,
              own,
              cited,
              λ weights. none flaws.Sum (
                scale,
                own,
                cited,
                weights,
                λ sums.
                    none flaws.Strict (
                      scale,
                      own,
                      cited,
                      weights,
                      sums,
                      λ strict.
                          not_proved (record { len = len; scale = scale; own = own; cited = cited; weights = weights; sums = sums; strict = strict }),
                    ),
              ),
            ),
      ),
    ))

-- a part that doesn't hold has a name by which it fails
abbrev CanFail : Part → Type 0
CanFail tested = ¬ tested.holds → ¬ ((name : Broken) → ¬ tested.fails name)

abbrev CanAllFail : List Part → Type 0
CanAllFail [] = Unit {0}
CanAllFail (first ∷ later) = CanFail first × CanAllFail later

one_can : (name : Broken) (holds : Type 0) → CanFail (part name holds)
one_can name holds lacks none = none name (refl, lacks)

-- a rule whose parts can fail is broken by a first part, or each part holds
some_first : (rule : List Part) → CanAllFail rule → ((name : Broken) → ¬ FirstFails rule name) → ¬ (AllHold rule) → ⊥
some_first [] can none not_all = not_all tt
some_first (first ∷ later) can none not_all =
    can.0 (λ holds. some_first later can.1 (λ name h. none name (inr (holds, h))) (λ all. not_all (holds, all))) (λ name h. none name (inl h))

-- an elimination of no class, of a ranked one, or with a flaw
some_eliminate_part : (listed : Listed) (history : List Event) (place : ℕ) (verdict : Side) (combination : Combination)
    → length combination.increments ≡ increments listed.criteria.levels
    → ((name : Broken) → ¬ FirstFails (eliminate_parts listed history place verdict combination) name)
    → ¬ (AllHold (eliminate_parts listed history place verdict combination)) → ⊥
some_eliminate_part listed history place verdict combination len none not_all =
    none broken.Class (inl (
      refl,
      λ is_place. none broken.Ranked (inr (
        is_place,
        inl (
          refl,
          λ unranked.
              let answers : List Answer = committed listed.classes history in
              let levels : List ℕ = listed.criteria.levels in
              let found = slice_get_inside listed.classes (place - 1) (omega (arith, is_place.0, is_place.1)) in
              let at : class_at listed.classes place ≡ Some found.0 = item_of listed.classes place found.0 is_place.0 found.1 in
              some_flaw levels answers combination found.0 verdict len
              (λ flaw h. none (broken.Flaw flaw) (inr (
                is_place,
                inr (
                  unranked,
                  inl
                      (subst (λ (o : Option Pair). IsSomeAnd o (λ pair. IsFirstFlaw levels answers combination pair verdict (Some flaw))) (sym at) h),
                ),
              )))
              (λ proved. not_all (is_place, (unranked, (subst (λ (o : Option Pair). IsSomeAnd o (λ pair. Proves levels answers combination pair verdict)) (sym at) proved, tt)))),
        ),
      )),
    ))

-- an event of the model that may not follow lacks a first part
pub some_part : (listed : Listed) (history : List Event) (event : Event) → IsEvent listed.criteria.levels event
    → ((name : Broken) → ¬ FailsFirst listed history event name) → ¬ (MayFollow listed history event) → ⊥
some_part listed history (events.Eliminate worker place verdict combination) is_event none not_may =
    some_eliminate_part listed history place verdict combination is_event.1 none not_may
some_part listed history (events.Issue desk place plus minus) is_event none not_may =
    some_first (issue_parts listed history place plus minus) (one_can _ _, (one_can _ _, (one_can _ _, (one_can _ _, (one_can _ _, (one_can _ _, tt)))))) none not_may
some_part listed history (events.Commit desk question side plus minus point) is_event none not_may =
    some_first (commit_parts listed history question side plus minus point) (one_can _ _, (one_can _ _, (one_can _ _, (one_can _ _, tt)))) none not_may
some_part listed history (events.Close desk question) is_event none not_may =
    some_first (close_parts history question) (one_can _ _, (one_can _ _, tt)) none not_may
some_part listed history (events.Withdraw desk answer) is_event none not_may =
    some_first (withdraw_parts listed history answer) (one_can _ _, (one_can _ _, tt)) none not_may
