use Rattle.std.proofs.Common.{Some, refl, ap, ◌∙◌, subst}
use Rattle.criteria_model.specs.Classes.{IsClass}
use Rattle.pair_enumeration.specs.declared.flips.Flip.TheVariants.{Kept, Turned}
use Rattle.pair_enumeration.proofs.PlaceLemmas.{AreAlternatives, written_pair}
use Rattle.pair_enumeration.proofs.PlaceLaws.{unlisted, is_place_of, class_question, only_place, no_place, no_question, none_is}
use Rattle.pair_enumeration.proofs.classes.Classes.place_of.Goals as goal

pub returns-in-Some-clause-some : goal.returns-in-Some-clause-some
returns-in-Some-clause-some c =
    let h : AreAlternatives c.args.self.now.criteria.levels c.args.a.now c.args.b.now = record { first = c.requires.a_fits; second = c.requires.b_fits } in
    let k = subst (IsClass c.args.self.now.criteria) c.cancelled_pair.ensures (c.in-Some.ensures.some.0 refl) in
    (λ _. class_question c.args.self.now c.args.a.now c.args.b.now Kept h k, λ _. refl)

pub returns-in-Some-clause-found : goal.returns-in-Some-clause-found
returns-in-Some-clause-found c =
    let h : AreAlternatives c.args.self.now.criteria.levels c.args.a.now c.args.b.now = record { first = c.requires.a_fits; second = c.requires.b_fits } in
    is_place_of c.args.self.now c.args.a.now c.args.b.now c.in-Some.place Kept h (c.in-Some.ensures.found ∙ ap Some c.cancelled_pair.ensures)

pub returns-in-Some-clause-only : goal.returns-in-Some-clause-only
returns-in-Some-clause-only c =
    let h : AreAlternatives c.args.self.now.criteria.levels c.args.a.now c.args.b.now = record { first = c.requires.a_fits; second = c.requires.b_fits } in
    let p = is_place_of c.args.self.now c.args.a.now c.args.b.now c.in-Some.place Kept h (c.in-Some.ensures.found ∙ ap Some c.cancelled_pair.ensures) in
    λ place flip q. only_place c.args.self.now c.args.a.now c.args.b.now c.in-Some.place place Kept flip c.in-Some.ensures.listed h p q

pub returns-in_err-place-clause-some : goal.returns-in_err-place-clause-some
returns-in_err-place-clause-some c =
    let h : AreAlternatives c.args.self.now.criteria.levels c.args.a.now c.args.b.now = record { first = c.requires.a_fits; second = c.requires.b_fits } in
    let n = unlisted c.args.self.now.criteria _ (written_pair c.args.a.now c.args.b.now) c.in_default.ensures.some c.cancelled_pair.ensures in
    let m = unlisted c.args.self.now.criteria _ (written_pair c.args.b.now c.args.a.now) c.in_err-place.ensures.some c.cancelled_pair-2.ensures in
    (λ s. absurd (none_is c.from_residual.result c.from_residual.ensures s), λ q. absurd (no_question c.args.self.now c.args.a.now c.args.b.now h n m q))

pub returns-in_err-place-clause-only : goal.returns-in_err-place-clause-only
returns-in_err-place-clause-only c =
    let h : AreAlternatives c.args.self.now.criteria.levels c.args.a.now c.args.b.now = record { first = c.requires.a_fits; second = c.requires.b_fits } in
    let n = unlisted c.args.self.now.criteria _ (written_pair c.args.a.now c.args.b.now) c.in_default.ensures.some c.cancelled_pair.ensures in
    let m = unlisted c.args.self.now.criteria _ (written_pair c.args.b.now c.args.a.now) c.in_err-place.ensures.some c.cancelled_pair-2.ensures in
    λ place flip p. absurd (no_place c.args.self.now c.args.a.now c.args.b.now place flip c.in_default.ensures.listed h n m p)

pub returns-clause-some : goal.returns-clause-some
returns-clause-some c =
    let h : AreAlternatives c.args.self.now.criteria.levels c.args.a.now c.args.b.now = record { first = c.requires.a_fits; second = c.requires.b_fits } in
    let k = subst (IsClass c.args.self.now.criteria) c.cancelled_pair-2.ensures (c.in_ok-place.ensures.some.0 refl) in
    (λ _. class_question c.args.self.now c.args.a.now c.args.b.now Turned h k, λ _. refl)

pub returns-clause-found : goal.returns-clause-found
returns-clause-found c =
    let h : AreAlternatives c.args.self.now.criteria.levels c.args.a.now c.args.b.now = record { first = c.requires.a_fits; second = c.requires.b_fits } in
    is_place_of c.args.self.now c.args.a.now c.args.b.now c.in_ok-place.place Turned h (c.in_ok-place.ensures.found ∙ ap Some c.cancelled_pair-2.ensures)

pub returns-clause-only : goal.returns-clause-only
returns-clause-only c =
    let h : AreAlternatives c.args.self.now.criteria.levels c.args.a.now c.args.b.now = record { first = c.requires.a_fits; second = c.requires.b_fits } in
    let p = is_place_of c.args.self.now c.args.a.now c.args.b.now c.in_ok-place.place Turned h (c.in_ok-place.ensures.found ∙ ap Some c.cancelled_pair-2.ensures) in
    λ place flip q. only_place c.args.self.now c.args.a.now c.args.b.now c.in_ok-place.place place Turned flip c.in_ok-place.ensures.listed h p q
