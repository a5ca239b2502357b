use Rattle.std.proofs.Common.{◌≡◌, ◌∙◌, ◌<◌, ◌^◌, ℤ, pos, ◌-ℤ◌, ◌*ℤ◌, unsigned_abs, FitsSigned, to_z, of_z, sym, ap, arith}
use Rattle.std.specs.Int.{w128}
use Rattle.std.proofs.lemmas.Int.{to_z-of_z}
use Rattle.wide_step.specs.Quotient.{HasQuotient}
use Rattle.row_laws.proofs.Integers.{read_back}
use Rattle.fraction_free.proofs.UnitSteps.{unit_step, unit_step_is, unit_step_fits}
use Rattle.fraction_free.proofs.lines.quotient_of.Goals as goal

one_back : (z : ℤ) → unsigned_abs z < 2 ^ 126 → of_z w128 z ≡ 1 → z ≡ pos 1
one_back z h e = sym (read_back w128 z (omega arith)) ∙ ap (to_z w128) e

scale_one : (z s : ℤ) → FitsSigned w128 z → z ≡ s → of_z w128 z ≡ 1 → s ≡ pos 1
scale_one z s fits is e = sym is ∙ sym (to_z-of_z w128 z fits) ∙ ap (to_z w128) e

kept_is : (a x f y s : ℤ) → a ≡ pos 1 → s ≡ pos 1 → unsigned_abs x < 2 ^ 89 → unsigned_abs f < 2 ^ 89 → unsigned_abs y < 2 ^ 89 → (h : HasQuotient (a *ℤ x -ℤ f *ℤ y) s) → to_z w128 (of_z w128 (unit_step x f y)) ≡ h.quotient
kept_is a x f y s e g x_size f_size y_size h = to_z-of_z w128 (unit_step x f y) (unit_step_fits a x f y s e g x_size f_size y_size h) ∙ unit_step_is a x f y s e g x_size f_size y_size h

pub overflow_sub-result : goal.overflow_sub-result
overflow_sub-result c =
    unit_step_fits c.args.entry c.args.number c.args.factor c.args.other c.args.scale.now
    (one_back c.args.entry (let size = c.requires.entry_size in omega arith) c.if-entry-eq1.true)
    (scale_one c.number.result c.args.scale.now (record { sfits = c.number.type_inv }) c.number.ensures c.if-number-eq1.true)
    c.requires.number_size c.requires.factor_size c.requires.other_size c.requires.exact

pub returns-then-number-eq1-clause-quotient : goal.returns-then-number-eq1-clause-quotient
returns-then-number-eq1-clause-quotient c =
    ap (λ (n : ℤ). n *ℤ c.args.scale.now)
    (kept_is c.args.entry c.args.number c.args.factor c.args.other c.args.scale.now
    (one_back c.args.entry (let size = c.requires.entry_size in omega arith) c.if-entry-eq1.true)
    (scale_one c.number.result c.args.scale.now (record { sfits = c.number.type_inv }) c.number.ensures c.if-number-eq1.true)
    c.requires.number_size c.requires.factor_size c.requires.other_size c.requires.exact)
    ∙ c.requires.exact.exact

pub returns-then-number-eq1-clause-size : goal.returns-then-number-eq1-clause-size
returns-then-number-eq1-clause-size c =
    rw (kept_is c.args.entry c.args.number c.args.factor c.args.other c.args.scale.now
    (one_back c.args.entry (let size = c.requires.entry_size in omega arith) c.if-entry-eq1.true)
    (scale_one c.number.result c.args.scale.now (record { sfits = c.number.type_inv }) c.number.ensures c.if-number-eq1.true)
    c.requires.number_size c.requires.factor_size c.requires.other_size c.requires.exact)
    c.requires.exact.size
