use Rattle.std.proofs.Common.{◌≡◌, ◌⊎◌, inl, inr, ℕ, ◌+◌, ◌-◌, ◌<◌, ◌≤◌, ℤ, pos, ◌<ℤ◌, FitsSigned, to_z, of_z, sym, ap, subst, ◌∙◌, arith, refl, true, false}
use mir.Syntax.{w128}
use lib.Signed.{lt_z}
use Rattle.std.proofs.lemmas.Int.{ints, to_z-of_z}
use Rattle.std.proofs.lemmas.Bool.{cases_lt}
use Rattle.fraction_free.specs.Dictionary.{DictionaryView, entry_in}
use Rattle.simplex.specs.Raise.{ComesToZero, IsNoLater}
use Rattle.simplex.proofs.Raises.{sooner_first, sooner_comes, still_first}
use Rattle.simplex.proofs.raise.first_at_zero.Goals as goal
use Rattle.simplex.proofs.raise.first_at_zero.Goals.{then-entry-lt0+in-Some, else-entry-lt0, Joined-entry-lt0}

-- the entry as it was read
read : (c : Joined-entry-lt0) → to_z w128 (of_z w128 c.entry.result) ≡ entry_in c.args.work.now c.loop-at.at (c.args.col - 1)
read c =
    let fits : FitsSigned w128 c.entry.result = record { sfits = c.entry.type_inv } in
    let at : c.loop-at.at + 1 - 1 ≡ c.loop-at.at = omega arith in
    to_z-of_z w128 c.entry.result fits ∙ c.entry.ensures ∙ ap (λ (k : ℕ). entry_in c.args.work.now k (c.args.col - 1)) at

pub loop-at-preserved : goal.loop-at-preserved
loop-at-preserved c =
    let at : c.loop-at.at + 1 - 1 ≡ c.loop-at.at = omega arith in
    elim c.if-entry-lt0.branch [
      | then-entry-lt0+in-Some w ↦
          (let falls : ComesToZero c.args.work.now (c.args.last - 1) (c.args.col - 1) (c.loop-at.at + 1 - 1) =
          (let less = subst (λ (x : ℤ). lt_z x (pos 0) ≡ true) (read c ∙ ap (λ (k : ℕ). entry_in c.args.work.now k (c.args.col - 1)) (sym at)) w.if-entry-lt0.true in inr (omega (arith, ints, less))) in
          let sooner = w.in-Some.ensures in
          record {
            low = elim sooner.one [ inl e ↦ omega (arith, e, w.first-is, c.loop-at.invariant.low) | inr e ↦ omega (arith, e, w.first-is) ];
            high = elim sooner.one [ inl e ↦ omega (arith, e, w.first-is, c.loop-at.invariant.high) | inr e ↦ omega (arith, e, w.first-is, c.loop-at-test.true, c.requires.last) ];
            comes = subst (λ (f : ℕ). ComesToZero c.args.work.now (c.args.last - 1) (c.args.col - 1) (f - 1)) (sym w.first-is)
                (sooner_comes c.args.work.now (c.args.last - 1) (c.args.col - 1) c.loop-at.first (c.loop-at.at + 1) w.in-Some.sooner c.loop-at.invariant.comes falls sooner.one);
            first = λ other which other_comes. subst (λ (f : ℕ). IsNoLater c.args.work.now (c.args.col - 1) (f - 1) other) (sym w.first-is)
                (sooner_first c.args.work.now (c.args.last - 1) (c.args.col - 1) c.loop-at.first (c.loop-at.at + 1) w.in-Some.sooner c.loop-at.at c.requires.helps c.loop-at.invariant.comes refl sooner c.loop-at.invariant.first other which other_comes);
          })
      | else-entry-lt0 w ↦
          record {
            low = omega (arith, w.first-is, c.loop-at.invariant.low);
            high = omega (arith, w.first-is, c.loop-at.invariant.high);
            comes = subst (λ (f : ℕ). ComesToZero c.args.work.now (c.args.last - 1) (c.args.col - 1) (f - 1)) (sym w.first-is) c.loop-at.invariant.comes;
            first = λ other which other_comes. subst (λ (f : ℕ). IsNoLater c.args.work.now (c.args.col - 1) (f - 1) other) (sym w.first-is)
                (still_first c.args.work.now (c.args.last - 1) (c.args.col - 1) c.loop-at.first c.loop-at.at c.loop-at-test.true
                (λ falls. let not_less = subst (λ (x : ℤ). lt_z x (pos 0) ≡ false) (read c) w.if-entry-lt0.false in omega (arith, ints, falls, not_less)) c.loop-at.invariant.first other which other_comes);
          }
    ]
