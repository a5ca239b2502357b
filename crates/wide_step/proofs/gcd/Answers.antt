use Rattle.std.proofs.Common.{arith, ◌≡◌, ℕ, ◌∙◌, refl, unsigned_abs, pos, to_z, ap, sym}
use Rattle.std.proofs.lemmas.Int.{to_z_pos, to_z-of_z}
use Rattle.std.specs.Int.{w128, IsGcd}
use Rattle.std.proofs.lemmas.Nat.Gcd.{same_from_IsGcd, IsGcd-from_zero}
use Rattle.wide_step.proofs.gcd.Goals as goal

gcd_along : (k l m n g h : ℕ) → m ≡ k → n ≡ l → g ≡ h → IsGcd m n g → IsGcd k l h
gcd_along k l m n g h e f i w = rw (sym e, sym f, sym i) w

gcd_zero : (g : ℕ) → IsGcd 0 0 g → g ≡ 0
gcd_zero g w = same_from_IsGcd 0 0 g 0 w (IsGcd-from_zero 0 0 refl)

result_is : (c : goal.After-gcd_of_sizes) → to_z w128 c.gcd_of_sizes.result ≡ pos c.gcd_of_sizes.result
result_is c = to_z_pos w128 c.gcd_of_sizes.result (omega arith)

sizes_gcd : (c : goal.After-gcd_of_sizes) → IsGcd (unsigned_abs c.args.a) (unsigned_abs c.args.b) c.gcd_of_sizes.result
sizes_gcd c =
    gcd_along _ _ _ _ _ _
    (c.unsigned_abs.ensures.value ∙ ap unsigned_abs (to_z-of_z w128 c.args.a c.ranges.a))
    (c.unsigned_abs-2.ensures.value ∙ ap unsigned_abs (to_z-of_z w128 c.args.b c.ranges.b))
    refl c.gcd_of_sizes.ensures.greatest

pub returns-clause-greatest : goal.returns-clause-greatest
returns-clause-greatest c =
    gcd_along _ _ _ _ _ _ refl refl (ap unsigned_abs (sym (result_is c))) (sizes_gcd c)

pub returns-clause-zero : goal.returns-clause-zero
returns-clause-zero c a b =
    result_is c ∙ ap pos (gcd_zero _ (gcd_along _ _ _ _ _ _ (ap unsigned_abs a) (ap unsigned_abs b) refl (sizes_gcd c)))
