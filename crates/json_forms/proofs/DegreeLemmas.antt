-- A degree past 2^32 has the fault of any that is too large.
use Rattle.std.proofs.Common.{◌≡◌, ℕ, ◌+◌, ◌<◌, ◌≤◌, min, List, length, nat_lt, ◌||◌, ◌==◌, Bool, true, false, if◌then◌else◌, Option, Some, None, refl, ◌∙◌, sym, ap, arith}
use Rattle.std.proofs.lemmas.Bool.Decides.{nat_tests}
use Rattle.criteria_model.specs.declared.faults.ModelFault.{ModelFault}
use Rattle.criteria_model.specs.declared.faults.ModelFault.TheVariants.{NoCriteria, Levels, Increments, Degree}
use Rattle.criteria_model.specs.declared.limits.TheConstants.{MAX_INCREMENTS}
use Rattle.criteria_model.specs.Faults.{model_fault, first_low}
use Rattle.criteria_model.specs.Worth.{increments}

past : (len degree : ℕ) → len < degree → (nat_lt degree 1 || nat_lt len degree) ≡ true
past len degree over = grind (arith, nat_tests)

-- where the degree is too large, which one it is doesn't matter
chosen : (a b c over : Bool) (x y z : Option ModelFault) (rest : Option ModelFault) → over ≡ true
    → (if a then x else if b then y else if c then z else if over then Some Degree else rest) ≡ (if a then x else if b then y else if c then z else Some Degree)
chosen a b c over x y z rest h = rw h refl

too_large : (levels : List ℕ) (degree other : ℕ) → length levels < degree → length levels < other → model_fault levels degree ≡ model_fault levels other
too_large levels degree other over too =
    chosen (length levels == 0) (nat_lt (first_low levels) (length levels)) (nat_lt MAX_INCREMENTS (increments levels)) _ _ _ _ _ (past (length levels) degree over)
    ∙ sym (chosen (length levels == 0) (nat_lt (first_low levels) (length levels)) (nat_lt MAX_INCREMENTS (increments levels)) _ _ _ _ _ (past (length levels) other too))

faulty : (a b c : Bool) (x y z : ModelFault) → (if a then Some x else if b then Some y else if c then Some z else Some Degree) ≡ None → ⊥
faulty true b c x y z h = cc h
faulty false true c x y z h = cc h
faulty false false true x y z h = cc h
faulty false false false x y z h = cc h

within : (levels : List ℕ) (degree : ℕ) → model_fault levels degree ≡ None → length levels < degree → ⊥
within levels degree none over =
    faulty (length levels == 0) (nat_lt (first_low levels) (length levels)) (nat_lt MAX_INCREMENTS (increments levels)) _ _ _
    (sym (chosen (length levels == 0) (nat_lt (first_low levels) (length levels)) (nat_lt MAX_INCREMENTS (increments levels)) _ _ _ _ _ (past (length levels) degree over)) ∙ none)

capped : (degree most : ℕ) → degree ≤ most → min degree most ≡ degree
capped degree most h = omega arith

above : (degree most : ℕ) (b : Bool) → nat_lt most degree ≡ b → b ≡ true → most < degree
above degree most b is h = grind (arith, nat_tests)

below : (degree most : ℕ) → nat_lt most degree ≡ false → degree ≤ most
below degree most h = grind (arith, nat_tests)

over : (levels : List ℕ) (degree most : ℕ) → length levels < most → most < degree → length levels < min degree most
over levels degree most few large = omega (arith, few, large)

pub capped_fault : (levels : List ℕ) (degree most : ℕ) → length levels < most → model_fault levels (min degree most) ≡ model_fault levels degree
capped_fault levels degree most few = by (nat_lt most degree) refl
  where
    by : (b : Bool) → nat_lt most degree ≡ b → model_fault levels (min degree most) ≡ model_fault levels degree
    by true large =
        let more = above degree most true large refl in
        too_large levels (min degree most) degree (over levels degree most few more) (omega (arith, few, more))
    by false fits = ap (model_fault levels) (capped degree most (below degree most fits))

pub capped_degree : (levels : List ℕ) (degree most : ℕ) → length levels < most → model_fault levels (min degree most) ≡ None → min degree most ≡ degree
capped_degree levels degree most few none = by (nat_lt most degree) refl
  where
    by : (b : Bool) → nat_lt most degree ≡ b → min degree most ≡ degree
    by true large = absurd (within levels (min degree most) none (over levels degree most few (above degree most true large refl)))
    by false fits = capped degree most (below degree most fits)

many : (a b c : Bool) (x y z : ModelFault) (rest : Option ModelFault) → c ≡ true → (if a then Some x else if b then Some y else if c then Some z else rest) ≡ None → ⊥
many true b c x y z rest large h = cc h
many false true c x y z rest large h = cc h
many false false true x y z rest large h = cc h
many false false false x y z rest large h = cc large

by_test : (steps : ℕ) (b : Bool) → nat_lt MAX_INCREMENTS steps ≡ b → (b ≡ true → ⊥) → steps ≤ MAX_INCREMENTS
by_test steps true is never = absurd (never refl)
by_test steps false is never = below steps MAX_INCREMENTS is

-- a model without fault has few increments
pub few_increments : (levels : List ℕ) (degree : ℕ) → model_fault levels degree ≡ None → increments levels ≤ MAX_INCREMENTS
few_increments levels degree none =
    by_test (increments levels) (nat_lt MAX_INCREMENTS (increments levels)) refl
    (λ large. many (length levels == 0) (nat_lt (first_low levels) (length levels)) (nat_lt MAX_INCREMENTS (increments levels)) NoCriteria (Levels (first_low levels + 1)) (Increments (increments levels)) _ large none)
