-- A dictionary over the rational numbers, by variable (Chvátal 1983): linear equations solved for some of their variables, the basic ones. Variables are the numbers below its size.
use Rattle.std.specs.Prelude.{◌≡◌, ℕ, zero, suc, ◌<◌, Bool, true, false, cond, ◌==◌, ℤ, pos, ◌+ℤ◌, ◌-ℤ◌, ◌*ℤ◌, neg_ℤ}

-- each basic variable, times the scale, is a constant plus a combination of the variables that are not basic
pub record RationalDictionary : Type 0 where
  pub size : ℕ
  pub scale : ℤ
  pub is_basic : ℕ → Bool
  pub entry : ℕ → ℕ → ℤ
  pub constant : ℕ → ℤ

-- f 0 + f 1 + .. + f (n - 1)
unfoldable pub sum_below : (ℕ → ℤ) → ℕ → ℤ
sum_below f zero = pos 0
sum_below f (suc n) = sum_below f n +ℤ f n

-- what the variable w adds to the equation of v
abbrev pub term : RationalDictionary → ℕ → (ℕ → ℤ) → ℕ → ℤ
term d v x w = cond (d.is_basic w) (pos 0) (d.entry v w *ℤ x w)

-- the constant plus the combination that the equation of v gives, where the constant 1 has the value `one`
abbrev pub right_side : RationalDictionary → ℤ → (ℕ → ℤ) → ℕ → ℤ
right_side d one x v = d.constant v *ℤ one +ℤ sum_below (term d v x) d.size

-- the values x of the variables meet the equation of each basic variable, where the constant 1 has the value `one`
pub record IsSolution (d : RationalDictionary) (one : ℤ) (x : ℕ → ℤ) : Type 0 where
  pub each : (v : ℕ) → v < d.size → d.is_basic v ≡ true → d.scale *ℤ x v ≡ right_side d one x v

-- the dictionary after `leaving` ceases to be basic and `entering` becomes it, with all equations times the old scale
abbrev pub exchanged : RationalDictionary → ℕ → ℕ → RationalDictionary
exchanged d leaving entering = record {
  size = d.size;
  scale = d.scale *ℤ d.entry leaving entering;
  is_basic = λ v. cond (v == entering) true (cond (v == leaving) false (d.is_basic v));
  entry = λ v w. cond (v == entering)
      (cond (w == leaving) (d.scale *ℤ d.scale) (neg_ℤ (d.scale *ℤ d.entry leaving w)))
      (cond (w == leaving) (d.scale *ℤ d.entry v entering) (d.entry leaving entering *ℤ d.entry v w -ℤ d.entry v entering *ℤ d.entry leaving w));
  constant = λ v. cond (v == entering)
      (neg_ℤ (d.scale *ℤ d.constant leaving))
      (d.entry leaving entering *ℤ d.constant v -ℤ d.entry v entering *ℤ d.constant leaving);
}
