-- The least-index rule for pivots (Bland 1977), for dictionaries whose basic variables are to become at least 0.
use Rattle.std.specs.Prelude.{◌≡◌, ℕ, zero, suc, ◌^◌, ◌<◌, Bool, cond, not, ◌&&◌, nat_lt, int_lt, ℤ, pos, ◌<ℤ◌}
use Rattle.least_index.specs.Dictionary.{RationalDictionary, IsSolution, exchanged}

-- the least number below n that passes the test, or n
unfoldable pub first : (ℕ → Bool) → ℕ → ℕ
first test zero = zero
first test (suc n) = cond (nat_lt (first test n) n) (first test n) (cond (test n) n (suc n))

-- a basic variable that is below 0 where the variables that are not basic are 0
abbrev pub is_infeasible : RationalDictionary → ℕ → Bool
is_infeasible d v = d.is_basic v && int_lt (d.constant v) (pos 0)

-- a variable that is not basic and helps v, which rises with it
abbrev pub helps : RationalDictionary → ℕ → ℕ → Bool
helps d v w = not (d.is_basic w) && int_lt (pos 0) (d.entry v w)

-- the least infeasible variable leaves the basis, and the least one that helps it enters
unfoldable pub leaving : RationalDictionary → ℕ
leaving d = first (is_infeasible d) d.size

unfoldable pub entering : RationalDictionary → ℕ
entering d = first (helps d (leaving d)) d.size

-- the rule names no pivot
abbrev pub is_end : RationalDictionary → Bool
is_end d = not (nat_lt (leaving d) d.size && nat_lt (entering d) d.size)

-- the dictionary after the rule's pivot
unfoldable pub next : RationalDictionary → RationalDictionary
next d = exchanged d (leaving d) (entering d)

-- how many pivots the rule makes from here, of which n at most are counted
unfoldable pub pivots_within : ℕ → RationalDictionary → ℕ
pivots_within zero d = zero
pivots_within (suc n) d = cond (is_end d) zero (suc (pivots_within n (next d)))

-- how many pivots the rule makes from here
abbrev pub pivots_left : RationalDictionary → ℕ
pivots_left d = pivots_within (2 ^ d.size) d

-- two dictionaries of one basis, where the second holds of all that satisfies the first
pub record Covers (d other : RationalDictionary) : Type 0 where
  pub size : other.size ≡ d.size
  pub basis : (v : ℕ) → v < d.size → other.is_basic v ≡ d.is_basic v
  pub positive : pos 0 <ℤ d.scale
  pub other_positive : pos 0 <ℤ other.scale
  pub solutions : (one : ℤ) (x : ℕ → ℤ) → IsSolution d one x → IsSolution other one x
