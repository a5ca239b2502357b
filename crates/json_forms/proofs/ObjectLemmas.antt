-- The compact text of an object, member after member. `l` are the literal texts between the members' values.
use Rattle.std.proofs.Common.{◌≡◌, ℕ, List, ◌++◌, append_assoc, refl}

-- two values in an inner object
pub two_within : (old l1 a l2 b t1 t2 t3 p q r s now : List ℕ) → p ≡ old ++ l1 → q ≡ p ++ a → r ≡ q ++ l2 → s ≡ r ++ b → now ≡ s ++ (t1 ++ (t2 ++ t3))
    → now ≡ old ++ (((l1 ++ (a ++ (l2 ++ (b ++ t1)))) ++ t2) ++ t3)
two_within old l1 a l2 b t1 t2 t3 p q r s now ep eq er es en = rw (en, es, er, eq, ep) (simp (append_assoc) refl)

-- three values
pub three : (old l1 a l2 b l3 c t1 p q r s u v now : List ℕ) → p ≡ old ++ l1 → q ≡ p ++ a → r ≡ q ++ l2 → s ≡ r ++ b → u ≡ s ++ l3 → v ≡ u ++ c → now ≡ v ++ t1
    → now ≡ old ++ (l1 ++ (a ++ (l2 ++ (b ++ (l3 ++ (c ++ t1))))))
three old l1 a l2 b l3 c t1 p q r s u v now ep eq er es eu ev en = rw (en, ev, eu, es, er, eq, ep) (simp (append_assoc) refl)

-- three values in an inner object
pub three_within : (old l1 a l2 b l3 c t1 t2 t3 p q r s u v now : List ℕ) → p ≡ old ++ l1 → q ≡ p ++ a → r ≡ q ++ l2 → s ≡ r ++ b → u ≡ s ++ l3 → v ≡ u ++ c → now ≡ v ++ (t1 ++ (t2 ++ t3))
    → now ≡ old ++ (((l1 ++ (a ++ (l2 ++ (b ++ (l3 ++ (c ++ t1)))))) ++ t2) ++ t3)
three_within old l1 a l2 b l3 c t1 t2 t3 p q r s u v now ep eq er es eu ev en = rw (en, ev, eu, es, er, eq, ep) (simp (append_assoc) refl)
