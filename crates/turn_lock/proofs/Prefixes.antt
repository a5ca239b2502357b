-- Prefixes of lists.
use Rattle.std.proofs.Common.{◌≡◌, ◌≤◌, List, [], ◌∷◌, ◌++◌, length, refl, arith, append_assoc, append-nil, length-append}
use mathlib.Core.List.{IsPrefix}

module _ {A : Type 0} where
  pub prefix_same : (xs ys : List A) → xs ≡ ys → IsPrefix xs ys
  prefix_same xs ys e = ([], rw append-nil e)

  pub prefix_on : (xs ys zs : List A) → IsPrefix xs ys → IsPrefix ys zs → IsPrefix xs zs
  prefix_on xs ys zs p q = (p.0 ++ q.0, rw (← append_assoc) (rw p.1 q.1))

  pub prefix_le : (xs ys : List A) → IsPrefix xs ys → length xs ≤ length ys
  prefix_le xs ys p = let e : length (xs ++ p.0) ≡ length ys = cc (p.1) in omega (arith, length-append xs p.0)

  within : (xs ys us vs : List A) → xs ++ us ≡ ys ++ vs → length xs ≤ length ys → IsPrefix xs ys
  within [] ys us vs e le = (ys, refl)
  within (x ∷ xs) [] us vs e le = absurd (omega arith)
  within (x ∷ xs) (y ∷ ys) us vs e le = let t : xs ++ us ≡ ys ++ vs = cc in let r = within xs ys us vs t (omega arith) in let q = r.1 in (r.0, cc)

  -- of two prefixes of one list the shorter is a prefix of the longer
  pub prefix_of_longer : (xs ys zs : List A) → IsPrefix xs zs → IsPrefix ys zs → length xs ≤ length ys → IsPrefix xs ys
  prefix_of_longer xs ys zs p q le = let e : xs ++ p.0 ≡ ys ++ q.0 = cc (p.1, q.1) in within xs ys p.0 q.0 e le
