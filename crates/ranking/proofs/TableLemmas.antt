-- A table that is taken from its source piece by piece.
use Rattle.std.proofs.Common.{◌≡◌, ℕ, ◌+◌, ◌-◌, ◌≤◌, List, ◌++◌, length, take, drop, slice_range, sym, ap, ◌∙◌, arith}
use Rattle.std.specs.Prelude.{Option, Some, None, IfSome}
use Rattle.std.specs.Io.KnownBytes.{prepend_known}
use Rattle.std.proofs.lemmas.List.{append-nil, length-append}
use Rattle.edges.specs.Told.{IsAtEnd, Takes}
use Rattle.edges.proofs.PartLemmas.{take-add}
use Rattle.edges.proofs.ToldLemmas.{prepend_known-append}

-- some bytes were taken, and then n more behind them
pub taken_more : (first before now : Option (List ℕ)) (old new : List ℕ) (len n : ℕ) → Takes first before (take len old) → take len new ≡ take len old
    → Takes before now (slice_range new len (len + n)) → Takes first now (take (len + n) new)
taken_more first before now old new len n taken front more =
    let range : slice_range new len (len + n) ≡ take n (drop len new) = let e : len + n - len ≡ n = omega arith in ap (λ m. take m (drop len new)) e in
    let all : take (len + n) new ≡ take len old ++ slice_range new len (len + n) =
    take-add new len n ∙ ap (λ (xs : List ℕ). take len new ++ xs) (sym range) ∙ ap (λ (xs : List ℕ). xs ++ slice_range new len (len + n)) front in
    taken ∙ ap (prepend_known (take len old)) more ∙ sym (prepend_known-append (take len old) (slice_range new len (len + n)) now) ∙ ap (λ (xs : List ℕ). prepend_known xs now) (sym all)

-- all was taken
pub taken_all : (first now : Option (List ℕ)) (taken : List ℕ) → Takes first now taken → IsAtEnd now → IfSome first (λ text. text ≡ taken)
taken_all None now taken takes ended = tt
taken_all (Some text) None taken takes ended = cc
taken_all (Some text) (Some rest) taken takes ended =
    let whole : text ≡ taken ++ rest = cc in
    whole ∙ ap (λ (xs : List ℕ). taken ++ xs) ended ∙ append-nil taken

-- as much was taken at least
pub taken_some : (first now : Option (List ℕ)) (taken : List ℕ) → Takes first now taken → IfSome first (λ text. length taken ≤ length text)
taken_some None now taken takes = tt
taken_some (Some text) None taken takes = cc
taken_some (Some text) (Some rest) taken takes =
    let whole : text ≡ taken ++ rest = cc in
    omega (arith, ap length whole, length-append taken rest)
