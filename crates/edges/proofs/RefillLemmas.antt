-- The step of a reader of lines that takes more bytes of its source.
use Rattle.std.proofs.Common.{◌≡◌, ℕ, ◌+◌, ◌-◌, ◌≤◌, List, ◌++◌, length, take, drop, slice_range, sym, ap, ◌∙◌, arith}
use Rattle.std.specs.Prelude.{Option}
use Rattle.std.proofs.lemmas.List.{length-drop, length-take-le, take_at}
use Rattle.std.specs.List.{copy_within}
use Rattle.std.specs.Io.KnownBytes.{prepend_known}
use Rattle.edges.specs.Told.{Takes}
use Rattle.edges.proofs.PartLemmas.{take-add}
use Rattle.edges.proofs.ToldLemmas.{prepend_known-append}

-- what was copied to the front of a buffer is there
pub take-copy_within : (old : List ℕ) (start end : ℕ) → end ≤ length old → take (end - start) (copy_within old start end 0) ≡ slice_range old start end
take-copy_within old start end within =
    let k : ℕ = end - start in
    let fits : k ≤ length (drop start old) = omega (arith, length-drop start old) in
    take_at (slice_range old start end) (drop (0 + k) old) k (length-take-le k (drop start old) fits)

-- the bytes kept stand at the front of the buffer, and n bytes of the source were taken after them
pub refilled : (kept moved new : List ℕ) (k n : ℕ) (before now : Option (List ℕ))
    → take k moved ≡ kept
    → take k new ≡ take k moved
    → Takes before now (slice_range new k (k + n))
    → prepend_known (slice_range new 0 (k + n)) now ≡ prepend_known kept before
refilled kept moved new k n before now is front taken =
    let more : List ℕ = take n (drop k new) in
    let behind : slice_range new k (k + n) ≡ more =
    let e : k + n - k ≡ n = omega arith in ap (λ m. take m (drop k new)) e in
    let whole : slice_range new 0 (k + n) ≡ kept ++ more =
    let e : k + n - 0 ≡ k + n = omega arith in
    ap (λ m. take m new) e ∙ take-add new k n ∙ ap (λ x. x ++ more) (front ∙ is) in
    ap (λ x. prepend_known x now) whole ∙ prepend_known-append kept more now ∙ ap (prepend_known kept) (sym (taken ∙ ap (λ x. prepend_known x now) behind))
