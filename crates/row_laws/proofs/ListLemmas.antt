-- Lists that std's lemmas leave open: parts of `Any`, and items written over the first cells of a padded list.
use Rattle.std.proofs.Common.{◌≡◌, ◌⊎◌, inl, inr, ℕ, zero, suc, ◌≤◌, List, ◌∷◌, ◌++◌, length, take, drop, replicate, refl, ap, sym, subst, ◌∙◌, arith, length-append, length-drop}
use Rattle.std.specs.Prelude.{Any}
use Rattle.std.proofs.Math.Seq.{take-append_seam, drop-append_seam}
use Rattle.std.proofs.lemmas.List.{drop-replicate, length-replicate}
use Rattle.row_laws.specs.Padded.{IsPadded}

-- what holds of some item holds of the first or of some later one
pub Any-cases : {X : Type 0} (P : X → Type 0) (x : X) (xs : List X) → Any P (x ∷ xs) → P x ⊎ Any P xs
Any-cases P x xs (zero, y, within, at, h) = inl (subst P (sym at) h)
Any-cases P x xs (suc k, y, within, at, h) = inr (k, y, omega arith, at, h)

pub Any-here : {X : Type 0} (P : X → Type 0) (x : X) (xs : List X) → P x → Any P (x ∷ xs)
Any-here P x xs h = (0, x, omega arith, refl, h)

pub Any-there : {X : Type 0} (P : X → Type 0) (x : X) (xs : List X) → Any P xs → Any P (x ∷ xs)
Any-there P x xs h = (suc h.0, h.1, omega (arith, h.2), h.3, h.4)

-- items that were written over the first of `size` cells of x, and what holds of the items
pub written_over : {X : Type 0} (size : ℕ) (x : X) (items written : List X) (P : List X → Type 0) → length items ≤ size → written ≡ items → P items
    → IsPadded size x (length items) (written ++ drop (length items) (replicate size x)) × P (take (length items) (written ++ drop (length items) (replicate size x)))
written_over size x items written P most same h =
    let rest = drop (length items) (replicate size x) in
    let cells = ap (λ front. front ++ rest) same in (
      record {
        most = most;
        cells_len = ap length cells ∙ omega (arith, length-append items rest, length-drop (length items) (replicate size x), length-replicate size x);
        unused = ap (drop (length items)) cells ∙ drop-append_seam items rest ∙ drop-replicate (length items) size x;
      },
      subst P (sym (ap (take (length items)) cells ∙ take-append_seam items rest)) h,
    )
