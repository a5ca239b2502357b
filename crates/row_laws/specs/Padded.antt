-- Lists of at most `size` items, and how they lie in as many cells.
use Rattle.std.specs.Prelude.{◌≡◌, ℕ, ◌-◌, ◌≤◌, List, ◌++◌, length, take, drop, replicate}
use Rattle.std.proofs.Common.{ap, sym, ◌∙◌, take-append-drop, length-take, arith}

-- the items, and after them x up to the size
abbrev pub padded : {X : Type 0} → ℕ → X → List X → List X
padded size x items = items ++ replicate (size - length items) x

-- the first n cells are items, and the others hold x
pub record IsPadded {X : Type 0} (size : ℕ) (x : X) (n : ℕ) (cells : List X) : Type 0 where
  pub most : n ≤ size
  pub cells_len : length cells ≡ size
  pub unused : drop n cells ≡ replicate (size - n) x

pub padded-take : {X : Type 0} (size : ℕ) (x : X) (n : ℕ) (cells : List X) → IsPadded size x n cells → padded size x (take n cells) ≡ cells
padded-take size x n cells h =
    let len : length (take n cells) ≡ n = simp length-take (omega (arith, h.most, h.cells_len)) in
    ap (λ k. take n cells ++ replicate (size - k) x) len
    ∙ ap (λ rest. take n cells ++ rest) (sym h.unused)
    ∙ take-append-drop n cells

pub length-padded : {X : Type 0} (size : ℕ) (x : X) (n : ℕ) (cells : List X) → IsPadded size x n cells → length (take n cells) ≡ n
length-padded size x n cells h = simp length-take (omega (arith, h.most, h.cells_len))
