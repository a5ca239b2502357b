-- The lines of a text, one after another.
use Rattle.std.proofs.Common.{◌≡◌, ◌≢◌, ℕ, ◌+◌, ◌<◌, ◌≤◌, Bool, List, [], ◌∷◌, ◌++◌, length, take, drop, ap, subst, inl, inr, sym, ◌∙◌, refl, arith, if◌then◌else◌, ne_eqb, append_assoc}
use Rattle.std.proofs.lemmas.Bool.Decides.{eqb_tells}
use Rattle.std.proofs.lemmas.List.{length-append, length-take-le, take-append-drop}
use Rattle.std.proofs.lemmas.List.Elements.{All-cons, All-contains, All-head, All-nil, All-tail, Contains-get_or, Contains-append_right}
use Rattle.edges.specs.Line.{HasLineEnd, HasNoLineEnd, first_line, line_end, unlines}

-- the first line of a text that begins with a byte that is no line end
first_line-byte : (byte : ℕ) (text : List ℕ) → byte ≢ line_end → first_line (byte ∷ text) ≡ byte ∷ first_line text
first_line-byte byte text ne = ap (λ b. if b then [] else byte ∷ first_line text) (ne_eqb byte line_end ne)

module _ (byte : ℕ) (text : List ℕ) (none : HasNoLineEnd (byte ∷ text)) where
  head_is_none : byte ≢ line_end
  head_is_none = All-head (λ b. b ≢ line_end) byte text none

  tail_has_none : HasNoLineEnd text
  tail_has_none = All-tail (λ b. b ≢ line_end) byte text none

-- a line and its line end: the line is the first one
pub first_line-line : (line rest : List ℕ) → HasNoLineEnd line → first_line (line ++ line_end ∷ rest) ≡ line
first_line-line [] rest none = refl
first_line-line (byte ∷ line) rest none =
    first_line-byte byte (line ++ line_end ∷ rest) (head_is_none byte line none) ∙ ap (λ xs. byte ∷ xs) (first_line-line line rest (tail_has_none byte line none))

-- bytes without a line end, and what follows them
pub first_line-append : (piece rest : List ℕ) → HasNoLineEnd piece → first_line (piece ++ rest) ≡ piece ++ first_line rest
first_line-append [] rest none = refl
first_line-append (byte ∷ piece) rest none =
    first_line-byte byte (piece ++ rest) (head_is_none byte piece none) ∙ ap (λ xs. byte ∷ xs) (first_line-append piece rest (tail_has_none byte piece none))

-- a text without a line end is its own first line
pub first_line-piece : (piece : List ℕ) → HasNoLineEnd piece → first_line piece ≡ piece
first_line-piece [] none = refl
first_line-piece (byte ∷ piece) none =
    first_line-byte byte piece (head_is_none byte piece none) ∙ ap (λ xs. byte ∷ xs) (first_line-piece piece (tail_has_none byte piece none))

-- a first line has no line end
pub HasNoLineEnd-first_line : (text : List ℕ) → HasNoLineEnd (first_line text)
HasNoLineEnd-first_line [] = All-nil (λ b. b ≢ line_end)
HasNoLineEnd-first_line (byte ∷ text) =
    let P : Bool → Type 0 = λ b. HasNoLineEnd (if b then [] else byte ∷ first_line text) in
    elim (eqb_tells byte line_end) [
      | inl p ↦ subst P (sym p.0) (All-nil (λ b. b ≢ line_end))
      | inr p ↦ subst P (sym p.0) (All-cons (λ b. b ≢ line_end) byte (first_line text) p.1 (HasNoLineEnd-first_line text))
    ]

-- a line and its line end hold a line end
pub HasLineEnd-line : (line rest : List ℕ) → HasLineEnd (line ++ line_end ∷ rest)
HasLineEnd-line line rest = Contains-append_right line (line_end ∷ rest) line_end (Contains-get_or (line_end ∷ rest) 0 0 (omega arith))

-- no text both has a line end and has none
pub HasNoLineEnd-not : (text : List ℕ) → HasNoLineEnd text → HasLineEnd text → ⊥
HasNoLineEnd-not text none some = All-contains (λ b. b ≢ line_end) text line_end none some refl

-- more than n bytes without a line end: the first line is longer than n
pub first_line-long : (kept rest : List ℕ) (n : ℕ) → n < length kept → HasNoLineEnd (take (n + 1) kept) → n < length (first_line (kept ++ rest))
first_line-long kept rest n lt none =
    let front : List ℕ = take (n + 1) kept in
    let behind : List ℕ = drop (n + 1) kept ++ rest in
    let split : kept ++ rest ≡ front ++ behind =
    ap (λ xs. xs ++ rest) (sym (take-append-drop (n + 1) kept)) ∙ append_assoc front (drop (n + 1) kept) rest in
    let e : first_line (kept ++ rest) ≡ front ++ first_line behind =
    ap first_line split ∙ first_line-append front behind none in
    let fits : n + 1 ≤ length kept = omega arith in
    omega (arith, ap length e, length-append front (first_line behind), length-take-le (n + 1) kept fits)

-- one more line
pub unlines-push : (lines : List (List ℕ)) (line rest : List ℕ) → unlines (lines ++ line ∷ []) ++ rest ≡ unlines lines ++ (line ++ line_end ∷ rest)
unlines-push [] line rest = append_assoc line (line_end ∷ []) rest
unlines-push (first ∷ lines) line rest =
    append_assoc first (line_end ∷ unlines (lines ++ line ∷ [])) rest ∙ ap (λ xs. first ++ line_end ∷ xs) (unlines-push lines line rest) ∙ sym (append_assoc first (line_end ∷ unlines lines) (line ++ line_end ∷ rest))

-- a text that begins with lines: its first line is the first of them
pub first_line-unlines : (line : List ℕ) (lines : List (List ℕ)) (rest : List ℕ) → HasNoLineEnd line → first_line (unlines (line ∷ lines) ++ rest) ≡ line
first_line-unlines line lines rest none =
    ap first_line (append_assoc line (line_end ∷ unlines lines) rest) ∙ first_line-line line (unlines lines ++ rest) none
