-- The lines of a text: a line ends with the byte 0x0A, which is no part of it.
use Rattle.std.specs.Prelude.{◌≡◌, ◌≢◌, ℕ, List, [], ◌∷◌, ◌++◌, ◌==◌, All, Contains, if◌then◌else◌}

-- the byte that ends a line
abbrev pub line_end : ℕ
line_end = 0x0A

-- no byte of the text ends a line
abbrev pub HasNoLineEnd : List ℕ → Type 0
HasNoLineEnd text = All (λ byte. byte ≢ line_end) text

-- some byte of the text ends a line
abbrev pub HasLineEnd : List ℕ → Type 0
HasLineEnd text = Contains text line_end

-- the bytes before the first line end of a text, or all of them where it has none
abbrev pub first_line : List ℕ → List ℕ
first_line [] = []
first_line (byte ∷ text) = if byte == line_end then [] else byte ∷ first_line text

-- lines, one after another, each with its line end
abbrev pub unlines : List (List ℕ) → List ℕ
unlines [] = []
unlines (line ∷ lines) = line ++ line_end ∷ unlines lines

-- a text is these lines, each with its line end, and then the rest
pub record Splits (text : List ℕ) (lines : List (List ℕ)) (rest : List ℕ) : Type 0 where
  pub whole : text ≡ unlines lines ++ rest
  pub unbroken : All HasNoLineEnd lines

-- a text is some lines, and a rest that has no line end
abbrev pub EachTextSplits : Type 0
EachTextSplits = (text : List ℕ) → (lines : List (List ℕ)) × (rest : List ℕ) × Splits text lines rest × HasNoLineEnd rest

-- in one way only
abbrev pub OneSplit : Type 0
OneSplit =
    (text : List ℕ) (lines others : List (List ℕ)) (rest other_rest : List ℕ) → Splits text lines rest → Splits text others other_rest
    → HasNoLineEnd rest → HasNoLineEnd other_rest → (lines ≡ others) × (rest ≡ other_rest)
