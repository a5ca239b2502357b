-- A text has its lines in one way.
use Rattle.std.proofs.Common.{◌≡◌, ◌≢◌, ◌⊎◌, ℕ, suc, List, [], ◌∷◌, ◌++◌, drop, refl, sym, ap, subst, ◌∙◌, inl, inr, arith, append_assoc, append-nil}
use Rattle.std.specs.List.{All}
use Rattle.std.proofs.lemmas.Bool.Decides.{eqb_tells}
use Rattle.std.proofs.lemmas.List.{append_cancel_left}
use Rattle.std.proofs.lemmas.List.Elements.{All-nil, All-cons, All-head, All-tail}
use Rattle.edges.specs.Line.{line_end, HasNoLineEnd, Splits, unlines, first_line, EachTextSplits, OneSplit}
use Rattle.edges.proofs.LineLaws.{HasLineEnd-line, HasNoLineEnd-not, first_line-line}

-- ---- one line

-- a text that begins with a line begins with no other
pub line_once : (line other rest other_rest : List ℕ) → HasNoLineEnd line → HasNoLineEnd other
    → line ++ line_end ∷ rest ≡ other ++ line_end ∷ other_rest → (line ≡ other) × (rest ≡ other_rest)
line_once line other rest other_rest unbroken other_unbroken same =
    let lines : line ≡ other =
    sym (first_line-line line rest unbroken) ∙ ap first_line same ∙ first_line-line other other_rest other_unbroken in
    let rests : other ++ line_end ∷ rest ≡ other ++ line_end ∷ other_rest =
    subst (λ (front : List ℕ). front ++ line_end ∷ rest ≡ other ++ line_end ∷ other_rest) lines same in
    (lines, ap (drop 1) (append_cancel_left other (line_end ∷ rest) (line_end ∷ other_rest) rests))

-- ---- lines

-- the first list goes on with these lines to the second, and so does what is left
pub record GoesOnTo (lines : List (List ℕ)) (rest : List ℕ) (others : List (List ℕ)) (other_rest : List ℕ) : Type 0 where
  pub more : List (List ℕ)
  pub longer : others ≡ lines ++ more
  pub left : rest ≡ unlines more ++ other_rest

tail_unbroken : (line : List ℕ) (lines : List (List ℕ)) → All HasNoLineEnd (line ∷ lines) → All HasNoLineEnd lines
tail_unbroken line lines unbroken = λ k d within. unbroken (suc k) d (omega arith)

longer_by : (line : List ℕ) (lines : List (List ℕ)) (rest : List ℕ) (others : List (List ℕ)) (other_rest : List ℕ)
    → GoesOnTo lines rest others other_rest → (other : List ℕ) → line ≡ other → GoesOnTo (line ∷ lines) rest (other ∷ others) other_rest
longer_by line lines rest others other_rest goes other same = record {
  more = goes.more;
  longer = ap (λ (first : List ℕ). first ∷ others) (sym same) ∙ ap (λ (later : List (List ℕ)). line ∷ later) goes.longer;
  left = goes.left;
}

-- of two ways to cut a text into lines, one goes on to the other
pub one_goes_on : (lines : List (List ℕ)) (rest : List ℕ) (others : List (List ℕ)) (other_rest : List ℕ) → All HasNoLineEnd lines → All HasNoLineEnd others
    → unlines lines ++ rest ≡ unlines others ++ other_rest → GoesOnTo lines rest others other_rest ⊎ GoesOnTo others other_rest lines rest
one_goes_on [] rest others other_rest unbroken other_unbroken same = inl (record { more = others; longer = refl; left = same })
one_goes_on (line ∷ lines) rest [] other_rest unbroken other_unbroken same = inr (record { more = line ∷ lines; longer = refl; left = sym same })
one_goes_on (line ∷ lines) rest (other ∷ others) other_rest unbroken other_unbroken same =
    let apart : line ++ line_end ∷ (unlines lines ++ rest) ≡ other ++ line_end ∷ (unlines others ++ other_rest) =
    sym (append_assoc line (line_end ∷ unlines lines) rest) ∙ same ∙ append_assoc other (line_end ∷ unlines others) other_rest in
    let (first, later) =
    line_once line other (unlines lines ++ rest) (unlines others ++ other_rest) (unbroken 0 line (omega arith)) (other_unbroken 0 other (omega arith)) apart in
    elim (one_goes_on lines rest others other_rest (tail_unbroken line lines unbroken) (tail_unbroken other others other_unbroken) later) [
      | inl goes ↦ inl (longer_by line lines rest others other_rest goes other first)
      | inr goes ↦ inr (longer_by other others other_rest lines rest goes line (sym first))
    ]

-- ---- each text

-- a text has no line end, or begins with a line
pub first_split : (text : List ℕ) → HasNoLineEnd text ⊎ ((line : List ℕ) × (after : List ℕ) × HasNoLineEnd line × (text ≡ line ++ line_end ∷ after))
first_split [] = inl (All-nil (λ b. b ≢ line_end))
first_split (byte ∷ text) = elim (eqb_tells byte line_end) [
  | inl ends ↦ inr ([], text, All-nil (λ b. b ≢ line_end), ap (λ (b : ℕ). b ∷ text) ends.1)
  | inr goes ↦ elim (first_split text) [
    | inl none ↦ inl (All-cons (λ b. b ≢ line_end) byte text goes.1 none)
    | inr some ↦ inr (byte ∷ some.0, some.1, All-cons (λ b. b ≢ line_end) byte some.0 goes.1 some.2, ap (λ (bytes : List ℕ). byte ∷ bytes) some.3)
  ]
]

-- one byte more that ends no line
byte_more : (byte : ℕ) (text : List ℕ) (lines : List (List ℕ)) (rest : List ℕ) → byte ≢ line_end → Splits text lines rest → HasNoLineEnd rest
    → (more : List (List ℕ)) × (left : List ℕ) × Splits (byte ∷ text) more left × HasNoLineEnd left
byte_more byte text [] rest goes split unbroken = (
  [],
  byte ∷ rest,
  record { whole = ap (λ (bytes : List ℕ). byte ∷ bytes) split.whole; unbroken = All-nil HasNoLineEnd },
  All-cons (λ b. b ≢ line_end) byte rest goes unbroken,
)
byte_more byte text (line ∷ lines) rest goes split unbroken = (
  (byte ∷ line) ∷ lines,
  rest,
  record {
    whole = ap (λ (bytes : List ℕ). byte ∷ bytes) split.whole;
    unbroken = All-cons HasNoLineEnd (byte ∷ line) lines (All-cons (λ b. b ≢ line_end) byte line goes (All-head HasNoLineEnd line lines split.unbroken)) (All-tail HasNoLineEnd line lines split.unbroken);
  },
  unbroken,
)

pub each_text_splits_lem : EachTextSplits
each_text_splits_lem [] = ([], [], record { whole = refl; unbroken = All-nil HasNoLineEnd }, All-nil (λ b. b ≢ line_end))
each_text_splits_lem (byte ∷ text) =
    let (lines, rest, split, unbroken) = each_text_splits_lem text in
    elim (eqb_tells byte line_end) [
      | inl ends ↦ (
        [] ∷ lines,
        rest,
        record {
          whole = ap (λ (b : ℕ). b ∷ text) ends.1 ∙ ap (λ (bytes : List ℕ). line_end ∷ bytes) split.whole;
          unbroken = All-cons HasNoLineEnd [] lines (All-nil (λ b. b ≢ line_end)) split.unbroken;
        },
        unbroken,
      )
      | inr goes ↦ byte_more byte text lines rest goes.1 split unbroken
    ]

-- a rest without a line end holds no more lines
no_more : (lines : List (List ℕ)) (rest : List ℕ) (others : List (List ℕ)) (other_rest : List ℕ) → HasNoLineEnd rest
    → GoesOnTo lines rest others other_rest → (lines ≡ others) × (rest ≡ other_rest)
no_more lines rest others other_rest unbroken goes = none goes.more goes.longer goes.left where
  none : (more : List (List ℕ)) → others ≡ lines ++ more → rest ≡ unlines more ++ other_rest → (lines ≡ others) × (rest ≡ other_rest)
  none [] longer left = (sym (longer ∙ append-nil lines), left)
  none (line ∷ more) longer left =
      absurd (HasNoLineEnd-not rest unbroken (rw (left ∙ append_assoc line (line_end ∷ unlines more) other_rest) (HasLineEnd-line line (unlines more ++ other_rest))))

pub one_split_lem : OneSplit
one_split_lem text lines others rest other_rest split other_split unbroken other_unbroken =
    elim (one_goes_on lines rest others other_rest split.unbroken other_split.unbroken (sym split.whole ∙ other_split.whole)) [
      | inl goes ↦ no_more lines rest others other_rest unbroken goes
      | inr goes ↦ let same = no_more others other_rest lines rest other_unbroken goes in (sym same.0, sym same.1)
    ]
