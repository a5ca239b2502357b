-- The lines of a text, as a reader of lines gives them.
use Rattle.std.proofs.Common.{◌≡◌, ◌≢◌, ◌⊎◌, inl, inr, ℕ, ◌<◌, Bool, true, false, List, [], ◌∷◌, ◌++◌, length, refl, sym, ap, subst, ◌∙◌, arith, append_assoc, if◌then◌else◌, ne_eqb}
use Rattle.std.specs.Prelude.{◌==◌, All, Option, Some, None, IfSome}
use Rattle.std.proofs.lemmas.List.{append-nil}
use Rattle.std.proofs.lemmas.List.Elements.{All-head, All-nil, All-tail}
use Rattle.edges.specs.Line.{HasNoLineEnd, first_line, line_end, unlines}
use Rattle.edges.specs.Lines.{GivesEnd, GivesFault, GivesLine, GivesPiece, GivesTooLong, LinesView, ahead}
use Rattle.edges.proofs.LineLaws.{first_line-long}
use Rattle.survey_script.specs.Scripts.{begin_with, lines_in}
use Rattle.survey_script.specs.Steps.{HasLine, HasPiece, LeavesRest}

-- a line and its line end at the front of a text
pub lines_in-line : (line rest : List ℕ) → HasNoLineEnd line → lines_in (line ++ line_end ∷ rest) ≡ line ∷ lines_in rest
lines_in-line [] rest none = refl
lines_in-line (byte ∷ line) rest none =
    let lines : List (List ℕ) = lines_in (line ++ line_end ∷ rest) in
    ap (λ (b : Bool). if b then [] ∷ lines else begin_with byte lines) (ne_eqb byte line_end (All-head (λ b. b ≢ line_end) byte line none))
    ∙ ap (begin_with byte) (lines_in-line line rest (All-tail (λ b. b ≢ line_end) byte line none))

-- lines, each with its line end, at the front of a text
pub lines_in-lines : (lines : List (List ℕ)) (rest : List ℕ) → All HasNoLineEnd lines → lines_in (unlines lines ++ rest) ≡ lines ++ lines_in rest
lines_in-lines [] rest unbroken = refl
lines_in-lines (line ∷ lines) rest unbroken =
    ap lines_in (append_assoc line (line_end ∷ unlines lines) rest)
    ∙ lines_in-line line (unlines lines ++ rest) (All-head HasNoLineEnd line lines unbroken)
    ∙ ap (λ (others : List (List ℕ)). line ∷ others) (lines_in-lines lines rest (All-tail HasNoLineEnd line lines unbroken))

-- a text that is one line without its line end
pub lines_in-piece : (byte : ℕ) (piece : List ℕ) → HasNoLineEnd (byte ∷ piece) → lines_in (byte ∷ piece) ≡ (byte ∷ piece) ∷ []
lines_in-piece byte [] none =
    ap (λ (b : Bool). if b then [] ∷ [] else begin_with byte []) (ne_eqb byte line_end (All-head (λ b. b ≢ line_end) byte [] none))
lines_in-piece byte (next ∷ piece) none =
    let lines : List (List ℕ) = lines_in (next ∷ piece) in
    ap (λ (b : Bool). if b then [] ∷ lines else begin_with byte lines) (ne_eqb byte line_end (All-head (λ b. b ≢ line_end) byte (next ∷ piece) none))
    ∙ ap (begin_with byte) (lines_in-piece next piece (All-tail (λ b. b ≢ line_end) byte (next ∷ piece) none))

-- the first of the lines
first_by : (b : Bool) (byte : ℕ) (text : List ℕ) → ((others : List (List ℕ)) × (lines_in text ≡ first_line text ∷ others)) ⊎ (text ≡ [])
    → (others : List (List ℕ)) × ((if b then [] ∷ lines_in text else begin_with byte (lines_in text)) ≡ (if b then [] else byte ∷ first_line text) ∷ others)
first_by true byte text had = (lines_in text, refl)
first_by false byte text (inl had) = (had.0, ap (begin_with byte) had.1)
first_by false byte text (inr none) =
    subst (λ (xs : List ℕ). (others : List (List ℕ)) × (begin_with byte (lines_in xs) ≡ (byte ∷ first_line xs) ∷ others)) (sym none) ([], refl)

pub lines_in-first : (byte : ℕ) (text : List ℕ) → (others : List (List ℕ)) × (lines_in (byte ∷ text) ≡ first_line (byte ∷ text) ∷ others)
lines_in-first byte [] = first_by (byte == line_end) byte [] (inr refl)
lines_in-first byte (next ∷ text) = first_by (byte == line_end) byte (next ∷ text) (inl (lines_in-first next text))

-- ---- what a reader of lines gives

pub line_told : (P : List ℕ → Type 0) (new : LinesView) (before now : Option (List ℕ)) → GivesLine new before now → P new.line → LeavesRest before now (HasLine P)
line_told P new None now gives holds = tt
line_told P new (Some text) None gives holds = let told : Some text ≡ None = gives.told in cc
line_told P new (Some text) (Some rest) gives holds =
    let told : Some text ≡ Some ((new.line ++ line_end ∷ []) ++ rest) = gives.told in
    let whole : text ≡ (new.line ++ line_end ∷ []) ++ rest = cc in
    (rest, refl, record { line = new.line; unbroken = gives.unbroken; whole = whole ∙ append_assoc new.line (line_end ∷ []) rest; holds = holds })

pub line_given : (new : LinesView) (before now : Option (List ℕ)) → GivesLine new before now
    → LeavesRest before now (λ text rest. lines_in text ≡ new.line ∷ lines_in rest)
line_given new None now gives = tt
line_given new (Some text) now gives =
    let told = line_told (λ line. line ≡ new.line) new (Some text) now gives refl in
    let here = told.2 in
    (told.0, told.1, ap lines_in here.whole ∙ lines_in-line here.line told.0 here.unbroken ∙ ap (λ (line : List ℕ). line ∷ lines_in told.0) here.holds)

piece_by : (text line : List ℕ) → text ≡ line → 0 < length line → HasNoLineEnd line → lines_in text ≡ line ∷ []
piece_by text [] is some none = absurd (omega arith)
piece_by text (byte ∷ line) is some none = ap lines_in is ∙ lines_in-piece byte line none

pub piece_given : (new : LinesView) (before now : Option (List ℕ)) → GivesPiece new before now
    → LeavesRest before now (λ text rest. lines_in text ≡ new.line ∷ lines_in rest)
piece_given new None now gives = tt
piece_given new (Some text) None gives = let told : Some text ≡ None = gives.told in cc
piece_given new (Some text) (Some rest) gives =
    let told : Some text ≡ Some (new.line ++ rest) = gives.told in
    let whole : text ≡ new.line ++ rest = cc in
    let none : rest ≡ [] = gives.ended in
    let only : text ≡ new.line = whole ∙ ap (λ (xs : List ℕ). new.line ++ xs) none ∙ append-nil new.line in
    (rest, refl, piece_by text new.line only gives.some gives.unbroken ∙ ap (λ (xs : List ℕ). new.line ∷ lines_in xs) (sym none))

-- where a text ends with bytes without a line end, these are all of it
abbrev pub Ends : Option (List ℕ) → Option (List ℕ) → Type 0
Ends before now = LeavesRest before now (λ text rest. HasNoLineEnd text × (rest ≡ []))

pub piece_ends : (new : LinesView) (before now : Option (List ℕ)) → GivesPiece new before now → Ends before now
piece_ends new None now gives = tt
piece_ends new (Some text) None gives = let told : Some text ≡ None = gives.told in cc
piece_ends new (Some text) (Some rest) gives =
    let told : Some text ≡ Some (new.line ++ rest) = gives.told in
    let whole : text ≡ new.line ++ rest = cc in
    let none : rest ≡ [] = gives.ended in
    let only : text ≡ new.line = whole ∙ ap (λ (xs : List ℕ). new.line ++ xs) none ∙ append-nil new.line in
    (rest, refl, (subst HasNoLineEnd (sym only) gives.unbroken, none))

pub end_given : (new : LinesView) (before now : Option (List ℕ)) → GivesEnd new before now
    → LeavesRest before now (λ text rest. (text ≡ []) × (rest ≡ []))
end_given new None now gives = tt
end_given new (Some text) None gives = let same : None ≡ Some text = gives.same in cc
end_given new (Some text) (Some rest) gives =
    let same : Some rest ≡ Some text = gives.same in
    let here : text ≡ rest = cc in
    let none : rest ≡ [] = gives.ended in
    (rest, refl, (here ∙ none, none))

pub end_ends : (new : LinesView) (before now : Option (List ℕ)) → GivesEnd new before now → Ends before now
end_ends new None now gives = tt
end_ends new (Some text) now gives =
    let given = end_given new (Some text) now gives in
    (given.0, given.1, (subst HasNoLineEnd (sym given.2.0) (All-nil (λ byte. byte ≢ line_end)), given.2.1))

-- the first line is longer than the longest
abbrev pub IsFirstLong : ℕ → Option (List ℕ) → Type 0
IsFirstLong longest before = IfSome before (λ text. (line : List ℕ) × (others : List (List ℕ)) × (longest < length line) × (lines_in text ≡ line ∷ others))

long_by : (text : List ℕ) (longest : ℕ) → longest < length (first_line text)
    → (line : List ℕ) × (others : List (List ℕ)) × (longest < length line) × (lines_in text ≡ line ∷ others)
long_by [] longest long = absurd (omega arith)
long_by (byte ∷ text) longest long = let first = lines_in-first byte text in (first_line (byte ∷ text), first.0, long, first.1)

pub too_long_given : (new : LinesView) (before left : Option (List ℕ)) → GivesTooLong new before (ahead new left) → IsFirstLong new.longest before
too_long_given new None left gives = tt
too_long_given new (Some text) None gives = let same : None ≡ Some text = gives.same in cc
too_long_given new (Some text) (Some rest) gives =
    let same : Some (new.kept ++ rest) ≡ Some text = gives.same in
    let whole : new.kept ++ rest ≡ text = cc in
    long_by text new.longest (subst (λ (xs : List ℕ). new.longest < length (first_line xs)) whole (first_line-long new.kept rest new.longest gives.too_many gives.unbroken))

pub fault_given : (new : LinesView) (before left : Option (List ℕ)) → GivesFault new before (ahead new left) → LeavesRest before left HasPiece
fault_given new None left gives = tt
fault_given new (Some text) None gives = let same : None ≡ Some text = gives.same in cc
fault_given new (Some text) (Some rest) gives =
    let same : Some (new.kept ++ rest) ≡ Some text = gives.same in
    let whole : text ≡ new.kept ++ rest = cc in
    (rest, refl, record { piece = new.kept; unbroken = gives.unbroken; whole = whole })
