-- The first line of a text and what follows it, as a reader of lines gives them.
use Rattle.std.proofs.Common.{◌≡◌, ℕ, ◌+◌, ◌≤◌, ◌<◌, suc, true, false, List, [], ◌∷◌, ◌++◌, length, drop, refl, sym, ap, subst, ◌∙◌, arith, append_assoc}
use Rattle.std.specs.Prelude.{Option, Some, None, IfSome}
use Rattle.std.proofs.lemmas.List.{append-nil, drop_all}
use Rattle.edges.specs.Line.{HasNoLineEnd, first_line, line_end}
use Rattle.edges.specs.Lines.{GivesLine, GivesPiece, GivesTooLong, LinesView, ahead}
use Rattle.edges.specs.Told.{IsAtEnd}
use Rattle.edges.proofs.LineLaws.{first_line-line, first_line-long, first_line-piece}
use Rattle.survey_server.specs.RankInput.{LineIs, after_first_line}

-- what follows a line and its line end
drop_line : (line rest : List ℕ) → drop (length line + 1) (line ++ line_end ∷ rest) ≡ rest
drop_line [] rest = refl
drop_line (byte ∷ line) rest = let next : length (byte ∷ line) + 1 ≡ suc (length line + 1) = omega arith in rw next (drop_line line rest)

-- a text that begins with a line
begins : (text line rest : List ℕ) → text ≡ line ++ line_end ∷ rest → HasNoLineEnd line → (line ≡ first_line text) × (after_first_line text ≡ rest)
begins text line rest is unbroken =
    let first : first_line text ≡ line = ap first_line is ∙ first_line-line line rest unbroken in
    let later : drop (length (first_line text) + 1) text ≡ drop (length line + 1) (line ++ line_end ∷ rest) =
    ap (λ (n : ℕ). drop (n + 1) text) (ap length first) ∙ ap (drop (length line + 1)) is in
    (sym first, later ∙ drop_line line rest)

-- a text that is one line
only : (text line : List ℕ) → text ≡ line → HasNoLineEnd line → (line ≡ first_line text) × (after_first_line text ≡ [])
only text line is unbroken =
    let first : first_line text ≡ line = ap first_line is ∙ first_line-piece line unbroken in
    let short : length text ≤ length (first_line text) + 1 = omega (arith, ap length is, ap length first) in
    (sym first, drop_all (length (first_line text) + 1) text short)

pub line_given : (new : LinesView) (before now : Option (List ℕ)) → GivesLine new before now → IfSome before (λ text. LineIs true text new.line new.longest now)
line_given new None now gives = tt
line_given new (Some text) None gives = let told : Some text ≡ None = gives.told in cc
line_given new (Some text) (Some rest) gives =
    let told : Some text ≡ Some ((new.line ++ line_end ∷ []) ++ rest) = gives.told in
    let whole : text ≡ (new.line ++ line_end ∷ []) ++ rest = cc in
    let parts = begins text new.line rest (whole ∙ append_assoc new.line (line_end ∷ []) rest) gives.unbroken in
    (parts.0, gives.fits, ap (λ (xs : List ℕ). Some xs) (sym parts.1))

pub piece_given : (new : LinesView) (before now : Option (List ℕ)) → GivesPiece new before now → IfSome before (λ text. LineIs true text new.line new.longest now)
piece_given new None now gives = tt
piece_given new (Some text) None gives = let told : Some text ≡ None = gives.told in cc
piece_given new (Some text) (Some rest) gives =
    let told : Some text ≡ Some (new.line ++ rest) = gives.told in
    let whole : text ≡ new.line ++ rest = cc in
    let none : rest ≡ [] = gives.ended in
    let parts = only text new.line (whole ∙ ap (λ (xs : List ℕ). new.line ++ xs) none ∙ append-nil new.line) gives.unbroken in
    (parts.0, gives.fits, ap (λ (xs : List ℕ). Some xs) (none ∙ sym parts.1))

pub too_long_given : (new : LinesView) (before left : Option (List ℕ)) → GivesTooLong new before (ahead new left) → IfSome before (λ text. LineIs false text new.line new.longest (ahead new left))
too_long_given new None left gives = tt
too_long_given new (Some text) None gives = let same : None ≡ Some text = gives.same in cc
too_long_given new (Some text) (Some rest) gives =
    let same : Some (new.kept ++ rest) ≡ Some text = gives.same in
    let whole : new.kept ++ rest ≡ text = cc in
    subst (λ (xs : List ℕ). new.longest < length (first_line xs)) whole (first_line-long new.kept rest new.longest gives.too_many gives.unbroken)

-- ---- the end
none_behind : (kept bytes : List ℕ) → kept ++ bytes ≡ [] → bytes ≡ []
none_behind [] bytes ended = ended
none_behind (byte ∷ kept) bytes ended = absurd (cc)

-- where nothing is left of what a reader kept and then of its source, nothing is left of the source
pub source_ended : (lines : LinesView) (left : Option (List ℕ)) → IsAtEnd (ahead lines left) → IsAtEnd left
source_ended lines None ended = tt
source_ended lines (Some bytes) ended = none_behind lines.kept bytes ended
