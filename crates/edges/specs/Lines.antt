-- What a reader of lines shows, and what one call of `next_line` does to the text that lies ahead.
use Rattle.std.specs.Prelude.{◌≡◌, ℕ, ◌+◌, ◌<◌, ◌≤◌, List, [], ◌∷◌, ◌++◌, length, take, slice_index, Option, MatchOption}
use Rattle.std.specs.Io.KnownBytes.{prepend_known}
use Rattle.edges.specs.Line.{HasNoLineEnd, line_end}
use Rattle.edges.specs.Told.{IsAtEnd, Takes}
use Rattle.edges.specs.declared.line_reader.LineGot.{LineGot}
use Rattle.edges.specs.declared.line_reader.LineGot.TheVariants.{End, Line, Piece, ReadFault, TooLong}

-- a reader of lines: the bytes that it took from its source and has not given, the line that it
-- shows, the longest line that it gives, and the longest that it has room for
pub record LinesView : Type 0 where
  pub kept : List ℕ
  pub line : List ℕ
  pub longest : ℕ
  pub reserved : ℕ

-- a reader of lines of at most this number of bytes, which took nothing yet
abbrev pub new_lines : ℕ → LinesView
new_lines longest = record { kept = []; line = []; longest = longest; reserved = longest }

-- the reader with another longest line
abbrev pub limited : ℕ → LinesView → LinesView
limited longest lines = record lines { longest = longest }

-- the text that lies ahead of a reader: the bytes that it kept and then those left in its source
abbrev pub ahead : LinesView → Option (List ℕ) → Option (List ℕ)
ahead lines left = prepend_known lines.kept left

-- the reader's limits stay
pub record KeepsLimits (old new : LinesView) : Type 0 where
  pub longest : new.longest ≡ old.longest
  pub reserved : new.reserved ≡ old.reserved

-- a line of at most the longest length came, and its line end after it
pub record GivesLine (new : LinesView) (before now : Option (List ℕ)) : Type 0 where
  pub fits : length new.line ≤ new.longest
  pub unbroken : HasNoLineEnd new.line
  pub told : Takes before now (new.line ++ line_end ∷ [])

-- the text ended after some bytes, at most the longest length, without a line end
pub record GivesPiece (new : LinesView) (before now : Option (List ℕ)) : Type 0 where
  pub some : 0 < length new.line
  pub fits : length new.line ≤ new.longest
  pub unbroken : HasNoLineEnd new.line
  pub none_kept : new.kept ≡ []
  pub told : Takes before now new.line
  pub ended : IsAtEnd now

-- the text was at its end
pub record GivesEnd (new : LinesView) (before now : Option (List ℕ)) : Type 0 where
  pub no_line : new.line ≡ []
  pub none_kept : new.kept ≡ []
  pub same : now ≡ before
  pub ended : IsAtEnd now

-- more bytes than the longest length came without a line end; they are kept, and the text ahead is as it was
pub record GivesTooLong (new : LinesView) (before now : Option (List ℕ)) : Type 0 where
  pub no_line : new.line ≡ []
  pub too_many : new.longest < length new.kept
  pub unbroken : HasNoLineEnd (take (new.longest + 1) new.kept)
  pub same : now ≡ before

-- the source failed before a whole line came: the bytes kept have no line end, and the text ahead is as it was
pub record GivesFault (new : LinesView) (before now : Option (List ℕ)) : Type 0 where
  pub no_line : new.line ≡ []
  pub unbroken : HasNoLineEnd new.kept
  pub same : now ≡ before

-- what an answer says of the reader now, and of the text ahead before and now
abbrev pub Gives : LineGot → LinesView → Option (List ℕ) → Option (List ℕ) → Type 0
Gives Line new before now = GivesLine new before now
Gives Piece new before now = GivesPiece new before now
Gives End new before now = GivesEnd new before now
Gives TooLong new before now = GivesTooLong new before now
Gives ReadFault new before now = GivesFault new before now

-- the byte at this place is a line end, the first of the text and not after the longest length
pub record IsFirstLineEnd (text : List ℕ) (longest place : ℕ) : Type 0 where
  pub within : place < length text
  pub fits : place ≤ longest
  pub ends : slice_index text place ≡ line_end
  pub unbroken : HasNoLineEnd (take place text)

-- where the first line end of the text stands, if not after the longest length
abbrev pub IsLineEndWithin : List ℕ → ℕ → Option ℕ → Type 0
IsLineEndWithin text longest place =
    MatchOption place (HasNoLineEnd (take (longest + 1) text)) (IsFirstLineEnd text longest)
