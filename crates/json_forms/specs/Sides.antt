-- The words of the sides.
use Rattle.std.specs.Prelude.{ℕ, List, codes, bytes_eq, if◌then◌else◌, Option, Some, None}
use Rattle.criteria_model.specs.declared.pairs.Side.{Side}
use Rattle.criteria_model.specs.declared.pairs.Side.TheVariants.{Left, Right, Equal}

-- the word of a side
abbrev pub side_word : Side → List ℕ
side_word Left = codes "left"
side_word Right = codes "right"
side_word Equal = codes "equal"

-- the side of this word
abbrev pub side_of : List ℕ → Option Side
side_of word =
    if bytes_eq word (side_word Left) then Some Left else
    if bytes_eq word (side_word Right) then Some Right else
    if bytes_eq word (side_word Equal) then Some Equal else
    None
