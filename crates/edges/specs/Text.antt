-- What a text that is being written shows.
use Rattle.std.specs.Prelude.{ℕ, List, []}

-- a text: its bytes, and how many it has room for
pub record TextView : Type 0 where
  pub bytes : List ℕ
  pub room : ℕ

-- a text with room for this number of bytes, and none of them yet
abbrev pub new_text : ℕ → TextView
new_text room = record { bytes = []; room = room }
