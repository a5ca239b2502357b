-- What a text makes of a session.
use Rattle.std.specs.Prelude.{◌≡◌, ℕ, List, [], ◌++◌, All}
use Rattle.edges.specs.Line.{unlines}
use Rattle.session_protocol.specs.declared.sessions.SessionEnd.{SessionEnd}
use Rattle.session_protocol.specs.declared.sessions.SessionEnd.TheVariants.{Bye, EndOfInput, LineTooLong, Messages}
use Rattle.session_protocol.specs.Sessions.{IsLine, IsOverlong, EndsAfter, EndTakes}

-- an end that is neither a fault nor want of memory, and what it leaves of the text
abbrev pub LeavesText : SessionEnd → List ℕ → Type 0
LeavesText Bye rest = Unit {0}
LeavesText EndOfInput rest = rest ≡ []
LeavesText LineTooLong rest = IsOverlong rest
LeavesText Messages rest = Unit {0}
LeavesText _ rest = ⊥

-- at the front of the text are the lines after which a session of at most this number of messages comes to such an end
pub record IsReadTo (text : List ℕ) (most : ℕ) (end : SessionEnd) (lines : List (List ℕ)) : Type 0 where
  pub each : All IsLine lines
  pub taken : List ℕ
  pub takes : EndTakes end taken
  pub rest : List ℕ
  pub whole : text ≡ (unlines lines ++ taken) ++ rest
  pub leaves : LeavesText end rest
  pub ends : EndsAfter most end lines

-- a text is read to one end, by one list of lines
abbrev pub OneSession : Type 0
OneSession =
    (text : List ℕ) (most : ℕ) (one other : SessionEnd) (lines others : List (List ℕ)) → IsReadTo text most one lines
    → IsReadTo text most other others → (one ≡ other) × (lines ≡ others)
