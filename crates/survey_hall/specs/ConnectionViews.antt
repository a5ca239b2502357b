-- What clauses see of a connection.
use Rattle.std.specs.Prelude.{ℕ, List, Option}

-- where they are known, the text that lies ahead and what was written
pub record ConnectionView : Type 0 where
  pub ahead : Option (List ℕ)
  pub written : Option (List ℕ)

abbrev pub connection_view : Option (List ℕ) → Option (List ℕ) → ConnectionView
connection_view ahead written = record { ahead = ahead; written = written }
