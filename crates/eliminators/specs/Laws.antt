-- What the work of eliminators comes to.
use Rattle.std.specs.Prelude.{◌≡◌, ℕ, List, ◌++◌, All}
use Rattle.pair_enumeration.specs.Listed.{Listed}
use Rattle.survey_replies.specs.Calls.{Seen, HasEliminateOf}
use Rattle.eliminators.specs.declared.job.HandIn.{HandIn}
use Rattle.eliminators.specs.Work.{Works}

-- all that work appends are Eliminates with the worker's number
abbrev pub WorkEliminates : Type 0
WorkEliminates =
    (listed : Listed) (worker : ℕ) (before after : Seen) (answers : List HandIn) → Works listed worker before after answers
    → (more : List ℕ) × (after.own ≡ before.own ++ more) × All (HasEliminateOf worker after.journal) more
