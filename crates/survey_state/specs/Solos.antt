-- What a survey of one desk keeps.
use Rattle.std.specs.Prelude.{List, Option, Some, None, IsSome}
use Rattle.decider.specs.declared.tools.Tools.{Tools}
use Rattle.decider.specs.Reserved.{IsReserved}
use Rattle.survey_core.specs.declared.events.Event.{Event}
use Rattle.survey_state.specs.States.{Surveyed}

-- the state that is held, or else the one that was given out last
abbrev pub held_state : Option Surveyed → Surveyed → Surveyed
held_state (Some state) last = state
held_state None last = last

-- the journal of the state that is out
abbrev pub journal_out : Option Surveyed → Surveyed → Option (List Event)
journal_out (Some state) last = None
journal_out None last = Some last.journal

-- the state is held, and the tools were reserved for its model
pub record KeepsSolo (state : Option Surveyed) (last : Surveyed) (tools : Tools) : Type 0 where
  pub held : IsSome state
  pub reserved : IsReserved (held_state state last).listed.criteria tools
