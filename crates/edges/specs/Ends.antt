-- What the ends over memory show.
use Rattle.std.specs.Prelude.{ℕ, ◌-◌, ◌==◌, if◌then◌else◌, List, [], length, Option, Some, None}

-- a source over memory: the bytes to come, the most that one call gives, the numbers of the calls
-- that fail, the calls so far and the faults so far
pub record MemSourceView : Type 0 where
  pub left : List ℕ
  pub piece : ℕ
  pub fails : List ℕ
  pub calls : ℕ
  pub faults : ℕ

-- a source over memory that was not called yet
abbrev pub new_source : List ℕ → ℕ → List ℕ → MemSourceView
new_source bytes piece fails =
    record { left = bytes; piece = piece; fails = fails; calls = 0; faults = 0 }

-- a sink over memory: the bytes put, how many it has room for, the numbers of the calls that fail,
-- the calls so far and the faults so far
pub record MemSinkView : Type 0 where
  pub bytes : List ℕ
  pub room : ℕ
  pub fails : List ℕ
  pub calls : ℕ
  pub faults : ℕ

-- a sink over memory that was not called yet
abbrev pub new_sink : ℕ → List ℕ → MemSinkView
new_sink room fails = record { bytes = []; room = room; fails = fails; calls = 0; faults = 0 }

-- a sink that never fails: the bytes kept, how many it keeps at most, and how many were dropped
pub record QuietSinkView : Type 0 where
  pub bytes : List ℕ
  pub room : ℕ
  pub dropped : ℕ

-- a sink that never fails and was not called yet
abbrev pub new_quiet_sink : ℕ → QuietSinkView
new_quiet_sink room = record { bytes = []; room = room; dropped = 0 }

-- how many bytes a sink that never fails has room for still
abbrev pub free_of : QuietSinkView → ℕ
free_of sink = sink.room - length sink.bytes

-- what was put to a sink that never fails, while nothing was dropped
abbrev pub told_bytes : QuietSinkView → Option (List ℕ)
told_bytes sink = if sink.dropped == 0 then Some sink.bytes else None

-- a door over memory: the ends still to come, and the faults so far
pub record MemDoorView : Type 0 where
  pub ends : List (MemSourceView × MemSinkView)
  pub faults : ℕ

-- a door over memory that was not called yet
abbrev pub new_door : List (MemSourceView × MemSinkView) → MemDoorView
new_door ends = record { ends = ends; faults = 0 }
