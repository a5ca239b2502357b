-- What a call serves.
use Rattle.std.specs.Prelude.{◌≡◌, ◌<◌, ℕ, List, ◌++◌, length, Option, option_map}
use Rattle.std.specs.List.{AllZip}
use Rattle.json_forms.specs.DefinitionViews.{DefinitionView}
use Rattle.survey_hall.specs.declared.served.Served.{Served}
use Rattle.survey_hall.specs.declared.connection_threads.Connection.{Connection}
use Rattle.survey_hall.specs.Connections.{WasServed}
use Rattle.survey_hall.specs.ConnectionThreads.{ServesFor}

-- where it is known which ends a door has still to give: these were the first of them
abbrev pub TakesFirst : {X : Type 0} → Option (List X) → Option (List X) → List X → Type 0
TakesFirst before after taken = before ≡ option_map (λ rest. taken ++ rest) after

module _ {I O : Type 0} (left : I → Option (List ℕ)) (read_faults : I → ℕ) (written : O → Option (List ℕ)) (write_faults : O → ℕ) where
  -- each of the connections over these ends is being served, or was
  abbrev pub ServesEach : DefinitionView → List (I × O) → List (Connection I O) → Type 0
  ServesEach definition accepted connections =
      AllZip (λ (ends : I × O) one. ServesFor left read_faults written write_faults definition ends.0 ends.1 one) accepted connections

  -- each was served
  abbrev pub ServedEach : DefinitionView → List (I × O) → List Served → Type 0
  ServedEach definition accepted served =
      AllZip (λ (ends : I × O) one. WasServed left read_faults written write_faults definition ends.0 ends.1 one) accepted served

  -- connections were accepted from the door one after another, and each was served
  pub record HasServed (definition : DefinitionView) (before after : Option (List (I × O))) (served : List Served) : Type 0 where
    pub accepted : List (I × O)
    pub taken : TakesFirst before after accepted
    pub each : ServedEach definition accepted served

  -- the same of fewer connections than this number
  pub record HasServedFewer (definition : DefinitionView) (before after : Option (List (I × O))) (connections : ℕ) : Type 0 where
    pub served : List Served
    pub fewer : length served < connections
    pub has : HasServed definition before after served

  -- the same while they are being served
  pub record HasAccepted (definition : DefinitionView) (before after : Option (List (I × O))) (connections : List (Connection I O)) : Type 0 where
    pub accepted : List (I × O)
    pub taken : TakesFirst before after accepted
    pub each : ServesEach definition accepted connections
