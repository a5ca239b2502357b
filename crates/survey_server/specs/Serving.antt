-- What serving comes to, and how it is answered.
use Rattle.std.specs.Prelude.{◌≡◌, ◌⊎◌, ℕ, List, ◌++◌, codes, vec_len, Option, Some, None, IfSome, MatchResult, Result, Ok, Err, String}
use Rattle.std.specs.Fmt.{decimal}
use Rattle.std.specs.declared.alloc.Global.{Global}
use Rattle.edges.specs.Told.{Appends, AppendsPrefix}
use Rattle.json_forms.specs.DefinitionViews.{DefinitionView}
use Rattle.survey_hall.specs.declared.serving.ServeEnd.{ServeEnd}
use Rattle.survey_hall.specs.Serving.{HasServed, HasServedFewer}
use Rattle.survey_server.specs.declared.commands.Ended.{Ended}
use Rattle.survey_server.specs.declared.script_runs.Stop.{Stop}
use Rattle.survey_server.specs.declared.script_runs.Stop.TheVariants as stop
use Rattle.survey_server.specs.Command.{IsSilent, Writes, command_in}
use Rattle.survey_server.specs.RankInput.{leading_definition}
use Rattle.survey_server.specs.RankTexts.{definition_fault_line}
use Rattle.survey_words.specs.declared.commands.Command.TheVariants as command

-- the words name the serving of `connections` connections at a port, beside `eliminators` eliminators
abbrev pub IsServeCommand : List (String Global) → ℕ → ℕ → ℕ → Type 0
IsServeCommand words port eliminators connections = command_in words ≡ Some (command.Serve port eliminators connections)

-- the first line of what lies ahead is a definition, and that is known
abbrev pub BeginsWithDefinition : Option (List ℕ) → Type 0
BeginsWithDefinition told = (text : List ℕ) × (definition : DefinitionView) × (told ≡ Some text) × (leading_definition text ≡ Ok definition)

-- a stop that serving can come to
abbrev pub IsServeStop : Stop → Type 0
IsServeStop (stop.Definition fault) = Unit {0}
IsServeStop stop.ReadFault = Unit {0}
IsServeStop stop.DoorFault = Unit {0}
IsServeStop stop.NoMemory = Unit {0}
IsServeStop (stop.Script line part) = ⊥
IsServeStop (stop.WriteFault end) = ⊥

-- the line at the end of serving
abbrev pub served_line : ℕ → List ℕ
served_line count = codes "served " ++ decimal count ++ codes "\n"

-- how the end of serving is answered: by the line that says how many connections were served; or the sink failed, and a prefix of it is out
abbrev pub AnswersServed : ServeEnd → Option (List ℕ) → Option (List ℕ) → Ended → Type 0
AnswersServed end before now ended =
    ((ended.status ≡ 0) × (ended.served ≡ Some end) × Appends before now (served_line (vec_len end.list)))
    ⊎ ((ended.status ≡ 4) × (ended.served ≡ None) × AppendsPrefix before now (served_line (vec_len end.list)))

-- how what came of serving is answered: by that line, by the line of a first line that is no definition, or by nothing
abbrev pub AnswersServing : Result ServeEnd Stop → Option (List ℕ) → Option (List ℕ) → Ended → Type 0
AnswersServing (Ok end) before now ended = AnswersServed end before now ended
AnswersServing (Err (stop.Definition fault)) before now ended = Writes (definition_fault_line fault) 1 before now ended.status × (ended.served ≡ None)
AnswersServing (Err stop.ReadFault) before now ended = IsSilent 3 before now ended.status × (ended.served ≡ None)
AnswersServing (Err stop.DoorFault) before now ended = IsSilent 6 before now ended.status × (ended.served ≡ None)
AnswersServing (Err stop.NoMemory) before now ended = IsSilent 5 before now ended.status × (ended.served ≡ None)
AnswersServing (Err (stop.Script line part)) before now ended = ⊥
AnswersServing (Err (stop.WriteFault end)) before now ended = ⊥

-- a type of doors with what they show: the ends of the connections to come; and of each end the text to come or written, and its faults
module _ {I O D : Type 0} (left : I → Option (List ℕ)) (read_faults : I → ℕ) (written : O → Option (List ℕ)) (write_faults : O → ℕ) (ends : D → Option (List (I × O))) where
  -- `connections` connections of the door were served the surveys of the definition that the first line is. `told` is the text that lay ahead,
  -- where it is known
  pub record ServesDefinition (told : Option (List ℕ)) (connections : ℕ) (door door_now : D) (end : ServeEnd) : Type 0 where
    pub definition : DefinitionView
    pub read : IfSome told (λ text. leading_definition text ≡ Ok definition)
    pub served : HasServed left read_faults written write_faults definition (ends door) (ends door_now) end.list.items
    pub count : vec_len end.list ≡ connections

  -- the door failed: it didn't listen, or gave fewer connections, and those were served
  pub record ServesFewer (told : Option (List ℕ)) (connections : ℕ) (door door_now : D) : Type 0 where
    pub definition : DefinitionView
    pub read : IfSome told (λ text. leading_definition text ≡ Ok definition)
    pub served : HasServedFewer left read_faults written write_faults definition (ends door) (ends door_now) connections

  -- why not: the first line is no definition, or says nothing, and the door is untouched; or the door failed; or there was no memory,
  -- and no connection was accepted
  abbrev pub StopsServing : Option (List ℕ) → ℕ → D → D → Stop → Type 0
  StopsServing told connections door door_now (stop.Definition fault) = IfSome told (λ text. leading_definition text ≡ Err fault) × (door_now ≡ door)
  StopsServing told connections door door_now stop.ReadFault = door_now ≡ door
  StopsServing told connections door door_now stop.DoorFault = ServesFewer told connections door door_now
  StopsServing told connections door door_now stop.NoMemory = ends door_now ≡ ends door
  StopsServing told connections door door_now (stop.Script line part) = ⊥
  StopsServing told connections door door_now (stop.WriteFault end) = ⊥

  -- the one or the other
  abbrev pub IsServeOutcome : Option (List ℕ) → ℕ → D → D → Result ServeEnd Stop → Type 0
  IsServeOutcome told connections door door_now outcome =
      MatchResult outcome (ServesDefinition told connections door door_now) (StopsServing told connections door door_now)

  -- and that answered. `before` and `now` are what a sink holds, where it is known
  pub record ServesAndAnswers (told : Option (List ℕ)) (connections : ℕ) (door door_now : D) (before now : Option (List ℕ)) (ended : Ended) : Type 0 where
    pub outcome : Result ServeEnd Stop
    pub came : IsServeOutcome told connections door door_now outcome
    pub answered : AnswersServing outcome before now ended
