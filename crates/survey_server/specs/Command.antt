-- What a command writes, and the status that it ends with.
use Rattle.std.specs.Prelude.{◌≡◌, ◌⊎◌, ℕ, List, [], ◌++◌, map, codes, Option, Some, None, MatchOption, String, IfSome, Result, Ok, Err, Vec}
use Rattle.std.specs.Fmt.{decimal}
use Rattle.std.specs.String.{string_bytes}
use Rattle.std.specs.declared.alloc.Global.{Global}
use Rattle.edges.specs.Told.{Appends, AppendsPrefix, IsAtEnd}
use Rattle.criteria_model.specs.declared.faults.ModelFault.{ModelFault}
use Rattle.criteria_model.specs.Criteria.{Criteria}
use Rattle.criteria_model.specs.Faults.{model_fault}
use Rattle.result_file.specs.declared.verdicts.Checked.{Checked}
use Rattle.result_file.specs.declared.verdicts.Checked.TheVariants.{Valid, ValidComplete, Invalid, Unfinished, ReadFault, NoMemory}
use Rattle.result_file.specs.Words.{part_text}
use Rattle.result_file.specs.Verdicts.{EndsInput}
use Rattle.result_file.specs.Checked.{IsFileOf, IsToldChecked}
use Rattle.result_file.specs.Contents.{Content}
use Rattle.result_file.specs.Migrated.{IsMigrated, IsResultFile}
use Rattle.survey_words.specs.declared.commands.Command.{Command}
use Rattle.survey_words.specs.declared.commands.Command.TheVariants.{Check, Migrate, Rank, Sample}
use Rattle.survey_words.specs.declared.shapes.Shape.{Shape}
use Rattle.survey_words.specs.Commands.{words_of}
use Rattle.result_file.specs.Worth.{EliminationsAreSound, SettlesAll}
use Rattle.ranking.specs.declared.stops.RankStop.TheVariants as stop
use Rattle.ranking.specs.NamedWorths.{NamedWorthView}
use Rattle.sample_survey.specs.declared.summary.Summary.{Summary}
use Rattle.sample_survey.specs.Samples.{IsSampleOf}
use Rattle.survey_server.specs.declared.rank_input.RankRefusal.{RankRefusal}
use Rattle.survey_server.specs.declared.rank_input.RankRefusal.TheVariants.{Definition, Values, Stopped}
use Rattle.survey_server.specs.RankInput.{IsInputOutcome, IsToldInput}
use Rattle.survey_server.specs.RankTexts.{model_fault_line, ranked_text, refusal_line}
use Rattle.survey_server.specs.SampleTexts.{sample_line}

-- the command that the words name
abbrev pub command_in : List (String Global) → Option Command
command_in words = words_of (map (λ word. string_bytes word) words)

-- the words name this command
abbrev pub IsCheck : List (String Global) → Type 0
IsCheck words = command_in words ≡ Some Check

abbrev pub IsMigrate : List (String Global) → Type 0
IsMigrate words = command_in words ≡ Some Migrate

abbrev pub IsRank : List (String Global) → Type 0
IsRank words = command_in words ≡ Some Rank

-- the words name the sample survey of a seed and a shape
abbrev pub IsSampleCommand : List (String Global) → ℕ → Shape → Type 0
IsSampleCommand words seed shape = command_in words ≡ Some (Sample seed shape)

-- the words name no command of these
abbrev pub IsNoCommand : List (String Global) → Type 0
IsNoCommand words =
    (¬ IsCheck words) × (¬ IsMigrate words) × (¬ IsRank words) × ((seed : ℕ) (shape : Shape) → ¬ IsSampleCommand words seed shape)

-- the line that words of no command get
abbrev pub usage_line : List ℕ
usage_line = codes "usage: paprika check | migrate | rank | sample SEED SHAPE | run [--eliminators N] [--sample SEED --shape SHAPE] | serve PORT [--eliminators N] [--connections K]\n"

-- the line of a verdict
abbrev pub verdict_line : Checked → List ℕ
verdict_line Valid = codes "valid\n"
verdict_line ValidComplete = codes "valid complete\n"
verdict_line (Invalid line part) = codes "invalid " ++ decimal line ++ codes " " ++ part_text part ++ codes "\n"
verdict_line (Unfinished line) = codes "unfinished " ++ decimal line ++ codes "\n"
verdict_line ReadFault = []
verdict_line NoMemory = []

-- the text was written and the status is this one; or the sink failed, a prefix of the text is out, and the status is 4
abbrev pub Writes : List ℕ → ℕ → Option (List ℕ) → Option (List ℕ) → ℕ → Type 0
Writes text wanted before now status =
    ((status ≡ wanted) × Appends before now text) ⊎ ((status ≡ 4) × AppendsPrefix before now text)

-- nothing was written, and the status is this one
abbrev pub IsSilent : ℕ → Option (List ℕ) → Option (List ℕ) → ℕ → Type 0
IsSilent wanted before now status = (status ≡ wanted) × (now ≡ before)

-- how a verdict is answered: by its line and its status
abbrev pub Answers : Checked → Option (List ℕ) → Option (List ℕ) → ℕ → Type 0
Answers Valid before now status = Writes (verdict_line Valid) 0 before now status
Answers ValidComplete before now status = Writes (verdict_line ValidComplete) 0 before now status
Answers (Invalid line part) before now status = Writes (verdict_line (Invalid line part)) 1 before now status
Answers (Unfinished line) before now status = Writes (verdict_line (Unfinished line)) 1 before now status
Answers ReadFault before now status = IsSilent 3 before now status
Answers NoMemory before now status = IsSilent 5 before now status

-- the file of a source was checked, and its verdict answered. `told` is what was left in the source before, `left` what is left
-- now; `before` and `now` are what a sink holds; each where it is known
pub record ChecksFile (told left before now : Option (List ℕ)) (status : ℕ) : Type 0 where
  pub verdict : Checked
  pub checked : IsToldChecked told verdict
  pub ended : EndsInput verdict left
  pub answered : Answers verdict before now status

-- the usage line was written with status 2, or there was no memory for it
abbrev pub ShowsUsage : Option (List ℕ) → Option (List ℕ) → ℕ → Type 0
ShowsUsage before now status = Writes usage_line 2 before now status ⊎ IsSilent 5 before now status

-- where it is known, the text is a valid file, and each pair that it eliminates is ranked so
abbrev pub IsSoundFile : Option (List ℕ) → Type 0
IsSoundFile told = IfSome told (λ text. (content : Content) × IsFileOf content text × EliminationsAreSound content)

-- the sink shows that the line `valid complete` was written, and nothing else
abbrev pub SaysComplete : Option (List ℕ) → Option (List ℕ) → Type 0
SaysComplete before now = (text : List ℕ) × (before ≡ Some text) × (now ≡ Some (text ++ verdict_line ValidComplete))

-- where it is known, the text is the valid file of a survey that settles every pair
abbrev pub IsSettlingFile : Option (List ℕ) → Type 0
IsSettlingFile told = IfSome told (λ text. (content : Content) × IsFileOf content text × SettlesAll content)

-- what a reader of the answer may rely on: with status 0 each value vector that meets the answers standing at an eliminated
-- pair's line ranks it so; with the line `valid complete` each one that meets the answers ranks every pair that needs a question
pub record IsWorthAnswer (told before now : Option (List ℕ)) (status : ℕ) : Type 0 where
  pub sound : status ≡ 0 → IsSoundFile told
  pub settling : SaysComplete before now → IsSettlingFile told

-- the source holds the text of a valid file, and that is known
abbrev pub IsValidFile : Option (List ℕ) → Type 0
IsValidFile told = (text : List ℕ) × (content : Content) × (told ≡ Some text) × IsFileOf content text

-- how a migration is answered: by the copy with status 0, or as the check's verdict is
abbrev pub AnswersMigration : Result (Vec ℕ Global) Checked → Option (List ℕ) → Option (List ℕ) → ℕ → Type 0
AnswersMigration (Ok copy) before now status = Writes copy.items 0 before now status
AnswersMigration (Err verdict) before now status = Answers verdict before now status

-- the result of a source was copied into the second format or refused, and that answered
pub record MigratesFile (told before now : Option (List ℕ)) (status : ℕ) : Type 0 where
  pub outcome : Result (Vec ℕ Global) Checked
  pub migrated : IsMigrated told outcome
  pub answered : AnswersMigration outcome before now status

-- the source holds the text of a valid result, and that is known
abbrev pub IsValidResult : Option (List ℕ) → Type 0
IsValidResult told = (text : List ℕ) × (told ≡ Some text) × IsResultFile text

-- how a refusal of what was to be ranked is answered
abbrev pub AnswersRefusal : RankRefusal → Option (List ℕ) → Option (List ℕ) → ℕ → Type 0
AnswersRefusal (Stopped stop.ReadFault) before now status = IsSilent 3 before now status
AnswersRefusal (Stopped stop.NoMemory) before now status = IsSilent 5 before now status
AnswersRefusal (Stopped stop.TableLong) before now status = Writes (refusal_line (Stopped stop.TableLong)) 1 before now status
AnswersRefusal (Stopped stop.Header) before now status = Writes (refusal_line (Stopped stop.Header)) 1 before now status
AnswersRefusal (Stopped (stop.Row place)) before now status = Writes (refusal_line (Stopped (stop.Row place))) 1 before now status
AnswersRefusal (Stopped (stop.Level place column)) before now status = Writes (refusal_line (Stopped (stop.Level place column))) 1 before now status
AnswersRefusal (Definition fault) before now status = Writes (refusal_line (Definition fault)) 1 before now status
AnswersRefusal Values before now status = Writes (refusal_line Values) 1 before now status

-- how a ranking is answered: by its records with status 0, or as its refusal is
abbrev pub AnswersRanking : Result (List NamedWorthView) RankRefusal → Option (List ℕ) → Option (List ℕ) → ℕ → Type 0
AnswersRanking (Ok ranked) before now status = Writes (ranked_text ranked) 0 before now status
AnswersRanking (Err refusal) before now status = AnswersRefusal refusal before now status

-- a table that is ranked was read to its end
abbrev pub EndsTable : Result (List NamedWorthView) RankRefusal → Option (List ℕ) → Type 0
EndsTable (Ok ranked) left = IsAtEnd left
EndsTable (Err refusal) left = Unit {0}

-- the table of a source was ranked or refused, and that answered
pub record RanksTable (told left before now : Option (List ℕ)) (status : ℕ) : Type 0 where
  pub outcome : Result (List NamedWorthView) RankRefusal
  pub ranked : IsToldInput told outcome
  pub ended : EndsTable outcome left
  pub answered : AnswersRanking outcome before now status

-- the source holds a text that has a ranking, and that is known
abbrev pub IsRankable : Option (List ℕ) → Type 0
IsRankable told = (text : List ℕ) × (ranked : List NamedWorthView) × (told ≡ Some text) × IsInputOutcome text (Ok ranked)

-- the line of a sample survey was written with status 0, or there was no memory for it
abbrev pub WritesSummary : ℕ → Shape → Summary → Option (List ℕ) → Option (List ℕ) → ℕ → Type 0
WritesSummary seed shape summary before now status = Writes (sample_line seed shape summary) 0 before now status ⊎ IsSilent 5 before now status

-- the line of the sample survey of a seed and a shape of this model was written with status 0, or there was no memory for it
abbrev pub SamplesModel : ℕ → Shape → Criteria → Option (List ℕ) → Option (List ℕ) → ℕ → Type 0
SamplesModel seed shape criteria before now status =
    ((summary : Summary) × IsSampleOf criteria seed summary × Writes (sample_line seed shape summary) 0 before now status)
    ⊎ IsSilent 5 before now status

-- the line of a fault was written with status 1, or there was no memory for it
abbrev pub RefusesModel : ModelFault → Option (List ℕ) → Option (List ℕ) → ℕ → Type 0
RefusesModel fault before now status = Writes (model_fault_line fault) 1 before now status ⊎ IsSilent 5 before now status

-- a sample survey of the shape's model was run and answered; or, where the shape makes none, its first fault was
abbrev pub SamplesShape : ℕ → Shape → Option (List ℕ) → Option (List ℕ) → ℕ → Type 0
SamplesShape seed shape before now status =
    MatchOption (model_fault shape.counts shape.degree)
    (SamplesModel seed shape (record { levels = shape.counts; degree = shape.degree }) before now status)
    (λ fault. RefusesModel fault before now status)

-- the shape makes a model
abbrev pub IsModelShape : Shape → Type 0
IsModelShape shape = model_fault shape.counts shape.degree ≡ None
