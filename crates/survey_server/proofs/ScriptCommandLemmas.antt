-- How what came of a script is answered, and the commands of which there was no memory to read the words.
use Rattle.std.proofs.Common.{◌≡◌, ◌⊎◌, ℕ, List, Option, Some, None, refl, sym, subst, inl, inr}
use Rattle.std.specs.Prelude.{MatchOption, Result, Ok, Err, String}
use Rattle.std.specs.declared.alloc.Global.{Global}
use Rattle.edges.specs.Faults.{CountsFaults}
use Rattle.criteria_model.specs.declared.faults.ModelFault.{ModelFault}
use Rattle.result_file.specs.declared.verdicts.Checked.TheVariants as verdict
use Rattle.result_file.specs.Checked.{IsToldChecked}
use Rattle.result_file.proofs.CopyLemmas.{memory_refused}
use Rattle.ranking.specs.declared.stops.RankStop.TheVariants as rank
use Rattle.survey_run.specs.RunViews.{RunView}
use Rattle.survey_server.specs.declared.commands.Ended.{Ended}
use Rattle.survey_server.specs.declared.rank_input.RankRefusal.TheVariants.{Stopped}
use Rattle.survey_server.specs.declared.script_runs.Stop.{Stop}
use Rattle.survey_server.specs.declared.script_runs.Stop.TheVariants.{Definition, Script, ReadFault, WriteFault, DoorFault, NoMemory}
use Rattle.survey_server.specs.Command.{IsCheck, IsMigrate, IsModelShape, IsRank, IsRankable, IsSampleCommand, IsValidFile, IsValidResult, command_in}
use Rattle.survey_server.specs.ScriptCommand.{DoesPlainCommand, HasInputFor, IsPlainCommand, RunsAndAnswers}
use Rattle.survey_server.specs.ScriptRuns.{IsWriteFault}
use Rattle.survey_words.specs.declared.commands.Command.{Command}
use Rattle.survey_words.specs.declared.commands.Command.TheVariants as command
use Rattle.survey_words.specs.declared.shapes.Shape.{Shape}
use Rattle.survey_server.proofs.RankLaws.{memory_refused as table_refused}
use Rattle.survey_server.proofs.StatusLaws.{no_worth}

-- ---- faults
failed_or_not : (outcome : Result RunView Stop) → IsWriteFault outcome ⊎ (¬ IsWriteFault outcome)
failed_or_not (Ok end) = inr (λ fails. fails)
failed_or_not (Err (Definition fault)) = inr (λ fails. fails)
failed_or_not (Err (Script line part)) = inr (λ fails. fails)
failed_or_not (Err ReadFault) = inr (λ fails. fails)
failed_or_not (Err (WriteFault end)) = inl tt
failed_or_not (Err DoorFault) = inr (λ fails. fails)
failed_or_not (Err NoMemory) = inr (λ fails. fails)

-- the sink's count over the run and the answer
pub faults_join : (outcome : Result RunView Stop) (status before mid now : ℕ) → CountsFaults (IsWriteFault outcome) before mid
    → (IsWriteFault outcome → (status ≡ 4) × (now ≡ mid)) → ((¬ IsWriteFault outcome) → CountsFaults (status ≡ 4) mid now) → CountsFaults (status ≡ 4) before now
faults_join outcome status before mid now first failed other =
    elim (failed_or_not outcome) [
      | inl fails ↦ (let both = failed fails in record { rises = λ is. rw both.1 (first.rises fails); stays = λ is_not. absurd (is_not both.0) })
      | inr fine ↦ subst (λ (n : ℕ). CountsFaults (status ≡ 4) n now) (first.stays fine) (other fine)
    ]

-- ---- no memory
pub no_memory_runs : (eliminators : ℕ) (told left now : Option (List ℕ)) (ended : Ended) → ended ≡ record { status = 5; run = None; served = None }
    → RunsAndAnswers eliminators told left now now ended
no_memory_runs eliminators told left now ended is =
    subst (λ (e : Ended). RunsAndAnswers eliminators told left now now e) (sym is)
    (record { outcome = Err NoMemory; written = now; came = refl; answered = ((refl, refl), refl) })

unchecked : (told : Option (List ℕ)) → IsToldChecked told verdict.NoMemory
unchecked None = tt
unchecked (Some text) = tt

either_way : (fault : Option ModelFault) (A : Type 0) (B : ModelFault → Type 0) → A → ((f : ModelFault) → B f) → MatchOption fault A B
either_way None A B a b = a
either_way (Some f) A B a b = b f

pub no_memory_does : {X : Type 0} (words : List (String Global)) (source : X) (told now : Option (List ℕ)) → DoesPlainCommand words source source told told now now 5
no_memory_does words source told now = record {
  check = λ is. record { verdict = verdict.NoMemory; checked = unchecked told; ended = tt; answered = (refl, refl) };
  worth = λ is. no_worth told now;
  migrate = λ is. record { outcome = Err verdict.NoMemory; migrated = memory_refused told; answered = (refl, refl) };
  rank = λ is. record { outcome = Err (Stopped rank.NoMemory); ranked = table_refused told; ended = tt; answered = (refl, refl) };
  sample = λ seed shape is. either_way _ _ _ (inr (refl, refl)) (λ fault. inr (refl, refl));
  sample_unread = λ seed shape is. refl;
  usage = λ is. inr (refl, refl);
  unread = λ is. refl;
}

-- ---- all other commands
pub done_where_plain : (Done : Type 0) (words : List (String Global)) (told : Option (List ℕ)) (named : Command) → command_in words ≡ Some named → HasInputFor named told
    → IsPlainCommand words → (IsCheck words → IsValidFile told → Done) → (IsMigrate words → IsValidResult told → Done) → (IsRank words → IsRankable told → Done)
    → ((seed : ℕ) (shape : Shape) → IsSampleCommand words seed shape → IsModelShape shape → Done) → Done
done_where_plain Done words told command.Check is has plain check migrate rank sample = check is has
done_where_plain Done words told command.Migrate is has plain check migrate rank sample = migrate is has
done_where_plain Done words told command.Rank is has plain check migrate rank sample = rank is has
done_where_plain Done words told (command.Sample seed shape) is has plain check migrate rank sample = sample seed shape is has
done_where_plain Done words told (command.Run eliminators) is has plain check migrate rank sample = absurd (plain.no_run eliminators is)
done_where_plain Done words told (command.RunSample seed shape eliminators) is has plain check migrate rank sample = absurd (plain.no_sample seed shape eliminators is)
done_where_plain Done words told (command.Serve port eliminators connections) is has plain check migrate rank sample = absurd (plain.no_serve port eliminators connections is)
