-- A text that has a ranking isn't refused; and the status of one.
use Rattle.std.proofs.Common.{◌≡◌, ◌≢◌, ◌⊎◌, ℕ, List, [], ◌∷◌, length, refl, sym, ap, subst, ◌∙◌, inl, inr}
use Rattle.std.specs.Prelude.{Option, Some, None, Result, Ok, Err, ℤ}
use Rattle.std.proofs.lemmas.Bool.Decides.{leb_tells}
use Rattle.edges.specs.Faults.{CountsFaults, HasRisen}
use Rattle.json_forms.specs.declared.definition_faults.DefinitionFault.{DefinitionFault}
use Rattle.json_forms.specs.DefinitionViews.{DefinitionView, level_counts}
use Rattle.ranking.specs.declared.stops.TheConstants.{MAX_TABLE}
use Rattle.ranking.specs.declared.stops.RankStop.{RankStop}
use Rattle.ranking.specs.declared.stops.RankStop.TheVariants as stop
use Rattle.ranking.specs.Names.{NamedCriteria, header_of}
use Rattle.ranking.specs.NamedWorths.{NamedWorthView}
use Rattle.ranking.specs.Tables.{RecordsSay, TableSays, table_records}
use Rattle.ranking.specs.Rankings.{IsTableRanking}
use Rattle.survey_server.specs.declared.rank_input.RankRefusal.{RankRefusal}
use Rattle.survey_server.specs.declared.rank_input.RankRefusal.TheVariants.{Definition, Values, Stopped}
use Rattle.survey_server.specs.RankInput.{IsInputOutcome, IsTableOutcome, IsToldInput, IsValuesOutcome, UnlessStopped, after_first_line, leading_definition, named_criteria, values_in}
use Rattle.survey_server.specs.Command.{AnswersRanking, IsRankable, RanksTable}

-- records say alternatives or refuse, not both
records_once : (criteria : NamedCriteria) (values : List ℤ) (records : List (List (List ℕ))) (alternatives : List NamedWorthView) (why : RankStop)
    → RecordsSay criteria values records (Ok alternatives) → RecordsSay criteria values records (Err why) → ⊥
records_once criteria values [] alternatives why one other = cc
records_once criteria values (header ∷ later) alternatives why one other =
    let not_header : header ≢ header_of criteria = λ same.
    let both : Ok alternatives ≡ Err why = one.0 same ∙ sym (other.0 same) in cc in
    let refused : Ok alternatives ≡ Err stop.Header = one.1 not_header in
    cc

-- so does a table
table_once : (criteria : NamedCriteria) (values : List ℤ) (table : List ℕ) (alternatives : List NamedWorthView) (why : RankStop)
    → TableSays criteria values table (Ok alternatives) → TableSays criteria values table (Err why) → ⊥
table_once criteria values table alternatives why one other = elim (leb_tells (length table) MAX_TABLE) [
  | inl within ↦ records_once criteria values (table_records table) alternatives why (one.within within.1) (other.within within.1)
  | inr long ↦ let refused : Ok alternatives ≡ Err stop.TableLong = one.long long.1 in cc
]

-- a table that is ranked isn't refused
pub ranked_not_refused : (criteria : NamedCriteria) (values : List ℤ) (table : List ℕ) (ranked : List NamedWorthView) (why : RankStop)
    → why ≢ stop.ReadFault → why ≢ stop.NoMemory → IsTableRanking criteria values table (Ok ranked) → IsTableRanking criteria values table (Err why) → ⊥
ranked_not_refused criteria values table ranked stop.ReadFault no_fault memory one other = no_fault refl
ranked_not_refused criteria values table ranked stop.NoMemory no_fault memory one other = memory refl
ranked_not_refused criteria values table ranked stop.TableLong no_fault memory one other = table_once criteria values table one.0 stop.TableLong one.1 other
ranked_not_refused criteria values table ranked stop.Header no_fault memory one other = table_once criteria values table one.0 stop.Header one.1 other
ranked_not_refused criteria values table ranked (stop.Row place) no_fault memory one other = table_once criteria values table one.0 (stop.Row place) one.1 other
ranked_not_refused criteria values table ranked (stop.Level place column) no_fault memory one other = table_once criteria values table one.0 (stop.Level place column) one.1 other

outcome_once : (criteria : NamedCriteria) (values : List ℤ) (table : List ℕ) (ranked : List NamedWorthView) (refusal : RankRefusal)
    → refusal ≢ Stopped stop.ReadFault → refusal ≢ Stopped stop.NoMemory → IsTableOutcome criteria values table (Ok ranked) → IsTableOutcome criteria values table (Err refusal) → ⊥
outcome_once criteria values table ranked (Stopped why) no_fault memory one other =
    ranked_not_refused criteria values table ranked why (λ same. no_fault (ap (λ (w : RankStop). Stopped w) same)) (λ same. memory (ap (λ (w : RankStop). Stopped w) same)) one other
outcome_once criteria values table ranked (Definition fault) no_fault memory one other = other
outcome_once criteria values table ranked Values no_fault memory one other = other

values_once : (definition : DefinitionView) (text : List ℕ) (found : Option (List ℤ)) → values_in (level_counts definition.criteria) text ≡ found
    → (ranked : List NamedWorthView) (refusal : RankRefusal) → refusal ≢ Stopped stop.ReadFault → refusal ≢ Stopped stop.NoMemory
    → IsValuesOutcome definition text (Ok ranked) → IsValuesOutcome definition text (Err refusal) → ⊥
values_once definition text None is ranked refusal no_fault memory one other = let refused : Ok ranked ≡ Err Values = rw is at one in cc
values_once definition text (Some values) is ranked refusal no_fault memory one other =
    outcome_once (named_criteria definition) values (after_first_line text) ranked refusal no_fault memory (rw is at one) (rw is at other)

-- a text that has a ranking isn't refused
input_once : (text : List ℕ) (found : Result DefinitionView DefinitionFault) → leading_definition text ≡ found
    → (ranked : List NamedWorthView) (refusal : RankRefusal) → refusal ≢ Stopped stop.ReadFault → refusal ≢ Stopped stop.NoMemory
    → IsInputOutcome text (Ok ranked) → IsInputOutcome text (Err refusal) → ⊥
input_once text (Ok definition) is ranked refusal no_fault memory one other =
    values_once definition (after_first_line text) (values_in (level_counts definition.criteria) (after_first_line text)) refl ranked refusal no_fault memory (rw is at one) (rw is at other)
input_once text (Err fault) is ranked refusal no_fault memory one other = let refused : Ok ranked ≡ Err (Definition fault) = rw is at one in cc

-- a text that has a ranking ends with 0 or 5 where no fault came
done_by : (text : List ℕ) (ranked : List NamedWorthView) (outcome : Result (List NamedWorthView) RankRefusal) (before now : Option (List ℕ)) (status : ℕ)
    → IsInputOutcome text (Ok ranked) → UnlessStopped outcome (IsInputOutcome text outcome) → AnswersRanking outcome before now status
    → status ≢ 3 → status ≢ 4 → (status ≡ 0) ⊎ (status ≡ 5)
done_by text ranked (Ok other) before now status one is answered no_read no_write =
    elim answered [ inl done ↦ inl done.0 | inr failed ↦ absurd (no_write failed.0) ]
done_by text ranked (Err (Stopped stop.ReadFault)) before now status one is answered no_read no_write = absurd (no_read answered.0)
done_by text ranked (Err (Stopped stop.NoMemory)) before now status one is answered no_read no_write = inr answered.0
done_by text ranked (Err (Stopped stop.TableLong)) before now status one is answered no_read no_write =
    absurd (input_once text (leading_definition text) refl ranked (Stopped stop.TableLong) (λ e. cc) (λ e. cc) one is)
done_by text ranked (Err (Stopped stop.Header)) before now status one is answered no_read no_write =
    absurd (input_once text (leading_definition text) refl ranked (Stopped stop.Header) (λ e. cc) (λ e. cc) one is)
done_by text ranked (Err (Stopped (stop.Row place))) before now status one is answered no_read no_write =
    absurd (input_once text (leading_definition text) refl ranked (Stopped (stop.Row place)) (λ e. cc) (λ e. cc) one is)
done_by text ranked (Err (Stopped (stop.Level place column))) before now status one is answered no_read no_write =
    absurd (input_once text (leading_definition text) refl ranked (Stopped (stop.Level place column)) (λ e. cc) (λ e. cc) one is)
done_by text ranked (Err (Definition fault)) before now status one is answered no_read no_write =
    absurd (input_once text (leading_definition text) refl ranked (Definition fault) (λ e. cc) (λ e. cc) one is)
done_by text ranked (Err Values) before now status one is answered no_read no_write =
    absurd (input_once text (leading_definition text) refl ranked Values (λ e. cc) (λ e. cc) one is)

pub done_where_rankable : (told left before now : Option (List ℕ)) (read_before read_now written_before written_now status : ℕ) → RanksTable told left before now status
    → CountsFaults (status ≡ 3) read_before read_now → CountsFaults (status ≡ 4) written_before written_now
    → IsRankable told → (¬ HasRisen read_before read_now) → (¬ HasRisen written_before written_now) → (status ≡ 0) ⊎ (status ≡ 5)
done_where_rankable told left before now read_before read_now written_before written_now status ranks reads writes rankable no_read no_write =
    let known : UnlessStopped ranks.outcome (IsInputOutcome rankable.0 ranks.outcome) =
    subst (λ (o : Option (List ℕ)). IsToldInput o ranks.outcome) rankable.2 ranks.ranked in
    done_by rankable.0 rankable.1 ranks.outcome before now status rankable.3 known ranks.answered
    (λ failed. no_read (reads.rises failed)) (λ failed. no_write (writes.rises failed))

-- want of memory says nothing of the text
pub memory_refused : (told : Option (List ℕ)) → IsToldInput told (Err (Stopped stop.NoMemory))
memory_refused None = tt
memory_refused (Some text) = tt
