-- One desk and eliminators.
use Rattle.std.proofs.Common.{◌≡◌, ℕ, List, [], ◌∷◌, ◌++◌, All, Some, slice_get, arith}
use Rattle.std.specs.List.{flat_map}
use mathlib.Core.List.{IsPrefix}
use Rattle.pair_enumeration.specs.Listed.{Listed}
use Rattle.survey_core.specs.declared.events.Event.{Event}
use Rattle.survey_core.proofs.ListSteps.{All-Each}
use Rattle.survey_replies.specs.Calls.{unseen, HasEliminateOf, Conversation, occurrences}
use Rattle.survey_replies.specs.JournalLaws.{DeskRun, WorkerRun, MakesJournal}
use Rattle.survey_replies.proofs.CallLemmas.{prefix_get}
use Rattle.survey_replies.specs.PlainLaws.{IsAlone, OneDeskIsPlain}
use Rattle.survey_replies.proofs.JournalLemmas.{times_both, place_within, workers_none}
use Rattle.survey_replies.proofs.PlainLemmas.{legal_prefix, alone_is_plain_lem}

one_desk_alone : (listed : Listed) (journal : List Event) (run : DeskRun) (workers : List WorkerRun) → MakesJournal listed journal (run ∷ []) workers
    → IsPrefix run.seen.journal journal → IsAlone run.seen
one_desk_alone listed journal run workers makes prefix place event at none =
    let whole : slice_get journal place ≡ Some event = prefix_get run.seen.journal journal place event prefix at in
    let others : List ℕ = flat_map (λ run. run.own) workers in
    let once : occurrences place ((run.seen.own ++ []) ++ others) ≡ 1 = makes.once place (place_within journal place event whole) in
    let gone : occurrences place others ≡ 0 =
    workers_none journal place event workers (All-Each (λ run. All (HasEliminateOf run.worker journal) run.own) workers makes.eliminations) whole none in
    omega (arith, once, gone, times_both place (run.seen.own ++ []) others, times_both place run.seen.own [])

pub one_desk_is_plain_lem : OneDeskIsPlain
one_desk_is_plain_lem listed journal run workers model legal makes =
    let each = All-Each (λ run. Conversation listed run.desk unseen run.seen run.exchanges × IsPrefix run.seen.journal journal) (run ∷ []) makes.conversations in
    alone_is_plain_lem listed run.desk run.seen run.exchanges model (legal_prefix listed run.seen.journal journal each.0.1 legal) each.0.0
    (one_desk_alone listed journal run workers makes each.0.1)
