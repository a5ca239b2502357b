-- A desk beside eliminators alone.
use Rattle.std.proofs.Common.{◌≡◌, ◌∙◌, ℕ, ◌+◌, List, ◌++◌, length, Some, slice_get, ap, arith}
use Rattle.std.specs.List.{AllByRecursion, flat_map}
use Rattle.std.proofs.lemmas.List.Elements.{All-from_recursion}
use mathlib.Core.List.{IsPrefix}
use Rattle.survey_core.specs.declared.events.Event.{Event}
use Rattle.survey_core.proofs.ListSteps.{All-Each}
use Rattle.survey_replies.specs.Calls.{Seen, occurrences}
use Rattle.survey_replies.specs.JournalLaws.{WorkerRun}
use Rattle.survey_replies.specs.PlainLaws.{IsAlone}
use Rattle.survey_replies.proofs.CallLemmas.{prefix_get}
use Rattle.survey_replies.proofs.JournalLemmas.{place_within, times_both, workers_none}
use Rattle.turn_lock.specs.Rule.{AreAllPlaces}
use Rattle.survey_run.specs.Ends.{HasMade}
use Rattle.survey_run.proofs.GatherLemmas.{made_longer, one_inside}

-- where all places are the desk's and those of eliminations, the desk is alone but for these
pub desk_is_alone : (seen : Seen) (joined journal : List Event) (runs : List WorkerRun) (own : List ℕ) → IsPrefix seen.journal journal → IsPrefix joined journal
    → AllByRecursion (HasMade joined) runs → own ≡ flat_map (λ (run : WorkerRun). run.own) runs ++ seen.own → AreAllPlaces 0 (length journal) own → IsAlone seen
desk_is_alone seen joined journal runs own prefix within made are all = λ place event at none.
    let others = flat_map (λ (run : WorkerRun). run.own) runs in
    let whole : slice_get journal place ≡ Some event = prefix_get seen.journal journal place event prefix at in
    let once : occurrences place own ≡ 1 = all place ∙ one_inside (length journal) place (place_within journal place event whole) in
    let sum : occurrences place own ≡ occurrences place others + occurrences place seen.own = ap {B = ℕ} (occurrences place) are ∙ times_both place others seen.own in
    let Made = HasMade journal in
    let gone = workers_none journal place event runs (All-Each Made runs (All-from_recursion Made runs (made_longer joined journal runs within made))) whole none in
    omega (arith, once, sum, gone)
