-- A legal history is short.
use Rattle.std.proofs.Common.{ℕ, ◌*◌, ◌≤◌, List, length, subst, arith}
use Rattle.std.proofs.Math.Nat.{mul-add, mul_comm}
use Rattle.std.proofs.lemmas.List.Sums.{count_by-le-length}
use Rattle.pair_enumeration.specs.Listed.{Listed}
use Rattle.survey_core.specs.declared.events.Event.{Event}
use Rattle.survey_core.specs.Legal.{most_events}
use Rattle.survey_core.specs.Laws.{IsWithinMost, IsShort}
use Rattle.survey_core.specs.Marked.{is_ranked_mark}
use Rattle.survey_core.proofs.FollowLemmas.{Keeps, keeps_whole}

within_now : (listed : Listed) (history : List Event) (now : Keeps listed history) → length history ≤ most_events (length listed.classes) now.withdrawn
within_now listed history now =
    let c : ℕ = length listed.classes in
    omega (
      arith,
      now.kept.short,
      now.kept.table_of.len,
      now.kept.table_of.asked_count,
      count_by-le-length (λ m. m.issued) now.table.classes,
      count_by-le-length is_ranked_mark now.table.classes,
      mul-add now.withdrawn (2 * c) 1,
      mul_comm now.withdrawn (2 * c),
    )

pub legal_is_within_most_lem : IsWithinMost
legal_is_within_most_lem listed history model legal =
    let now : Keeps listed history = keeps_whole listed history model legal in
    subst (λ (n : ℕ). length history ≤ most_events (length listed.classes) n) now.kept.withdrawals_made (within_now listed history now)

pub legal_is_short_lem : IsShort
legal_is_short_lem listed history model legal =
    let now : Keeps listed history = keeps_whole listed history model legal in
    omega (arith, within_now listed history now, now.kept.unspent)
