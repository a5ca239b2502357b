use Rattle.std.proofs.Common.{◌≡◌, ℕ, ◌+◌, ◌∙◌, rules, ap, subst, sym, arith}
use Rattle.std.specs.Prelude.{List, Some, count_by}
use Rattle.std.specs.List.Sorted.{IsSortedBy}
use Rattle.std.proofs.lemmas.List.Sorted.{IsPartitionPoint-from_clause}
use Rattle.ranking.specs.NamedWorths.{NamedWorthView}
use Rattle.ranking.specs.Rankings.{is_worth_more}
use Rattle.ranking.proofs.RankLemmas.{count-point, more_in_front}
use Rattle.ranking.proofs.ranked.Ranked.rank.Goals as goal

-- Those that are worth more stand in front, so the point behind them is their number.
pub returns : goal.returns
returns c =
    let one : NamedWorthView = c.at-one.result.now in
    let rows : List NamedWorthView = c.deref.result.now in
    let falls : IsSortedBy is_worth_more rows = subst (λ (xs : List NamedWorthView). IsSortedBy is_worth_more xs) (sym c.deref.ensures.value) c.self.invariant.1 in
    let point = IsPartitionPoint-from_clause (λ (other : NamedWorthView). is_worth_more other one) rows c.partition_point.result c.partition_point.ensures.partitioned (more_in_front rows one falls) (λ a r q k. search rules) in
    let counted : count_by (λ (other : NamedWorthView). is_worth_more other one) c.args.self.now ≡ c.partition_point.result =
    ap (count_by (λ (other : NamedWorthView). is_worth_more other one)) (sym (c.deref.ensures.value ∙ c.self.view_is)) ∙ count-point (λ (other : NamedWorthView). is_worth_more other one) rows c.partition_point.result one point c.partition_point.ensures.bound in
    let next : 1 + count_by (λ (other : NamedWorthView). is_worth_more other one) c.args.self.now ≡ c.partition_point.result + 1 = omega (arith, counted) in
    rw c.at-one.ensures (ap (λ (n : ℕ). Some n) next)
