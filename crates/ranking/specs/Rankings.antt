-- Alternatives by descending worth.
use Rattle.std.specs.Prelude.{ℕ, ◌+◌, List, Option, IfSome, count_by, Bool, Result, Ok, Err, MatchResult, ℤ}
use Rattle.std.specs.Ordering.{int_cmp, is_lt}
use Rattle.std.specs.List.Sorted.{IsSortedBy, IsStableBy}
use Rattle.ranking.specs.declared.stops.RankStop.{RankStop}
use Rattle.ranking.specs.Names.{NamedCriteria}
use Rattle.ranking.specs.NamedWorths.{NamedWorthView}
use Rattle.ranking.specs.Tables.{IsRefusal, TableSays}

-- the first is worth more than the second
abbrev pub is_worth_more : NamedWorthView → NamedWorthView → Bool
is_worth_more one other = is_lt (int_cmp other.worth one.worth)

-- none is worth more than the one before it, and those of equal worth are the same in both lists, in the same order
pub record IsRankingOf (alternatives ranked : List NamedWorthView) : Type 0 where
  pub falls : IsSortedBy is_worth_more ranked
  pub ties : IsStableBy is_worth_more alternatives ranked

-- 1 and the number of those that are worth more
abbrev pub rank_of : List NamedWorthView → NamedWorthView → ℕ
rank_of ranked one = 1 + count_by (λ other. is_worth_more other one) ranked

-- a table is ranked so, or refused for this reason
abbrev pub IsTableRanking : NamedCriteria → List ℤ → List ℕ → Result (List NamedWorthView) RankStop → Type 0
IsTableRanking criteria values table result =
    MatchResult result
    (λ ranked. (alternatives : List NamedWorthView) × TableSays criteria values table (Ok alternatives) × IsRankingOf alternatives ranked)
    (IsRefusal (λ stop. TableSays criteria values table (Err stop)))

-- the same of a table where it is known
abbrev pub IsToldRanking : NamedCriteria → List ℤ → Option (List ℕ) → Result (List NamedWorthView) RankStop → Type 0
IsToldRanking criteria values told result = IfSome told (λ table. IsTableRanking criteria values table result)
