use Rattle.std.proofs.Common.{rules, arith}
use Rattle.std.proofs.lemmas.List.Sorted.{answers_always, length_permutation}
use Rattle.ranking.specs.Rankings.{is_worth_more}
use Rattle.ranking.proofs.RankLemmas.{worth_order}
use Rattle.ranking.proofs.ranked.Ranked.of.Goals as goal

pub invariant_of-result : goal.invariant_of-result
invariant_of-result c = (
  omega (arith, length_permutation _ _ c.in_ok-sort_by.ensures.permutation),
  c.in_ok-sort_by.ensures.sorted is_worth_more worth_order (answers_always _ _ _ (λ f a r g h. search rules)),
)

pub returns : goal.returns
returns c = record {
  falls = c.in_ok-sort_by.ensures.sorted is_worth_more worth_order (answers_always _ _ _ (λ f a r g h. search rules));
  ties = c.in_ok-sort_by.ensures.stable is_worth_more worth_order (answers_always _ _ _ (λ f a r g h. search rules));
}
