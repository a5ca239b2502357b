-- Lists by descending worth.
use Rattle.std.proofs.Common.{◌≡◌, ℕ, ◌+◌, ◌-◌, ◌≤◌, zero, suc, Bool, true, false, List, length, take, refl, sym, ap, ◌∙◌, arith}
use Rattle.std.specs.Prelude.{count_by, slice_index_or}
use Rattle.std.specs.Cmp.{IsStrictWeakOrder}
use Rattle.std.specs.List.Sorted.{IsSortedBy, IsPartitionedBy, IsPartitionPoint}
use Rattle.std.proofs.lemmas.Bool.{false≢true}
use Rattle.std.proofs.lemmas.Cmp.{int_cmp_total}
use Rattle.std.proofs.lemmas.List.{take_all}
use Rattle.std.proofs.lemmas.List.MinMax.{IsStrictWeakOrder-flip, ranks_by}
use Rattle.std.proofs.lemmas.List.Sorted.{sorted_far}
use Rattle.std.proofs.lemmas.List.Sums.{count_by_more_no, count_by_more_yes}
use Rattle.std.specs.Ordering.{int_cmp, is_lt}
use Rattle.ranking.specs.NamedWorths.{NamedWorthView}
use Rattle.ranking.specs.Rankings.{is_worth_more}

-- to be worth more is an order
pub worth_order : IsStrictWeakOrder is_worth_more
worth_order = IsStrictWeakOrder-flip (λ (one other : NamedWorthView). is_lt (int_cmp one.worth other.worth)) (ranks_by int_cmp_total (λ (one : NamedWorthView). one.worth))

true_if : (b : Bool) → (b ≡ false → b ≡ true) → b ≡ true
true_if true not_false = refl
true_if false not_false = not_false refl

-- in a list that falls, those that are worth more stand in front
pub more_in_front : (ranked : List NamedWorthView) (one : NamedWorthView) → IsSortedBy is_worth_more ranked → IsPartitionedBy (λ other. is_worth_more other one) ranked
more_in_front ranked one falls i j d le within more =
    let not_more : is_worth_more (slice_index_or ranked j d) (slice_index_or ranked i d) ≡ false = sorted_far is_worth_more worth_order ranked falls i j d le within in
    true_if (is_worth_more (slice_index_or ranked i d) one)
    (λ fails. absurd (false≢true (sym (worth_order.chain (slice_index_or ranked j d) (slice_index_or ranked i d) one not_more fails) ∙ more)))

-- where those that pass stand in front of the others, the point between them is their number
module _ {X : Type 0} (p : X → Bool) (xs : List X) (k : ℕ) (d : X) (point : IsPartitionPoint (λ x. p x ≡ true) (λ x. p x ≡ false) xs k) (within : k ≤ length xs) where
  front : (i : ℕ) → i ≤ k → count_by p (take i xs) ≡ i
  front zero le = refl
  front (suc i) le =
      let next : suc i ≡ i + 1 = omega arith in
      rw next (count_by_more_yes p xs i d (omega arith) (point.0 i d (omega arith) (omega arith)) ∙ ap (λ n. n + 1) (front i (omega arith)))

  back : (j : ℕ) → k + j ≤ length xs → count_by p (take (k + j) xs) ≡ k
  back zero le = let same : k + 0 ≡ k = omega arith in rw same (front k (omega arith))
  back (suc j) le =
      let next : k + suc j ≡ k + j + 1 = omega arith in
      rw next (count_by_more_no p xs (k + j) d (omega arith) (point.1 (k + j) d (omega arith) (omega arith)) ∙ back j (omega arith))

  pub count-point : count_by p xs ≡ k
  count-point =
      let all : k + (length xs - k) ≡ length xs = omega arith in
      sym (ap (count_by p) (take_all (k + (length xs - k)) xs (omega arith))) ∙ back (length xs - k) (omega arith)
