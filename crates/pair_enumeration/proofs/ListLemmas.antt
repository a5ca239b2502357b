-- The list that the walk makes is the class list.
use Rattle.std.proofs.Common.{◌≡◌, ℕ, ◌-◌, ◌≤◌, List, [], map, zip, sym, ◌∙◌, ap, subst, arith}
use Rattle.std.specs.List.{range_with_len}
use Rattle.criteria_model.specs.declared.pairs.Pair.{Pair}
use Rattle.criteria_model.specs.Alternatives.{degree}
use Rattle.criteria_model.specs.Criteria.{Criteria, IsModel}
use Rattle.criteria_model.specs.Classes.{IsClass, ComesBefore}
use Rattle.criteria_model.specs.Lists.{IsTuple}
use Rattle.criteria_model.proofs.LevelLemmas.{few_increments_fit}
use Rattle.pair_enumeration.specs.declared.walks.Stage.TheVariants.{Same}
use Rattle.pair_enumeration.specs.Listed.{Listed, IsListed}
use Rattle.pair_enumeration.specs.Walks.{tails, joined, listed_classes}
use Rattle.pair_enumeration.proofs.Members.{Among, among-map, among-map_in, among-flat_map, among-flat_map_in, among-range, among-range_in, among-Contains, Contains-among, sorted-AllPairs}
use Rattle.pair_enumeration.proofs.TailMembers.{tails_are, tails_all}
use Rattle.pair_enumeration.proofs.TailClasses.{class_tail, tail_class, degree_from_two, joined-zip}
use Rattle.pair_enumeration.proofs.TailOrder.{listed_sorted}
use Rattle.pair_enumeration.proofs.TailCounts.{length-listed}

pub model_levels_fit : (criteria : Criteria) → IsModel criteria → IsTuple criteria.levels
model_levels_fit criteria m = few_increments_fit criteria.levels m.some m.two_levels m.few_increments

member_is_class : (criteria : Criteria) (pair : Pair) → 1 ≤ criteria.degree → Among pair (listed_classes criteria.levels criteria.degree)
    → IsClass criteria pair
member_is_class criteria pair low h =
    let a = among-flat_map (λ d. map (joined [] []) (tails criteria.levels d Same)) pair (range_with_len 2 (criteria.degree - 1)) h in
    let r = among-range a.0 2 (criteria.degree - 1) a.1 in
    let t = among-map (joined [] []) pair (tails criteria.levels a.0 Same) a.2 in
    subst (IsClass criteria) t.2 (tail_class criteria a.0 t.0 (tails_are criteria.levels a.0 Same t.0 t.1) (omega (arith, r.1)))

class_is_member : (criteria : Criteria) (pair : Pair) → IsClass criteria pair → Among pair (listed_classes criteria.levels criteria.degree)
class_is_member criteria pair c =
    let t = class_tail criteria pair c in
    let two = degree_from_two criteria.levels (degree pair.left pair.right) (zip pair.left pair.right) t in
    among-flat_map_in (λ d. map (joined [] []) (tails criteria.levels d Same)) (degree pair.left pair.right) pair (range_with_len 2 (criteria.degree - 1))
    (among-range_in (degree pair.left pair.right) 2 (criteria.degree - 1) two (omega (arith, two, c.within)))
    (subst (λ p. Among p (map (joined [] []) (tails criteria.levels (degree pair.left pair.right) Same))) (joined-zip pair (c.fits.left_len ∙ sym c.fits.right_len))
    (among-map_in (joined [] []) (zip pair.left pair.right) (tails criteria.levels (degree pair.left pair.right) Same)
    (tails_all criteria.levels (degree pair.left pair.right) Same (zip pair.left pair.right) t)))

pub listed_is_list : (criteria : Criteria) → IsModel criteria → IsListed (record { criteria = criteria; classes = listed_classes criteria.levels criteria.degree })
listed_is_list criteria m = record {
  model = m;
  list = record {
    members = λ pair. (
      λ h. member_is_class criteria pair m.degree_from_one (Contains-among pair (listed_classes criteria.levels criteria.degree) h),
      λ c. among-Contains pair (listed_classes criteria.levels criteria.degree) (class_is_member criteria pair c),
    );
    ordered = sorted-AllPairs ComesBefore (listed_classes criteria.levels criteria.degree) (listed_sorted criteria.levels criteria.degree (model_levels_fit criteria m).within);
  };
  len = length-listed criteria.levels criteria.degree;
}

-- the same of a list that is equal
pub listed_by : (criteria : Criteria) (levels : List ℕ) (limit : ℕ) (classes : List Pair) → IsModel criteria → levels ≡ criteria.levels
    → limit ≡ criteria.degree
    → classes ≡ listed_classes levels limit → IsListed (record { criteria = criteria; classes = classes })
listed_by criteria levels limit classes m e f g =
    subst (λ (xs : List Pair). let l : Listed = record { criteria = criteria; classes = xs } in IsListed l)
    (sym (g ∙ ap (λ ls. listed_classes ls limit) e ∙ ap (listed_classes criteria.levels) f))
    (listed_is_list criteria m)
