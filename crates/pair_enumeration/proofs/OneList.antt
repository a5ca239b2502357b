-- A model has one class list.
use Rattle.std.proofs.Common.{◌≡◌, ◌⊎◌, inl, inr, zero, suc, List, [], ◌∷◌, AllPairs, Contains, refl, ap₂, sym, ◌∙◌, subst, arith}
use Rattle.criteria_model.specs.declared.pairs.Pair.{Pair}
use Rattle.criteria_model.specs.Criteria.{Criteria}
use Rattle.criteria_model.specs.Classes.{ComesBefore, IsClassList}
use Rattle.pair_enumeration.specs.Listed.{Listed, IsListed}
use Rattle.pair_enumeration.specs.Walks.{listed_classes}
use Rattle.pair_enumeration.specs.Laws.{EachModelHasList, OneClassList}
use Rattle.pair_enumeration.proofs.ListLemmas.{listed_is_list}
use Rattle.pair_enumeration.proofs.SearchLemmas.{before_not_after, not_before_itself}

-- the first, or one of the others
first_or_later : (p : Pair) (ps : List Pair) (q : Pair) → Contains (p ∷ ps) q → (p ≡ q) ⊎ Contains ps q
first_or_later p ps q (zero, within, at) = inl at
first_or_later p ps q (suc k, within, at) = inr (k, omega arith, at)

has_first : (p : Pair) (ps : List Pair) → Contains (p ∷ ps) p
has_first p ps = (0, omega arith, refl)

has_later : (p : Pair) (ps : List Pair) (q : Pair) → Contains ps q → Contains (p ∷ ps) q
has_later p ps q (k, within, at) = (suc k, omega arith, at)

none_of_none : (q : Pair) → Contains [] q → ⊥
none_of_none q (k, within, at) = omega arith

first_before : (p : Pair) (ps : List Pair) (q : Pair) → AllPairs ComesBefore (p ∷ ps) → Contains ps q → ComesBefore p q
first_before p ps q ordered (k, within, at) = subst (λ (x : Pair). ComesBefore p x) at (ordered 0 (suc k) q (omega arith) (omega arith))

later_ordered : (p : Pair) (ps : List Pair) → AllPairs ComesBefore (p ∷ ps) → AllPairs ComesBefore ps
later_ordered p ps ordered = λ i j d less within. ordered (suc i) (suc j) d (omega arith) (omega arith)

same_first : (p : Pair) (ps : List Pair) (q : Pair) (qs : List Pair) → AllPairs ComesBefore (p ∷ ps) → AllPairs ComesBefore (q ∷ qs)
    → Contains (q ∷ qs) p → Contains (p ∷ ps) q → p ≡ q
same_first p ps q qs ordered other_ordered h k =
    elim (first_or_later q qs p h) [
      | inl same ↦ sym same
      | inr later ↦ elim (first_or_later p ps q k) [
        | inl same ↦ same
        | inr other_later ↦ absurd (before_not_after p q (first_before p ps q ordered other_later) (first_before q qs p other_ordered later))
      ]
    ]

-- what stands after the first is not the first
stays_later : (p : Pair) (ps : List Pair) (q : Pair) (qs : List Pair) (x : Pair) → AllPairs ComesBefore (p ∷ ps) → p ≡ q
    → Contains ps x → Contains (q ∷ qs) x → Contains qs x
stays_later p ps q qs x ordered same later h =
    elim (first_or_later q qs x h) [
      | inl first ↦ absurd (not_before_itself x (subst (λ (y : Pair). ComesBefore y x) (same ∙ first) (first_before p ps x ordered later)))
      | inr there ↦ there
    ]

-- two lists in order with the same members are one
same_list : (ps qs : List Pair) → AllPairs ComesBefore ps → AllPairs ComesBefore qs → ((x : Pair) → Contains ps x → Contains qs x)
    → ((x : Pair) → Contains qs x → Contains ps x) → ps ≡ qs
same_list [] [] ordered other_ordered f g = refl
same_list [] (q ∷ qs) ordered other_ordered f g = absurd (none_of_none q (g q (has_first q qs)))
same_list (p ∷ ps) [] ordered other_ordered f g = absurd (none_of_none p (f p (has_first p ps)))
same_list (p ∷ ps) (q ∷ qs) ordered other_ordered f g =
    let same : p ≡ q = same_first p ps q qs ordered other_ordered (f p (has_first p ps)) (g q (has_first q qs)) in
    ap₂ (λ (x : Pair) (xs : List Pair). x ∷ xs) same
    (same_list ps qs (later_ordered p ps ordered) (later_ordered q qs other_ordered)
    (λ x h. stays_later p ps q qs x ordered same h (f x (has_later p ps x h)))
    (λ x h. stays_later q qs p ps x other_ordered (sym same) h (g x (has_later q qs x h))))

pub one_class_list_lem : OneClassList
one_class_list_lem criteria one other h k =
    same_list one other h.ordered k.ordered (λ x has. (k.members x).1 ((h.members x).0 has)) (λ x has. (h.members x).1 ((k.members x).0 has))

-- so what contracts see of two lists of one model is equal
pub one_listed : (one other : Listed) → IsListed one → IsListed other → one.criteria ≡ other.criteria → one ≡ other
one_listed one other h k same =
    let moved : IsClassList other.criteria one.classes = subst (λ (c : Criteria). IsClassList c one.classes) same h.list in
    ap₂ (λ (c : Criteria) (l : List Pair). let listed : Listed = record { criteria = c; classes = l } in listed) same
    (one_class_list_lem other.criteria one.classes other.classes moved k.list)

pub each_model_has_list_lem : EachModelHasList
each_model_has_list_lem criteria model =
    let listed = listed_is_list criteria model in (listed_classes criteria.levels criteria.degree, listed.list, listed.len)
