-- Two alternatives that need a question have one place and one flip.
use Rattle.std.proofs.Common.{◌≡◌, ◌↔◌, inl, inr, ℕ, List, Option, Some, None, IsSome, IsTrue, false, refl, ap, ap₂, sym, ◌∙◌, subst, true≢false}
use Rattle.criteria_model.specs.declared.pairs.Pair.{Pair}
use Rattle.criteria_model.specs.Criteria.{Criteria}
use Rattle.criteria_model.specs.Classes.{IsClass}
use Rattle.criteria_model.specs.Pairs.{AreReplicas}
use Rattle.pair_enumeration.specs.declared.flips.Flip.{Flip}
use Rattle.pair_enumeration.specs.declared.flips.Flip.TheVariants.{Kept, Turned}
use Rattle.pair_enumeration.specs.Listed.{Listed, IsListed}
use Rattle.pair_enumeration.specs.Places.{flipped, NeedsQuestion, class_at, IsPlaceOf, EachPairHasPlace, EachPairHasOnePlace}
use Rattle.pair_enumeration.proofs.SearchLemmas.{stands_once, stands_contains, contains_stands}
use Rattle.pair_enumeration.proofs.PlaceLemmas.{AreAlternatives, written_pair, exchanged, class_of_two, not_both_classes, class_needs_question, question_turned, written_replica, replica_is_written}

-- the written pair at each flip
abbrev pub flipped_pair : Flip → List ℕ → List ℕ → Pair
flipped_pair Kept a b = written_pair a b
flipped_pair Turned a b = written_pair b a

flipped_replica : (listed : Listed) (a b : List ℕ) (flip : Flip) → AreAlternatives listed.criteria.levels a b
    → AreReplicas listed.criteria.levels (flipped_pair flip a b) (flipped flip a b)
flipped_replica listed a b Kept h = written_replica listed.criteria.levels a b h
flipped_replica listed a b Turned h = written_replica listed.criteria.levels b a (exchanged listed.criteria.levels a b h)

pub is_place_of : (listed : Listed) (a b : List ℕ) (place : ℕ) (flip : Flip) → AreAlternatives listed.criteria.levels a b
    → class_at listed.classes place ≡ Some (flipped_pair flip a b) → IsPlaceOf listed a b place flip
is_place_of listed a b place flip h s = record { pair = flipped_pair flip a b; stands = s; replica = flipped_replica listed a b flip h }

flipped_question : (listed : Listed) (a b : List ℕ) (flip : Flip) → AreAlternatives listed.criteria.levels a b
    → IsClass listed.criteria (flipped_pair flip a b) → NeedsQuestion listed.criteria a b
flipped_question listed a b Kept h c = class_needs_question listed.criteria a b h c
flipped_question listed a b Turned h c =
    let g = exchanged listed.criteria.levels a b h in
    question_turned listed.criteria b a g (class_needs_question listed.criteria b a g c)

pub class_question : (listed : Listed) (a b : List ℕ) (flip : Flip) → AreAlternatives listed.criteria.levels a b
    → IsClass listed.criteria (flipped_pair flip a b) → NeedsQuestion listed.criteria a b
class_question listed a b flip h c = flipped_question listed a b flip h c

-- the pair at such a place is the written pair, and a class
replica_pair : (listed : Listed) (a b : List ℕ) (flip : Flip) (pair : Pair) → AreAlternatives listed.criteria.levels a b
    → IsClass listed.criteria pair
    → AreReplicas listed.criteria.levels pair (flipped flip a b) → pair ≡ flipped_pair flip a b
replica_pair listed a b Kept pair h c r = replica_is_written listed.criteria a b pair h c r
replica_pair listed a b Turned pair h c r = replica_is_written listed.criteria b a pair (exchanged listed.criteria.levels a b h) c r

pub place_stands : (listed : Listed) (a b : List ℕ) (place : ℕ) (flip : Flip) → IsListed listed → AreAlternatives listed.criteria.levels a b
    → IsPlaceOf listed a b place flip
    → IsClass listed.criteria (flipped_pair flip a b) × (class_at listed.classes place ≡ Some (flipped_pair flip a b))
place_stands listed a b place flip l h p =
    let c = (l.list.members p.pair).0 (stands_contains listed.classes place p.pair p.stands) in
    let e = replica_pair listed a b flip p.pair h c p.replica in
    (subst (IsClass listed.criteria) e c, p.stands ∙ ap Some e)

same_flip : (listed : Listed) (a b : List ℕ) (flip other : Flip) → IsClass listed.criteria (flipped_pair flip a b)
    → IsClass listed.criteria (flipped_pair other a b) → flip ≡ other
same_flip listed a b Kept Kept c d = refl
same_flip listed a b Turned Turned c d = refl
same_flip listed a b Kept Turned c d = absurd (not_both_classes listed.criteria a b c d)
same_flip listed a b Turned Kept c d = absurd (not_both_classes listed.criteria a b d c)

pub one_place : (listed : Listed) (a b : List ℕ) (place other_place : ℕ) (flip other_flip : Flip) → IsListed listed
    → AreAlternatives listed.criteria.levels a b
    → IsPlaceOf listed a b place flip → IsPlaceOf listed a b other_place other_flip → (place ≡ other_place) × (flip ≡ other_flip)
one_place listed a b place other_place flip other_flip l h p q =
    let x = place_stands listed a b place flip l h p in
    let y = place_stands listed a b other_place other_flip l h q in
    let f = same_flip listed a b flip other_flip x.0 y.0 in
    (stands_once listed.classes place other_place (flipped_pair other_flip a b) l.list.ordered (x.1 ∙ ap (λ g. Some (flipped_pair g a b)) f) y.1, f)

pub only_place : (listed : Listed) (a b : List ℕ) (place other_place : ℕ) (flip other_flip : Flip) → IsListed listed
    → AreAlternatives listed.criteria.levels a b
    → IsPlaceOf listed a b place flip → IsPlaceOf listed a b other_place other_flip → ◌≡◌ {A = Option (ℕ × Flip)} (Some (place, flip)) (Some (other_place, other_flip))
only_place listed a b place other_place flip other_flip l h p q =
    let e = one_place listed a b place other_place flip other_flip l h p q in
    ap₂ (λ (n : ℕ) (f : Flip). Some (n, f)) e.0 e.1

pub no_place : (listed : Listed) (a b : List ℕ) (place : ℕ) (flip : Flip) → IsListed listed → AreAlternatives listed.criteria.levels a b
    → ¬ IsClass listed.criteria (written_pair a b) → ¬ IsClass listed.criteria (written_pair b a) → ¬ IsPlaceOf listed a b place flip
no_place listed a b place Kept l h n m p = n (place_stands listed a b place Kept l h p).0
no_place listed a b place Turned l h n m p = m (place_stands listed a b place Turned l h p).0

pub no_question : (listed : Listed) (a b : List ℕ) → AreAlternatives listed.criteria.levels a b
    → ¬ IsClass listed.criteria (written_pair a b) → ¬ IsClass listed.criteria (written_pair b a) → ¬ NeedsQuestion listed.criteria a b
no_question listed a b h n m q = elim (class_of_two listed.criteria a b h q) [ inl c ↦ n c | inr c ↦ m c ]

-- ---- the laws
has_place_at : (listed : Listed) (a b : List ℕ) (flip : Flip) → IsListed listed → AreAlternatives listed.criteria.levels a b
    → IsClass listed.criteria (flipped_pair flip a b)
    → (place : ℕ) × (flip : Flip) × IsPlaceOf listed a b place flip
has_place_at listed a b flip l h c =
    let s = contains_stands listed.classes (flipped_pair flip a b) ((l.list.members (flipped_pair flip a b)).1 c) in
    (s.0, flip, is_place_of listed a b s.0 flip h s.1)

pub each_pair_has_place_lem : EachPairHasPlace
each_pair_has_place_lem listed a b l p q n =
    let h : AreAlternatives listed.criteria.levels a b = record { first = p; second = q } in
    elim (class_of_two listed.criteria a b h n) [
      | inl c ↦ has_place_at listed a b Kept l h c
      | inr c ↦ has_place_at listed a b Turned l h c
    ]

pub each_pair_has_one_place_lem : EachPairHasOnePlace
each_pair_has_one_place_lem listed a b place other_place flip other_flip l p q = one_place listed a b place other_place flip other_flip l (record { first = p; second = q })

-- ---- a result that isn't there
-- a pair that was searched in vain is no class
pub unlisted : (criteria : Criteria) (pair written : Pair) → IsTrue false ↔ IsClass criteria pair → pair ≡ written → ¬ IsClass criteria written
unlisted criteria pair written h same class = true≢false (sym (h.1 (subst (IsClass criteria) (sym same) class)))

pub none_is : {X : Type 0} (o : Option X) → o ≡ None → IsSome o → ⊥
none_is None e h = true≢false (sym h)
none_is (Some x) e h = absurd cc
