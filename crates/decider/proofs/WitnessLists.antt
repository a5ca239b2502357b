-- Vectors that are known to meet answers, when answers are added or a vector is.
use Rattle.std.proofs.Common.{◌≡◌, ◌≢◌, ℕ, ℤ, pos, ◌<ℤ◌, None, refl, ◌-◌, ◌≤◌, ◌<◌, List, Some, length, take, drop, get_or, ap, sym, subst, ◌∙◌, arith, length-take}
use Rattle.std.specs.Prelude.{Option, IfSome, All, slice_get, slice_set}
use Rattle.std.proofs.lemmas.List.{take-take, take-append-drop}
use Rattle.std.specs.List.{swap_remove}
use Rattle.std.proofs.lemmas.List.Elements.{All-append, All-take, All-set}
use Rattle.std.proofs.lemmas.Option.{get_or_from_slice_get}
use Rattle.std.proofs.lemmas.Int.{ints}
use Rattle.criteria_model.specs.declared.pairs.Pair.{Pair}
use Rattle.criteria_model.specs.declared.pairs.Answer.{Answer}
use Rattle.criteria_model.specs.declared.pairs.Side.{Side}
use Rattle.criteria_model.specs.declared.pairs.Side.TheVariants.{Left, Right, Equal}
use Rattle.row_laws.specs.Rows.{dot}
use Rattle.criteria_model.specs.Worth.{IsValueVector}
use Rattle.criteria_model.specs.Answers.{Ranks, Meets, MeetsAll, gain}
use Rattle.criteria_model.proofs.GainLemmas.{Favours, favours_ranks}
use Rattle.answer_rows.specs.Room.{BeginsWith}
use Rattle.simplex.specs.Rows.{IsCoprime}
use Rattle.decider.specs.declared.witnesses.Witness.{Witness}
use Rattle.decider.specs.Witnesses.{IsWitness}

front : (n : ℕ) (known answers : List Answer) → n ≤ length known → BeginsWith answers known → take n answers ≡ take n known
front n known answers le begins = sym (take-take n (length known) answers le) ∙ ap (take n) begins

longer : (known answers : List Answer) → BeginsWith answers known → length known ≤ length answers
longer known answers begins = omega (arith, ap length begins, length-take (length known) answers)

-- the answers that were copied begin with those that were there
pub begins_still : (known answers new : List Answer) (room : ℕ) → BeginsWith answers known → length known ≤ room → new ≡ take room answers → BeginsWith new known
begins_still known answers new room begins le is = ap (take (length known)) is ∙ take-take (length known) room answers le ∙ begins

-- what meets the known answers first meets as many of a longer list
pub witness_more : (levels : List ℕ) (known answers : List Answer) (witness : Witness) → BeginsWith answers known → IsWitness levels known witness → IsWitness levels answers witness
witness_more levels known answers witness begins is = record {
  vector = is.vector;
  coprime = is.coprime;
  within = omega (arith, is.within, longer known answers begins);
  meets = subst (All (Meets levels witness.vector)) (sym (front witness.met known answers is.within begins)) is.meets;
}

-- with the later answers it meets all
pub witness_meets : (levels : List ℕ) (known answers : List Answer) (witness : Witness) → BeginsWith answers known → IsWitness levels known witness
    → MeetsAll levels (drop witness.met answers) witness.vector
    → MeetsAll levels answers witness.vector
witness_meets levels known answers witness begins is later = record {
  vector = is.vector;
  each = subst (All (Meets levels witness.vector)) (take-append-drop witness.met answers)
      (All-append (Meets levels witness.vector) (take witness.met answers) (drop witness.met answers) (witness_more levels known answers witness begins is).meets later.each);
}

pub witness_at : (levels : List ℕ) (known : List Answer) (kept : List Witness) (place : ℕ) (read witness : Witness) → All (IsWitness levels known) kept → place < length kept
    → read ≡ get_or kept place read → slice_get kept place ≡ Some witness
    → (read ≡ witness) × IsWitness levels known witness
witness_at levels known kept place read witness all lt read_is found =
    let same : get_or kept place read ≡ witness = get_or_from_slice_get kept place witness read found in
    (read_is ∙ same, subst (IsWitness levels known) same (all place read lt))

-- a vector that meets the answers meets the known ones
pub meets_known : (levels : List ℕ) (known answers : List Answer) (vector : List ℤ) → BeginsWith answers known → MeetsAll levels answers vector → All (Meets levels vector) known
meets_known levels known answers vector begins meets = subst (All (Meets levels vector)) begins (All-take (Meets levels vector) (length known) answers meets.each)

-- the same by the level counts of which the answers are known
pub confirmed : (levels own : List ℕ) (known answers : List Answer) (vector : List ℤ) → own ≡ levels → BeginsWith answers known → MeetsAll levels answers vector → All (Meets own vector) known
confirmed levels own known answers vector same begins meets = subst (λ (l : List ℕ). All (Meets l vector) known) (sym same) (meets_known levels known answers vector begins meets)

-- one that meets all the known answers is known to do so
pub witness_all : (levels : List ℕ) (known : List Answer) (witness : Witness) → IsValueVector levels witness.vector → IsCoprime witness.vector → All (Meets levels witness.vector) known
    → witness.met ≡ length known
    → IsWitness levels known witness
witness_all levels known witness vector coprime meets met = record {
  vector = vector;
  coprime = coprime;
  within = omega (arith, met);
  meets = All-take (Meets levels witness.vector) witness.met known meets;
}

pub All-swap_remove : {X : Type 0} (P : X → Type 0) (xs : List X) (place : ℕ) (d : X) → place < length xs → All P xs → All P (swap_remove xs place d)
All-swap_remove P xs place d lt all =
    All-take P (length xs - 1) (slice_set xs place (get_or xs (length xs - 1) d)) (All-set P xs place (get_or xs (length xs - 1) d) (all (length xs - 1) d (omega arith)) all)

pub some_weaker : {X : Type 0} (P Q : X → Type 0) → ((x : X) → P x → Q x) → (o : Option X) → IfSome o P → IfSome o Q
some_weaker P Q weaker None h = h
some_weaker P Q weaker (Some x) h = weaker x h

-- a vector by which the gain is positive ranks the pair so
pub gaining_ranks : (levels : List ℕ) (vector gain_is : List ℤ) (pair : Pair) (side : Side) → side ≢ Equal → gain_is ≡ gain levels pair side → pos 0 <ℤ dot vector gain_is
    → Ranks levels vector pair side
gaining_ranks levels vector gain_is pair side strict same positive =
    favours_ranks levels vector pair side (favours side strict (subst (λ (g : List ℤ). pos 0 <ℤ dot vector g) same positive))
  where
    favours : (side : Side) → (side ≡ Equal → ⊥) → pos 0 <ℤ dot vector (gain levels pair side) → Favours side (dot vector (gain levels pair side))
    favours Left other h = omega (arith, ints, h)
    favours Right other h = omega (arith, ints, h)
    favours Equal other h = absurd (other refl)
