-- Laws of the definitions, each proved as the contract of a public function.
use Rattle.std.specs.Prelude.{◌≡◌, ◌≢◌, ◌↔◌, ℕ, List, length, ℤ}
use Rattle.criteria_model.specs.declared.pairs.Pair.{Pair}
use Rattle.criteria_model.specs.declared.pairs.Answer.{Answer}
use Rattle.criteria_model.specs.declared.pairs.Side.{Side}
use Rattle.criteria_model.specs.Worth.{worth}
use Rattle.criteria_model.specs.Alternatives.{IsDominated, IsUndominated, filled}
use Rattle.criteria_model.specs.Pairs.{AreReplicas, turned}
use Rattle.criteria_model.specs.Answers.{Ranks, turned_side, IsSatisfiable, IsRanked, IsOpen, Opens, gain}

-- two alternatives are undominated exactly where they differ and neither is at least as high on every criterion
abbrev pub UndominatedIsNotDominated : Type 0
UndominatedIsNotDominated =
    (a b : List ℕ) → length a ≡ length b → IsUndominated a b ↔ ((a ≢ b) × (¬ IsDominated a b))

-- a written list of levels is worth what its filled list is
abbrev pub FilledIsWorthSame : Type 0
FilledIsWorthSame =
    (levels : List ℕ) (values : List ℤ) (alternative : List ℕ) → worth levels values (filled alternative) ≡ worth levels values alternative

-- replicas have one gain
abbrev pub ReplicasGainSame : Type 0
ReplicasGainSame =
    (levels : List ℕ) (p q : Pair) (side : Side) → AreReplicas levels p q → gain levels p side ≡ gain levels q side

-- any values rank replicas alike
abbrev pub ReplicasRankSame : Type 0
ReplicasRankSame =
    (levels : List ℕ) (values : List ℤ) (p q : Pair) (side : Side)
    → AreReplicas levels p q → Ranks levels values p side → Ranks levels values q side

-- exchanging the sides of a pair exchanges the sides of its ranking
abbrev pub TurnedRanksTurned : Type 0
TurnedRanksTurned =
    (levels : List ℕ) (values : List ℤ) (pair : Pair) (side : Side)
    → Ranks levels values pair side → Ranks levels values (turned pair) (turned_side side)

-- a pair that two vectors open is open
abbrev pub OpenedIsOpen : Type 0
OpenedIsOpen =
    (levels : List ℕ) (answers : List Answer) (pair : Pair) (plus minus : List ℤ)
    → Opens levels answers pair plus minus → IsOpen levels answers pair

-- satisfiable answers rank a pair in one way at most
abbrev pub RankedOnce : Type 0
RankedOnce =
    (levels : List ℕ) (answers : List Answer) (pair : Pair) (one other : Side)
    → IsSatisfiable levels answers → IsRanked levels answers pair one → IsRanked levels answers pair other → one ≡ other
