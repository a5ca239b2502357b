-- Vectors that are known to meet answers.
use Rattle.std.specs.Prelude.{ℕ, ◌≡◌, ◌≤◌, List, Some, length, take, slice_get, All, ℤ, pos, ◌<ℤ◌}
use Rattle.row_laws.specs.Rows.{dot}
use Rattle.criteria_model.specs.declared.pairs.Answer.{Answer}
use Rattle.criteria_model.specs.Worth.{IsValueVector}
use Rattle.criteria_model.specs.Answers.{Meets}
use Rattle.answer_rows.specs.Room.{AnswersWithRoom}
use Rattle.simplex.specs.Rows.{IsCoprime}
use Rattle.decider.specs.declared.witnesses.Witness.{Witness}

-- a value vector without a common divisor that meets the first `met` of the answers
pub record IsWitness (levels : List ℕ) (answers : List Answer) (witness : Witness) : Type 0 where
  pub vector : IsValueVector levels witness.vector
  pub coprime : IsCoprime witness.vector
  pub within : witness.met ≤ length answers
  pub meets : All (Meets levels witness.vector) (take witness.met answers)

-- the level counts and the answers of which the vectors are known, and the vectors
pub record WitnessesView : Type 0 where
  pub levels : List ℕ
  pub answers : AnswersWithRoom
  pub kept : List Witness

-- a place from `from` on, with a vector by which the row is positive
pub record IsGaining (kept : List Witness) (row : List ℤ) (from place : ℕ) : Type 0 where
  pub from_on : from ≤ place
  pub witness : Witness
  pub is : slice_get kept place ≡ Some witness
  pub positive : pos 0 <ℤ dot witness.vector row
