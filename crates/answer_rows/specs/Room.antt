-- A list of answers, as clauses see it.
use Rattle.std.specs.Prelude.{◌≡◌, ℕ, ◌+◌, ◌≤◌, List, length, take}
use Rattle.criteria_model.specs.declared.pairs.Answer.{Answer}

-- the answers, and for how many more there is memory
pub record AnswersWithRoom : Type 0 where
  pub answers : List Answer
  pub spare : ℕ

-- the answers that it holds and those that it has memory for
abbrev pub room_of : AnswersWithRoom → ℕ
room_of list = length list.answers + list.spare

-- a list begins with the others
abbrev pub BeginsWith : List Answer → List Answer → Type 0
BeginsWith whole front = take (length front) whole ≡ front

-- how many answers in front two lists share: no longer front of the one is a front of the other
pub record IsCommonFront (one other : List Answer) (count : ℕ) : Type 0 where
  pub in_one : count ≤ length one
  pub in_other : count ≤ length other
  pub same : take count one ≡ take count other
  pub longest : (more : ℕ) → more ≤ length one → more ≤ length other → take more one ≡ take more other → more ≤ count
