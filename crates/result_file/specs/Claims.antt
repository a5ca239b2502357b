-- The claims of a file, and the answers among them.
use Rattle.std.specs.Prelude.{List, [], ◌∷◌}
use Rattle.criteria_model.specs.declared.pairs.Pair.{Pair}
use Rattle.criteria_model.specs.declared.pairs.Answer.{Answer}
use Rattle.result_file.specs.declared.eliminations.Elimination.{Elimination}

-- a line after the model: an answer on a pair, or a verdict on one with the combination that is to prove it
pub data Claim : Type 0 where
  answered : Answer → Claim
  eliminated : Elimination → Claim

-- the pair that a claim speaks of
abbrev pub pair_of : Claim → Pair
pair_of (answered answer) = answer.pair
pair_of (eliminated elimination) = elimination.pair

-- the answers that are given, in order
abbrev pub answers_of : List Claim → List Answer
answers_of [] = []
answers_of (answered answer ∷ claims) = answer ∷ answers_of claims
answers_of (eliminated elimination ∷ claims) = answers_of claims
