-- What a proof is worth.
use Rattle.std.specs.Prelude.{ℕ, List, ◌++◌}
use Rattle.criteria_model.specs.declared.pairs.Pair.{Pair}
use Rattle.criteria_model.specs.declared.pairs.Answer.{Answer}
use Rattle.criteria_model.specs.declared.pairs.Side.{Side}
use Rattle.criteria_model.specs.Answers.{IsRanked}
use Rattle.farkas_check.specs.declared.combination.Combination.{Combination}
use Rattle.farkas_check.specs.Proof.{Proves}

-- a verdict that a combination proves is the ranking of the pair, under these answers and under every list that begins with them
abbrev pub ProvedIsRanked : Type 0
ProvedIsRanked =
    (levels : List ℕ) (answers more : List Answer) (combination : Combination) (pair : Pair) (side : Side)
    → Proves levels answers combination pair side → IsRanked levels (answers ++ more) pair side
