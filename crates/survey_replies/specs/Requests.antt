-- What a desk asks of its survey.
use Rattle.std.specs.Prelude.{ℕ}
use Rattle.criteria_model.specs.declared.pairs.Side.{Side}

pub data Request : Type 0 where
  -- a question
  next : Request
  -- that an answer to the question of this number is taken
  answer : ℕ → Side → Request
  -- values that meet all answers
  values : Request
  -- that the last answer is taken back
  withdraw : Request
  -- nothing but what was recorded so far
  look : Request
