-- What is counted stays small.
use Rattle.std.proofs.Common.{ℕ, ◌<◌, List, [], ◌∷◌, arith}
use Rattle.std.specs.List.{fold}
use Rattle.sample_survey.specs.declared.summary.TheConstants.{TRACE_MODULUS}
use Rattle.sample_survey.specs.Samples.{AnsweredQuestion, trace_after}

pub trace_small : (questions : List AnsweredQuestion) (trace : ℕ) → trace < TRACE_MODULUS → fold trace_after trace questions < TRACE_MODULUS
trace_small [] trace small = small
trace_small (one ∷ questions) trace small = trace_small questions (trace_after trace one) (omega arith)
