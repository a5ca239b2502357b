use Rattle.std.proofs.Common.{◌≡◌, ap, arith}
use Rattle.std.specs.List.{fold}
use Rattle.sample_survey.specs.declared.summary.Summary.{Summary}
use Rattle.sample_survey.specs.Samples.{trace_after}
use Rattle.sample_survey.proofs.SummaryLemmas.{trace_small}
use Rattle.sample_survey.proofs.summary.Summary.with_answer.Goals as goal

pub trace_after-requires : goal.trace_after-requires
trace_after-requires c =
    let same : c.args.self.trace ≡ fold trace_after 0 c.requires.0 = ap (λ (s : Summary). s.trace) c.requires.1 in
    omega (arith, same, trace_small c.requires.0 0 (omega arith))
