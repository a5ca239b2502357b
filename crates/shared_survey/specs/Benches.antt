-- What contracts see of a bench by a pass.
use Rattle.eliminators.specs.Jobs.{JobCounts}
use Rattle.survey_replies.specs.Calls.{Seen}
use Rattle.shared_survey.specs.declared.bench.BenchAbout.{BenchAbout}
use Rattle.shared_survey.specs.declared.bench.SurveyBench.{SurveyBench}
use Rattle.shared_survey.specs.Passes.{pass_seen, pass_weight}

module _ {R : Type 0} where
  -- its survey, its worker's number, and the weight and the own places that its pass had at first
  abbrev pub bench_about : SurveyBench R → BenchAbout
  bench_about bench = record {
    survey = bench.survey.now;
    worker = bench.worker;
    weight = pass_weight bench.had.value;
    had = (pass_seen bench.had.value).own;
  }

  -- what its pass has seen and made
  abbrev pub bench_seen : SurveyBench R → Seen
  bench_seen bench = pass_seen bench.pass

  abbrev pub bench_counts : SurveyBench R → JobCounts
  bench_counts bench = record { taken = bench.taken; handed_in = bench.handed_in; none_left = bench.none_left }
