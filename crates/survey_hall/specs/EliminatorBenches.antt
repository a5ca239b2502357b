-- Benches of an eliminator.
use Rattle.std.specs.Prelude.{◌≡◌}
use Rattle.std.specs.Arc.{arc_value}
use Rattle.std.specs.Global.{Global}
use Rattle.std.specs.declared.sync.Arc.{Arc}
use Rattle.shared_survey.specs.declared.survey.Survey.{Survey}
use Rattle.shared_survey.specs.declared.bench.SurveyBench.{SurveyBench}
use Rattle.shared_survey.specs.Benches.{bench_about}

module _ {R : Type 0} where
  -- the bench is one of the survey
  abbrev pub IsBenchOf : Arc Survey Global → SurveyBench R → Type 0
  IsBenchOf survey bench = (bench_about bench).survey ≡ arc_value survey
