-- What contracts see of a way to a survey by a pass.
use Rattle.std.specs.Borrow.{MutBor}
use Rattle.shared_survey.specs.declared.pass.Pass.{Pass}
use Rattle.shared_survey.specs.declared.survey.Survey.{Survey}
use Rattle.shared_survey.specs.declared.pass_access.PassAbout.{PassAbout}
use Rattle.shared_survey.specs.Passes.{desk_of, pass_weight}

-- what a lent pass stands for: its survey, its weight, its desk and which loan it is
abbrev pub about_pass : Survey → MutBor Pass → PassAbout
about_pass survey pass = record { survey = survey; weight = pass_weight pass.now; desk = desk_of pass.now; loan = pass.ghost_name }
