use Rattle.survey_core.proofs.survey.Core.allowed.Goals as goal

pub returns-in-Eliminate : goal.returns-in-Eliminate
returns-in-Eliminate c = rw (c.in-Eliminate.is) c.may_eliminate.ensures

pub returns-in-Issue : goal.returns-in-Issue
returns-in-Issue c = rw (c.in-Issue.is) c.may_issue.ensures
