use Rattle.survey_run.proofs.desk_threads.start.Goals as goal

pub returns-then-desk-eq0 : goal.returns-then-desk-eq0
returns-then-desk-eq0 g c = c.keep_silent.ensures c.args.survey.now c.args.respondent c.args.job.desk c.args.script.now.sessions c.requires.job
