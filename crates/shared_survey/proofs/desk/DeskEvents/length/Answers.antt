use Rattle.shared_survey.proofs.desk.DeskEvents.length.Goals as goal

pub returns-clause-listed : goal.returns-clause-listed
returns-clause-listed g c = c.length.ensures.listed c.args.self.now.survey.now c.args.self.now.of.belongs

pub returns-clause-legal : goal.returns-clause-legal
returns-clause-legal g c = c.length.ensures.legal c.args.self.now.survey.now c.args.self.now.of.belongs
