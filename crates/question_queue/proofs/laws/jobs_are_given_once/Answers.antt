use Rattle.question_queue.proofs.FirstLaws.{jobs_are_given_once}
use Rattle.question_queue.proofs.laws.jobs_are_given_once.Goals as goal

pub returns : goal.returns
returns c = jobs_are_given_once
