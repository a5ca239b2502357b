use Rattle.question_queue.proofs.FirstLaws.{first_places_are_first}
use Rattle.question_queue.proofs.laws.first_places_are_first.Goals as goal

pub returns : goal.returns
returns c = first_places_are_first
