use Rattle.result_file.proofs.ContentLaws.{starts_claims, starts_survey}
use Rattle.result_file.proofs.bodies.Body.of.Goals as goal

pub returns-in_ok-of-in-Claims-clause-none : goal.returns-in_ok-of-in-Claims-clause-none
returns-in_ok-of-in-Claims-clause-none c =
    rw c.in-Claims.is (starts_claims c.in_ok-of-in-Claims.field-0 c.args.model c.of.ensures.model c.in_ok-of-in-Claims.ensures.none)

pub returns-in_ok-of-in-Result-clause-none : goal.returns-in_ok-of-in-Result-clause-none
returns-in_ok-of-in-Result-clause-none c =
    rw c.in-Result.is (starts_survey c.in_ok-of-in-Result.field-0 c.in-Result.format c.args.model c.in_ok-of-in-Result.ensures.none)
