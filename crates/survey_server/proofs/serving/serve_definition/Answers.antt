use Rattle.survey_server.proofs.serving.serve_definition.Goals as goal

pub returns-in-Ok-serve-clause-outcome : goal.returns-in-Ok-serve-clause-outcome
returns-in-Ok-serve-clause-outcome g c = record {
  definition = c.in-Ok.definition;
  read = c.in-Ok.ensures.read;
  served = rw (c.in-Ok-build.ensures, c.in-Ok-listen.ensures.same) at c.in-Ok-serve.ensures.served;
  count = c.in-Ok-serve.ensures.count;
}
