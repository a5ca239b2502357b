use Rattle.std.proofs.Common.{arith}
use Rattle.result_file.proofs.ClaimLaws.{is_small}
use Rattle.result_file.proofs.writing.write_levels.Goals as goal

pub write_levels_of-requires-clause-some : goal.write_levels_of-requires-clause-some
write_levels_of-requires-clause-some c = omega (arith, (is_small c.args.model.now c.criteria-criteria.ensures.model).some, c.criteria-criteria.ensures.value)

pub write_levels_of-requires-clause-room : goal.write_levels_of-requires-clause-room
write_levels_of-requires-clause-room c = omega (arith, c.requires, (is_small c.args.model.now c.criteria-criteria.ensures.model).most, c.criteria-criteria.ensures.value)

pub returns-clause-grown : goal.returns-clause-grown
returns-clause-grown c = omega (arith, c.write_levels_of.ensures.grown, (is_small c.args.model.now c.criteria-criteria.ensures.model).most, c.criteria-criteria.ensures.value)
