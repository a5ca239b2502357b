use Rattle.result_file.specs.declared.kinds.Kind.TheVariants.{Result}
use Rattle.result_file.proofs.kinds.format_of.Goals as goal

pub returns-in-None : goal.returns-in-None
returns-in-None c = λ format is. c.in-None.ensures (Result format) is
