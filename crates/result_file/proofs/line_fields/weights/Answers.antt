use Rattle.result_file.proofs.LineLaws.{vector_of_list}
use Rattle.result_file.proofs.line_fields.weights.Goals as goal

pub of-requires : goal.of-requires
of-requires c = vector_of_list _ _ _ c.in_ok-count.ensures.exact.1
