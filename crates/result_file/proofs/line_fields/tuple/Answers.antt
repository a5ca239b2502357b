use Rattle.result_file.proofs.LineLaws.{tuple_of_list}
use Rattle.result_file.proofs.line_fields.tuple.Goals as goal

pub of-requires : goal.of-requires
of-requires c = tuple_of_list _ _ _ c.in_ok-count.ensures.exact.1
