use Rattle.std.proofs.Common.{◌-◌, length}
use Rattle.result_file.specs.Reading.{read_cite}
use Rattle.text_fields.proofs.ListSteps.{IsFront}
use Rattle.result_file.proofs.line_fields.cite_list.Given as goal

abbrev pub invariant-loop-count : goal.invariant-loop-count
invariant-loop-count l = IsFront read_cite (length l.fn.cells) l.fn.fields l.cells l.count l.fields

abbrev pub decreases-loop-count : goal.decreases-loop-count
decreases-loop-count l = length l.initial.cells - l.count
