use Rattle.std.proofs.Common.{◌-◌, length}
use Rattle.text_fields.proofs.ListSteps.{IsFront}
use Rattle.text_fields.proofs.fields.Fields.list.Given as goal

abbrev pub invariant-loop-count : goal.invariant-loop-count
invariant-loop-count g l = IsFront (g.T.Item.reads l.most) (length l.fn.cells) l.fn.self l.cells l.count l.self

abbrev pub decreases-loop-count : goal.decreases-loop-count
decreases-loop-count g l = length l.initial.cells - l.count
