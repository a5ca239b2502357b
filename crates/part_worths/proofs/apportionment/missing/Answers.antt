use Rattle.std.proofs.Common.{◌≤◌, sum_by, sym, subst, arith}
use Rattle.part_worths.specs.declared.apportionment.TheConstants.{WHOLE}
use Rattle.part_worths.specs.Apportionment.{rounded_down}
use Rattle.part_worths.proofs.ShareLaws.{missing_within, part_step}
use Rattle.part_worths.proofs.apportionment.missing.Goals.{After-rounded_down-missing}
use Rattle.part_worths.proofs.apportionment.missing.Goals as goal

all : (c : After-rounded_down-missing) → sum_by (rounded_down c.args.total) c.args.values.now ≤ WHOLE
all c =
    subst (λ t. sum_by (rounded_down t) c.args.values.now ≤ WHOLE) (sym c.requires.sum) (missing_within c.args.values.now (omega (arith, c.requires.sum, c.requires.positive))).0

pub overflow_sub-missing : goal.overflow_sub-missing
overflow_sub-missing c =
    (part_step c.args.total c.args.values.now c.loop-value.value-index c.loop-value.missing c.rounded_down-missing.result
    c.loop-value-test.true c.loop-value.invariant c.rounded_down-missing.ensures.value (all c)).0

pub loop-value-preserved : goal.loop-value-preserved
loop-value-preserved c =
    (part_step c.args.total c.args.values.now c.loop-value.value-index c.loop-value.missing c.rounded_down-missing.result
    c.loop-value-test.true c.loop-value.invariant c.rounded_down-missing.ensures.value (all c)).1
