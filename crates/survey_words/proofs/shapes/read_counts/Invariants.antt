use Rattle.std.proofs.Common.{◌-◌, length}
use Rattle.survey_words.specs.declared.limits.TheConstants.{MAX_SHAPE_COUNTS}
use Rattle.survey_words.proofs.CountLemmas.{IsFront}
use Rattle.survey_words.proofs.shapes.read_counts.Given as goal

abbrev pub invariant-counts : goal.invariant-counts
invariant-counts l = IsFront MAX_SHAPE_COUNTS l.fn.fields l.items.items l.fields

abbrev pub decreases-counts : goal.decreases-counts
decreases-counts l = MAX_SHAPE_COUNTS - length l.items.items
