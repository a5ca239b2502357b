use Rattle.std.proofs.Common.{◌≡◌, ◌<◌, ℕ, ℤ, ◌+ℤ◌, ◌*ℤ◌, List, length, set, refl, arith}
use Rattle.row_laws.specs.Rows.{entry}
use Rattle.fraction_free.specs.Representation.{IsAdded, factors_at}
use Rattle.fraction_free.proofs.Sums.{sum_back, product_fits, sum_fits}
use Rattle.fraction_free.proofs.SlackLine.{factors_at-column, added_at_column}
use Rattle.fraction_free.proofs.slack_line.add_variable.Goals as goal

added_along : (t s v : ℤ) (old new : List ℤ) (lines : List (List ℤ)) (place : ℕ) → place < length old → new ≡ set old place v → v ≡ entry old place +ℤ t *ℤ s
    → IsAdded t old (factors_at s lines (length old) place) new
added_along t s v old new lines place below is value =
    rw (is, factors_at-column s lines (length old) place below) (added_at_column t s v old (length old) place refl below value)

pub returns-then-place-width : goal.returns-then-place-width
returns-then-place-width c =
    added_along c.args.times c.args.scale _ c.args.line.now c.set.new.self c.args.lines.now c.args.place (omega arith) c.set.ensures
    (sum_back c.get.result c.args.scale c.args.times (entry c.args.line.now c.args.place) c.args.scale c.get.ensures refl (c.requires.sizes c.args.place) c.requires.scale_size c.requires.times)

pub overflow_mul-number : goal.overflow_mul-number
overflow_mul-number c = product_fits c.args.scale c.args.times c.args.scale refl c.requires.scale_size c.requires.times

pub overflow_add-number : goal.overflow_add-number
overflow_add-number c =
    sum_fits c.get.result c.args.scale c.args.times (entry c.args.line.now c.args.place) c.args.scale c.get.ensures refl (c.requires.sizes c.args.place) c.requires.scale_size c.requires.times
