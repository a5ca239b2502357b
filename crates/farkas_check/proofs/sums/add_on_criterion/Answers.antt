use Rattle.std.proofs.Common.{◌≡◌, ℕ, ◌+◌, ◌^◌, ◌<◌, List, [], ◌∷◌, ◌++◌, length, get_or, ℤ, pos, ◌+ℤ◌, ◌-ℤ◌, ◌*ℤ◌, unsigned_abs, FitsSigned, to_z, of_z, sym, arith}
use Rattle.std.specs.Int.{w128}
use Rattle.std.proofs.lemmas.Int.{to_z-of_z, fits_signed_from_abs}
use Rattle.std.proofs.lemmas.List.{map-append}
use Rattle.row_laws.specs.Rows.{plus, minus, times}
use Rattle.criteria_model.specs.Worth.{has_on, lies_above}
use Rattle.row_laws.proofs.Integers.{unsigned_abs-add}
use Rattle.row_laws.proofs.RowLemmas.{minus-self, length-minus, length-times, plus-read, plus-push, plus-zeros, times-zeros}
use Rattle.criteria_model.proofs.LevelLemmas.{length-has_on, minus-has_on-more}
use Rattle.farkas_check.proofs.sums.add_on_criterion.Goals as goal

-- levels that are equal change nothing
unchanged : (sums : List ℤ) (level : ℕ) (weight : ℤ)
    → sums ≡ plus sums (times weight (minus (has_on (length sums + 1) level) (has_on (length sums + 1) level)))
unchanged sums level weight =
    rw (minus-self (has_on (length sums + 1) level), times-zeros weight (length (has_on (length sums + 1) level)))
    (sym (plus-zeros sums (length (has_on (length sums + 1) level)) (omega (arith, length-has_on (length sums + 1) level))))

pub returns-then-winner-loser : goal.returns-then-winner-loser
returns-then-winner-loser c = rw c.if-winner-loser.true (unchanged c.args.sums.now c.args.loser c.args.weight)

-- ---- what the code reads and computes, in whole numbers
module _ (c : goal.After-sums-1) where
  -- the changes at the increments below this one
  abbrev changes : List ℤ
  changes = times c.args.weight (minus (has_on (c.loop-place.place + 1) c.args.winner) (has_on (c.loop-place.place + 1) c.args.loser))

  abbrev change : ℤ
  change = c.args.weight *ℤ (lies_above c.args.winner (c.loop-place.place + 1) -ℤ lies_above c.args.loser (c.loop-place.place + 1))

  abbrev before : ℤ
  before = get_or c.loop-place.sums c.loop-place.place (pos 0)

  length-changes : length changes ≡ c.loop-place.place
  length-changes =
      omega (
        arith,
        length-times c.args.weight (minus (has_on (c.loop-place.place + 1) c.args.winner) (has_on (c.loop-place.place + 1) c.args.loser)),
        length-minus (has_on (c.loop-place.place + 1) c.args.winner) (has_on (c.loop-place.place + 1) c.args.loser),
        length-has_on (c.loop-place.place + 1) c.args.winner,
        length-has_on (c.loop-place.place + 1) c.args.loser,
      )

  so_far : c.loop-place.sums ≡ plus c.args.sums.now changes
  so_far = rw (to_z-of_z w128 c.args.weight c.ranges.weight) at c.loop-place.invariant

  change_is : c.change_of.result ≡ change
  change_is = rw (to_z-of_z w128 c.args.weight c.ranges.weight) at c.change_of.ensures.value

  before_small : unsigned_abs before < 2 ^ 120
  before_small =
      rw so_far
      (rw (plus-read c.args.sums.now changes c.loop-place.place (omega (arith, length-changes)) c.loop-place-test.true) (c.requires.sums c.loop-place.place (pos 0) c.loop-place-test.true))

  sum_fits : FitsSigned w128 (before +ℤ c.change_of.result)
  sum_fits = fits_signed_from_abs w128 _ (omega (arith, unsigned_abs-add before c.change_of.result, before_small, c.change_of.ensures.size))

  read_change : to_z w128 (of_z w128 c.change_of.result) ≡ c.change_of.result
  read_change = to_z-of_z w128 c.change_of.result (record { sfits = c.change_of.type_inv })

  read_before : to_z w128 (of_z w128 before) ≡ before
  read_before = to_z-of_z w128 before (fits_signed_from_abs w128 before (omega (arith, before_small)))

pub overflow_add-sums : goal.overflow_add-sums
overflow_add-sums c = rw (read_before c, read_change c) (sum_fits c)

pub loop-place-preserved : goal.loop-place-preserved
loop-place-preserved c =
    let place = c.loop-place.place in
    let weight = c.args.weight in
    let more : times weight (minus (has_on (place + 1 + 1) c.args.winner) (has_on (place + 1 + 1) c.args.loser)) ≡ changes c ++ change c ∷ [] =
    rw (minus-has_on-more place c.args.winner c.args.loser)
    (map-append (λ x. weight *ℤ x) (minus (has_on (place + 1) c.args.winner) (has_on (place + 1) c.args.loser)) ((lies_above c.args.winner (place + 1) -ℤ lies_above c.args.loser (place + 1)) ∷ [])) in
    let pushed = plus-push c.args.sums.now (changes c) (change c) (omega (arith, length-changes c, c.loop-place-test.true)) in
    rw (read_before c, read_change c, to_z-of_z w128 _ (sum_fits c), to_z-of_z w128 weight c.ranges.weight, more, pushed, length-changes c, ← so_far c, change_is c)
