use Rattle.std.proofs.Common.{◌≡◌, ℕ, length, ◌+ℤ◌, ◌*ℤ◌, to_z, of_z, ap, ap₂, sym, ◌∙◌, arith}
use Rattle.std.specs.Int.{w128}
use Rattle.row_laws.specs.Rows.{entry}
use Rattle.row_laws.proofs.Integers.{read_back}
use Rattle.criteria_model.specs.Worth.{increments}
use Rattle.criteria_model.specs.Answers.{gain}
use Rattle.criteria_model.proofs.GainLemmas.{length-gain}
use Rattle.farkas_check.specs.Sums.{sum_of_cites}
use Rattle.farkas_check.proofs.sums.has_sums.Goals as goal
use Rattle.farkas_check.proofs.sums.has_sums.Goals.{After-as_slice-row}

-- ---- the verdict's gain and the sums, as they are compared
module _ (c : After-as_slice-row) where
  row_is : c.as_slice-row.result.now ≡ gain c.args.model.now.levels c.args.pair.now c.args.verdict
  row_is = c.as_slice-row.ensures.value ∙ c.gain-gain.ensures

  row_len : length c.as_slice-row.result.now ≡ increments c.args.model.now.levels
  row_len = ap length row_is ∙ length-gain c.args.model.now.levels c.args.pair.now c.args.verdict c.requires.pair_fits

  sum_is : (place : ℕ)
      → entry c.add_cites.new.sums place ≡ sum_of_cites c.args.model.now.levels c.args.answers.now.answers c.args.combination.now.answers place +ℤ entry c.args.combination.now.increments place
  sum_is place = rw (c.as_slice.ensures, c.as_slice-2.ensures.value, c.copy_from_slice.ensures.after, c.as_slice-own.ensures.value) at c.add_cites.ensures place

pub is_multiple-requires-clause-len : goal.is_multiple-requires-clause-len
is_multiple-requires-clause-len c =
    omega (
      arith,
      row_len (goal.at.is_multiple-requires-clause-len c).After-as_slice-row,
      ap length c.copy_from_slice.ensures.after,
      ap length c.as_slice-own.ensures.value,
      c.requires.len,
      c.add_cites.auto.sums,
    )

pub returns : goal.returns
returns c =
    let now = (goal.at.returns c).After-as_slice-row in
    let scale = c.args.combination.now.scale in
    let read = read_back w128 scale (let small = c.requires.scale in omega arith) in
    let compared : (place : ℕ) → scale *ℤ entry (gain c.args.model.now.levels c.args.pair.now c.args.verdict) place ≡ to_z w128 (of_z w128 scale) *ℤ entry c.as_slice-row.result.now place =
    λ place. ap₂ (λ s row. s *ℤ entry row place) (sym read) (sym (row_is now)) in (
      λ t place l. compared place ∙ c.is_multiple.ensures.0 t place (omega (arith, row_len now)) ∙ sum_is now place,
      λ h. c.is_multiple.ensures.1 (λ place l. sym (compared place) ∙ h place (omega (arith, row_len now)) ∙ sym (sum_is now place)),
    )
