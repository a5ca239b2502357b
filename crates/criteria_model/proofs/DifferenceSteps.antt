-- The step of the loop that writes the differences criterion by criterion.
use Rattle.std.proofs.Common.{◌≡◌, ℕ, ◌+◌, ◌-◌, ◌≤◌, ◌<◌, ◌∙◌, List, ◌++◌, length, take, drop, get_or, ℤ, ap, ap₂, sym, arith, length-take, length-drop}
use Rattle.std.proofs.lemmas.List.Sums.{sum_by_more, sum_by_more_le}
use Rattle.std.proofs.lemmas.Slice.{take-put_mid}
use borrow.Rule.Slice.PartMut.{put_mid, same_len_mid}
use Rattle.row_laws.specs.Rows.{minus}
use Rattle.criteria_model.specs.Worth.{increments, has_on, has}
use Rattle.row_laws.proofs.RowLemmas.{length-minus}
use Rattle.criteria_model.proofs.LevelLemmas.{minus-has-take_more, has_on-by, length-has_on}

-- after i criteria the first `at` cells hold the differences on them; then `new` is written over the next `steps` cells
pub record IsStep (counts high low : List ℕ) (i at steps : ℕ) (cells new : List ℤ) : Type 0 where
  pub more : i < length counts
  pub high_len : length high ≡ length counts
  pub low_len : length low ≡ length counts
  pub few : increments counts ≤ 24
  pub len : length cells ≡ 24
  pub at_is : at ≡ increments (take i counts)
  pub written : take at cells ≡ minus (has (take i counts) (take i high)) (has (take i counts) (take i low))
  pub steps_is : steps ≡ get_or counts i 0 - 1
  pub new_is_written : new ≡ minus (has_on (length (take (at + steps - at) (drop at cells)) + 1) (get_or high i 0)) (has_on (length (take (at + steps - at) (drop at cells)) + 1) (get_or low i 0))

fits : (counts high low : List ℕ) (i at steps : ℕ) (cells new : List ℤ) → IsStep counts high low i at steps cells new → at + steps ≤ 24
fits counts high low i at steps cells new s = omega (arith, s.at_is, s.steps_is, s.few, sum_by_more_le (λ n. n - 1) counts i 0 s.more)

part_len : (counts high low : List ℕ) (i at steps : ℕ) (cells new : List ℤ) → IsStep counts high low i at steps cells new
    → length (take (at + steps - at) (drop at cells)) ≡ steps
part_len counts high low i at steps cells new s = simp (length-take, length-drop) (omega (arith, s.len, fits counts high low i at steps cells new s))

new_is : (counts high low : List ℕ) (i at steps : ℕ) (cells new : List ℤ) → IsStep counts high low i at steps cells new
    → new ≡ minus (has_on (get_or counts i 0) (get_or high i 0)) (has_on (get_or counts i 0) (get_or low i 0))
new_is counts high low i at steps cells new s =
    let k : length (take (at + steps - at) (drop at cells)) + 1 - 1 ≡ get_or counts i 0 - 1 = omega (arith, part_len counts high low i at steps cells new s, s.steps_is) in
    s.new_is_written ∙ ap₂ minus (has_on-by _ (get_or counts i 0) (get_or high i 0) k) (has_on-by _ (get_or counts i 0) (get_or low i 0) k)

new_len : (counts high low : List ℕ) (i at steps : ℕ) (cells new : List ℤ) → IsStep counts high low i at steps cells new → length new ≡ steps
new_len counts high low i at steps cells new s =
    omega (arith, s.steps_is, ap length (new_is counts high low i at steps cells new s), length-minus (has_on (get_or counts i 0) (get_or high i 0)) (has_on (get_or counts i 0) (get_or low i 0)), length-has_on (get_or counts i 0) (get_or high i 0), length-has_on (get_or counts i 0) (get_or low i 0))

pub step_len : (counts high low : List ℕ) (i at steps : ℕ) (cells new : List ℤ) → IsStep counts high low i at steps cells new
    → length (put_mid at (at + steps - at) cells new) ≡ 24
step_len counts high low i at steps cells new s =
    same_len_mid at (at + steps - at) cells new (new_len counts high low i at steps cells new s ∙ sym (part_len counts high low i at steps cells new s)) ∙ s.len

pub step_at : (counts high low : List ℕ) (i at steps : ℕ) (cells new : List ℤ) → IsStep counts high low i at steps cells new
    → at + steps ≡ increments (take (i + 1) counts)
step_at counts high low i at steps cells new s = omega (arith, s.at_is, s.steps_is, sum_by_more (λ n. n - 1) counts i 0 s.more)

pub step_written : (counts high low : List ℕ) (i at steps : ℕ) (cells new : List ℤ) → IsStep counts high low i at steps cells new
    → take (at + steps) (put_mid at (at + steps - at) cells new) ≡ minus (has (take (i + 1) counts) (take (i + 1) high)) (has (take (i + 1) counts) (take (i + 1) low))
step_written counts high low i at steps cells new s =
    take-put_mid at (at + steps - at) cells new (at + steps) (omega (arith, new_len counts high low i at steps cells new s)) (omega (arith, s.len, fits counts high low i at steps cells new s))
    ∙ ap₂ (λ a b. a ++ b) s.written (new_is counts high low i at steps cells new s)
    ∙ sym (minus-has-take_more counts high low i s.more s.high_len s.low_len)
