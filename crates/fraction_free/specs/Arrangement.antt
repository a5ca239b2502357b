-- Lists that hold each of the numbers below their length at one place.
use Rattle.std.specs.Prelude.{ℕ, ◌≡◌, ◌<◌, List, length, slice_index}

-- each place holds a number below the length, and each such number has its place
pub record IsArrangement (order : List ℕ) : Type 0 where
  pub place : ℕ → ℕ
  pub place_below : (number : ℕ) → number < length order → place number < length order
  pub found : (number : ℕ) → number < length order → slice_index order (place number) ≡ number
  pub below : (at : ℕ) → at < length order → slice_index order at < length order
  pub back : (at : ℕ) → at < length order → place (slice_index order at) ≡ at

-- an arrangement, and up to which length it can grow
pub record Arranged : Type 0 where
  pub order : List ℕ
  pub room : ℕ

-- `place` has for each number where it stands
pub record HasPlaces (order place : List ℕ) : Type 0 where
  pub len : length place ≡ length order
  pub place_below : (number : ℕ) → number < length order → slice_index place number < length order
  pub found : (number : ℕ) → number < length order → slice_index order (slice_index place number) ≡ number
  pub below : (at : ℕ) → at < length order → slice_index order at < length order
  pub back : (at : ℕ) → at < length order → slice_index place (slice_index order at) ≡ at
