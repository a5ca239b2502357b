-- Lists of cites.
use Rattle.std.specs.Prelude.{◌≢◌, ◌<◌, ◌≤◌, List, length, map, All, pos, unsigned_abs}
use Rattle.std.specs.List.Sorted.{IsStrictlyIncreasing}
use Rattle.criteria_model.specs.declared.limits.TheConstants.{CERTIFICATE_BOUND}
use Rattle.farkas_check.specs.declared.cites.Cite.{Cite}
use Rattle.farkas_check.specs.declared.cites.TheConstants.{MAX_CITES}

-- the number of an answer, and a weight below `CERTIFICATE_BOUND` in size that isn't 0
pub record IsCite (cite : Cite) : Type 0 where
  pub numbered : 1 ≤ cite.answer
  pub weighed : cite.weight ≢ pos 0
  pub within : unsigned_abs cite.weight < CERTIFICATE_BOUND

-- a list that `Cites` holds: at most `MAX_CITES` cites, each answer once and in ascending order
pub record AreCites (cites : List Cite) : Type 0 where
  pub most : length cites ≤ MAX_CITES
  pub each : All IsCite cites
  pub ascending : IsStrictlyIncreasing (map (λ cite. cite.answer) cites)

-- what stands in a cell that holds no cite
abbrev pub no_cite : Cite
no_cite = record { answer = 0; weight = pos 0 }
