-- What stops a check at a line.
use Rattle.std.specs.Prelude.{ℕ, List}
use Rattle.result_file.specs.declared.stops.Stop.{Stop}
use Rattle.result_file.specs.declared.stops.Stop.TheVariants.{Wrong, NoMemory}
use Rattle.criteria_model.specs.Criteria.{Criteria}
use Rattle.result_file.specs.Claims.{Claim}
use Rattle.result_file.specs.Checked.{Stage, Fails}
use Rattle.result_file.specs.RightClaims.{FailsAs}

-- the part that is wrong is the first one; of memory nothing is said
abbrev pub StopsAt : Stage → List ℕ → Stop → Type 0
StopsAt stage line (Wrong part) = Fails stage line part
StopsAt stage line NoMemory = Unit {0}

-- the same of a claim of the right form
abbrev pub Refuses : Criteria → List Claim → Claim → Stop → Type 0
Refuses criteria claims claim (Wrong part) = FailsAs criteria claims claim part
Refuses criteria claims claim NoMemory = Unit {0}
