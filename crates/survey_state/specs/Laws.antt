-- What may follow a legal journal.
use Rattle.std.specs.Prelude.{◌≡◌, ◌*◌, ◌≤◌, List, ◌++◌, length}
use Rattle.pair_enumeration.specs.Listed.{Listed, IsListed}
use Rattle.survey_core.specs.declared.events.Event.{Event}
use Rattle.survey_core.specs.Histories.{withdrawals}
use Rattle.survey_core.specs.Legal.{IsLegal}

-- at most three events a class follow a legal history without a Withdraw among them
abbrev pub ThreeAClassFollow : Type 0
ThreeAClassFollow =
    (listed : Listed) (history more : List Event) → IsListed listed → IsLegal listed (history ++ more) → withdrawals more ≡ 0
    → length more ≤ 3 * length listed.classes
