use Rattle.std.proofs.Common.{◌≡◌, ℕ, List, true, false, IfOk, MatchOption, subst}
use Rattle.json_forms.specs.Definitions.{repeats}
use Rattle.json_forms.proofs.RepeatLemmas.{respondent_names}
use Rattle.json_forms.proofs.by_name.respondents_by_name.Goals as goal

pub returns : goal.returns
returns c =
    let P : List (List ℕ) → Type 0 = λ names. IfOk c.by_name.result (λ found. MatchOption found (repeats names ≡ true) (λ m. (m.entries ≡ c.args.respondents.items) × (repeats names ≡ false))) in
    subst P (respondent_names c.args.respondents.items) c.by_name.ensures
