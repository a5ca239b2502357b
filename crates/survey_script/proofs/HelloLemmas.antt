-- Whom a hello admits.
use Rattle.std.proofs.Common.{◌≡◌, ℕ, ◌+◌, ◌≤◌, Bool, true, false, List, [], length, map, refl, subst, arith, if◌then◌else◌}
use Rattle.std.specs.Prelude.{not, position, bytes_eq, Option, Some, None, option_map, Result, Ok, Err}
use Rattle.std.proofs.lemmas.Bool.Decides.{nat_tests}
use Rattle.std.proofs.lemmas.List.{length-map}
use Rattle.std.proofs.lemmas.List.Quantifiers.{position-Some}
use Rattle.json_forms.specs.DefinitionViews.{DefinitionView, RespondentView}
use Rattle.json_forms.specs.Definitions.{number_of}
use Rattle.json_forms.specs.HelloView.{HelloView}
use Rattle.survey_core.specs.Legal.{IsDesk}
use Rattle.survey_script.specs.declared.hellos.Admitted.{Admitted}
use Rattle.survey_script.specs.declared.hellos.HelloFault.{HelloFault}
use Rattle.survey_script.specs.declared.hellos.HelloFault.TheVariants.{Code, Desk}
use Rattle.survey_script.specs.Hellos.{admission_by, admission_of, code_of, is_code, is_desk}

-- whose number it is exists, and so does the desk
abbrev pub IsAdmitted : DefinitionView → Admitted → Type 0
IsAdmitted definition admitted = (1 ≤ admitted.respondent) × (admitted.respondent ≤ length definition.respondents) × IsDesk admitted.desk

number_within : (name : List ℕ) (names : List (List ℕ)) (found : Option ℕ) → position (bytes_eq name) names ≡ found
    → (number : ℕ) → option_map (λ place. place + 1) found ≡ Some number → (1 ≤ number) × (number ≤ length names)
number_within name names None at number is = cc
number_within name names (Some place) at number is =
    let here : place + 1 ≡ number = cc in
    let first = position-Some (bytes_eq name) names place [] at in
    (omega arith, omega (arith, first.0))

passes : {X : Type 0} (b : Bool) (fault : HelloFault) (rest : Result X HelloFault) (x : X) → (if not b then Err fault else rest) ≡ Ok x → (b ≡ true) × (rest ≡ Ok x)
passes true fault rest x is = (refl, is)
passes false fault rest x is = cc

by_number : (definition : DefinitionView) (hello : HelloView) (found : Option ℕ) → number_of hello.name (map (λ r. r.name) definition.respondents) ≡ found
    → (admitted : Admitted) → admission_by definition hello found ≡ Ok admitted → IsAdmitted definition admitted
by_number definition hello None at admitted is = cc
by_number definition hello (Some respondent) at admitted is =
    let code = passes (is_code (code_of definition respondent) hello.code) Code _ admitted is in
    let desk = passes (is_desk hello.desk) Desk _ admitted code.1 in
    let names : List (List ℕ) = map (λ (r : RespondentView). r.name) definition.respondents in
    let within = number_within hello.name names (position (bytes_eq hello.name) names) refl respondent at in
    let same : record { respondent = respondent; desk = hello.desk } ≡ admitted = cc in
    let one : IsDesk hello.desk = grind (arith, nat_tests, desk.0) in
    subst (λ (a : Admitted). IsAdmitted definition a) same (within.0, omega (arith, within.1, length-map definition.respondents (λ (r : RespondentView). r.name)), one)

-- an admitted respondent exists, and so does the desk
pub is_admitted : (definition : DefinitionView) (hello : HelloView) (admitted : Admitted) → admission_of definition hello ≡ Ok admitted → IsAdmitted definition admitted
is_admitted definition hello admitted is = by_number definition hello (number_of hello.name (map (λ r. r.name) definition.respondents)) refl admitted is
