use Rattle.std.proofs.Common.{◌≡◌, ◌∙◌, List, map, drop, ap, sym, true, Some, string_bytes, String, Global}
use Rattle.std.specs.List.{list_all}
use Rattle.survey_words.specs.Items.{OptionTexts, is_spelled}
use Rattle.survey_words.proofs.ListLemmas.{to_end}
use Rattle.survey_words.proofs.FoundLemmas.{options_found, options_missing}
use Rattle.survey_words.proofs.items.read_options.Goals as goal

pub returns-in-Some : goal.returns-in-Some
returns-in-Some c =
    let parsed = rw c.in-Some.is at c.in_ok-matches.ensures in
    let spelled : list_all is_spelled (map (λ (word : String Global). string_bytes word) (drop 1 c.args.words.now)) ≡ true =
    ap (λ (words : List (String Global)). list_all is_spelled (map (λ (word : String Global). string_bytes word) words)) (sym (to_end c.args.words.now 1)) ∙ sym c.if-not-are_spelled.ensures in
    ap (λ (o : OptionTexts). Some o) c.options_in.ensures
    ∙ options_found (λ (word : String Global). string_bytes word) c.args.words.now _ c.requires spelled parsed.0 parsed.1

pub returns-in-None : goal.returns-in-None
returns-in-None c =
    let failed = rw c.in-None.is at c.in_ok-matches.ensures in
    let spelled : list_all is_spelled (map (λ (word : String Global). string_bytes word) (drop 1 c.args.words.now)) ≡ true =
    ap (λ (words : List (String Global)). list_all is_spelled (map (λ (word : String Global). string_bytes word) words)) (sym (to_end c.args.words.now 1)) ∙ sym c.if-not-are_spelled.ensures in
    options_missing (λ (word : String Global). string_bytes word) c.args.words.now c.requires spelled failed
