use Rattle.std.proofs.Common.{◌≡◌, map, drop, string_bytes}
use Rattle.std.specs.List.{list_all}
use Rattle.survey_words.specs.Items.{is_spelled}
use Rattle.survey_words.proofs.items.are_spelled.Given as goal

abbrev pub invariant-loop-word : goal.invariant-loop-word
invariant-loop-word l =
    list_all is_spelled (map (λ word. string_bytes word) l.words) ≡ list_all is_spelled (map (λ word. string_bytes word) (drop l.word-index l.words))
