use Rattle.std.proofs.Common.{◌∙◌, ◌+◌, ◌&&◌, Bool, ap, sym, map, drop, string_bytes, String, Global, arith}
use Rattle.std.specs.List.{list_all}
use Rattle.survey_words.specs.Items.{is_spelled}
use Rattle.survey_words.proofs.ListLemmas.{text_ahead}
use Rattle.survey_words.proofs.items.are_spelled.Goals as goal

pub returns-then-not-is_spelled : goal.returns-then-not-is_spelled
returns-then-not-is_spelled c =
    let ahead = text_ahead (λ (word : String Global). string_bytes word) c.args.words.now c.loop-word.word-index c.word-item.result c.as_str.result.now (omega arith) c.word-item.is c.as_str.ensures.value in
    let rest = list_all is_spelled (map (λ (word : String Global). string_bytes word) (drop (c.loop-word.word-index + 1) c.args.words.now)) in
    sym (c.loop-word.invariant ∙ ap (list_all is_spelled) ahead ∙ ap (λ (b : Bool). b && rest) (sym c.if-not-is_spelled.ensures))

pub loop-word-preserved : goal.loop-word-preserved
loop-word-preserved c =
    let ahead = text_ahead (λ (word : String Global). string_bytes word) c.args.words.now c.loop-word.word-index c.word-item.result c.as_str.result.now (omega arith) c.word-item.is c.as_str.ensures.value in
    let rest = list_all is_spelled (map (λ (word : String Global). string_bytes word) (drop (c.loop-word.word-index + 1) c.args.words.now)) in
    c.loop-word.invariant ∙ ap (list_all is_spelled) ahead ∙ ap (λ (b : Bool). b && rest) (sym c.if-not-is_spelled.ensures)
