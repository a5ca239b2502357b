use Rattle.std.proofs.Common.{◌≡◌, ◌∙◌, ap, ap₂, codes, true}
use Rattle.clap.specs.Words.{Shape, app_of, new_app, with_rule}
use Rattle.clap.specs.Simple.{app_of_fields, on_top}
use Rattle.survey_words.proofs.items.command.Goals as goal

pub returns : goal.returns
returns c =
    let helpless = λ (shape : Shape). record shape { disable_help_flag = true } in
    let start : app_of c.disable_help_flag.result ≡ on_top helpless (new_app (codes "options")) =
    ap app_of_fields c.disable_help_flag.ensures ∙ ap (on_top helpless) c.new.ensures.app in
    let plain = c.in_ok-arg.ensures.shape c.new-2.ensures.optional.1 ∙ ap₂ with_rule start c.new-2.ensures.rule in
    let first = c.in_ok-arg-2.ensures.shape c.option.ensures.local ∙ ap₂ with_rule plain c.option.ensures.rule in
    let second = c.in_ok-arg-3.ensures.shape c.option-2.ensures.local ∙ ap₂ with_rule first c.option-2.ensures.rule in
    let third = c.in_ok-arg-4.ensures.shape c.option-3.ensures.local ∙ ap₂ with_rule second c.option-3.ensures.rule in
    c.in_ok-command.ensures.shape c.option-4.ensures.local ∙ ap₂ with_rule third c.option-4.ensures.rule
