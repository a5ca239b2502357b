-- What the parser of command lines is told of the options, and what it found.
use Rattle.std.specs.Prelude.{ℕ, List, codes, Some, true}
use Rattle.clap.specs.Words.{App, Rule, Row, first_of, new_app, new_rule, with_rule}
use Rattle.clap.specs.Simple.{on_top}
use Rattle.survey_words.specs.Items.{OptionTexts}

-- an option with a value
abbrev pub option_rule : List ℕ → Rule
option_rule name = record (new_rule name) { long = Some name }

-- the plain word and the options, without help
abbrev pub simple_command : App
simple_command = with_rule (with_rule (with_rule (with_rule (with_rule
    (on_top (λ shape. record shape { disable_help_flag = true }) (new_app (codes "options")))
    (new_rule (codes "port")))
    (option_rule (codes "eliminators"))) (option_rule (codes "connections"))) (option_rule (codes "sample"))) (option_rule (codes "shape"))

-- the options in these matches
abbrev pub texts_found : List Row → OptionTexts
texts_found rows = record {
  port = first_of (codes "port") rows;
  eliminators = first_of (codes "eliminators") rows;
  connections = first_of (codes "connections") rows;
  sample = first_of (codes "sample") rows;
  shape = first_of (codes "shape") rows;
}
