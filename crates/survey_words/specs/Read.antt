-- What contracts see of options that were read.
use Rattle.std.specs.Prelude.{ℕ, List, Option, option_map}
use Rattle.std.specs.Borrow.{Bor}
use Rattle.survey_words.specs.declared.items.Options.{Options}
use Rattle.survey_words.specs.Items.{OptionTexts}

-- the text that was lent
abbrev pub text_lent : Option (Bor (List ℕ)) → Option (List ℕ)
text_lent = option_map (λ text. text.now)

-- the texts of the options
abbrev pub option_texts : Options → OptionTexts
option_texts options = record {
  port = text_lent options.port;
  eliminators = text_lent options.eliminators;
  connections = text_lent options.connections;
  sample = text_lent options.sample;
  shape = text_lent options.shape;
}
