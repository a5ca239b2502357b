use Rattle.std.proofs.Common.{◌∙◌, codes}
use Rattle.clap.specs.Words.{found_of}
use Rattle.survey_words.proofs.EntryLemmas.{value_in_row}
use Rattle.survey_words.proofs.items.options_in.Goals as goal

pub returns : goal.returns
returns c =
    let entries = (found_of c.args.matches.now).entries.items in
    let port = c.get_str.ensures ∙ value_in_row entries (codes "port") in
    let eliminators = c.get_str-2.ensures ∙ value_in_row entries (codes "eliminators") in
    let connections = c.get_str-3.ensures ∙ value_in_row entries (codes "connections") in
    let sample = c.get_str-4.ensures ∙ value_in_row entries (codes "sample") in
    let shape = c.get_str-5.ensures ∙ value_in_row entries (codes "shape") in
    λ i. record { port = port i; eliminators = eliminators i; connections = connections i; sample = sample i; shape = shape i }
