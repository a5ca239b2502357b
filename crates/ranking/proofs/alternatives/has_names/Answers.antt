use Rattle.std.proofs.Common.{rules, arith, drop}
use Rattle.std.proofs.lemmas.List.{length-drop}
use Rattle.csv.specs.Records.{fields_of}
use Rattle.ranking.proofs.FieldLemmas.{same_items}
use Rattle.ranking.proofs.alternatives.has_names.Goals as goal

pub returns : goal.returns
returns g c =
    let names = ((goal.LevelNames-dyn g c.args.names.now).criteria c.args.names.now.1).names in
    let texts = drop 1 (fields_of c.args.row.now) in
    (λ yes. same_items texts names (omega (arith, length-drop 1 (fields_of c.args.row.now))) (λ k within. c.loop-place.invariant k (omega arith)), λ same. search rules)
