use Rattle.std.proofs.Common.{◌≡◌, ◌++◌, take, codes}
use Rattle.std.specs.Fmt.{decimal}
use Rattle.std.specs.List.{flat_map}
use Rattle.survey_server.proofs.sample_texts.add_counts.Given as goal

-- So far the counts after the first are added, each after an `x`.
abbrev pub invariant-loop-count : goal.invariant-loop-count
invariant-loop-count l = l.line.items ≡ l.initial.line.items ++ flat_map (λ n. codes "x" ++ decimal n) (take l.count-index l.others)
