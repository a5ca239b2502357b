use Rattle.std.proofs.Common.{rules, List, subst, ℕ}
use Rattle.std.specs.Prelude.{Option}
use Rattle.edges.specs.Told.{IsAtEnd}
use Rattle.survey_server.proofs.LineLemmas.{source_ended}
use Rattle.survey_server.proofs.rank_input.rank_under.Goals as goal

pub returns-in-Ok-clause-ended : goal.returns-in-Ok-clause-ended
returns-in-Ok-clause-ended g c =
    subst (λ (left : Option (List ℕ)). IsAtEnd left) (search rules)
    (source_ended c.rank.new.source.lines.now (g.S.Source.left c.rank.new.source.source.now) c.in-Ok.ensures.ended)
