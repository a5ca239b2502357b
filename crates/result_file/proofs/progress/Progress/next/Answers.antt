use Rattle.std.proofs.lemmas.Result.{on_ok_weaker}
use Rattle.result_file.proofs.StageLaws.{adds}
use Rattle.result_file.proofs.progress.Progress.next.Goals as goal

pub returns-then-not-is_end-clause-next : goal.returns-then-not-is_end-clause-next
returns-then-not-is_end-clause-next c =
    on_ok_weaker c.add.result
    (λ added lines stage says h. adds c.in-Begun.body c.add.new.self c.args.line.now added lines stage says (rw c.in-Begun.is at h))
    c.add.ensures.added
