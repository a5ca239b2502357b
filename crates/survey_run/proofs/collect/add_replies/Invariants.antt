use Rattle.std.proofs.Common.{◌≡◌, ◌++◌, take}
use Rattle.std.specs.Prelude.{vec_capacity}
use Rattle.survey_run.proofs.collect.add_replies.Given as goal

abbrev pub invariant-loop-reply : goal.invariant-loop-reply
invariant-loop-reply l = record {
  items : l.replies.items ≡ l.fn.replies.items ++ take l.reply-index l.more;
  same : vec_capacity l.replies ≡ vec_capacity l.fn.replies;
}
