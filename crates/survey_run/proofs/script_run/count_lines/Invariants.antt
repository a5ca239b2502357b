use Rattle.std.proofs.Common.{◌≡◌, take}
use Rattle.survey_script.specs.ScriptViews.{line_count}
use Rattle.survey_run.proofs.script_run.count_lines.Given as goal

abbrev pub invariant-loop-session : goal.invariant-loop-session
invariant-loop-session l = l.count ≡ line_count (take l.session-index l.sessions)
