use Rattle.std.proofs.Common.{◌∙◌, ◌++◌, ℕ, List, [], ◌∷◌, ap, refl}
use Rattle.shared_survey.specs.Passes.{pass_seen, survey_listed}
use Rattle.survey_replies.proofs.CallLemmas.{prefix_trans}
use Rattle.survey_run.specs.Tops.{HasTop}
use Rattle.survey_run.proofs.ChangeLemmas.{each_map}
use Rattle.survey_run.proofs.GatherLemmas.{WorkedFrom, gathers_none, worked_all, worked_top}
use Rattle.survey_run.proofs.SampleRunLemmas.{desk_is_alone}
use Rattle.survey_run.proofs.sample_run.close_sample.Goals as goal

pub join_workers-requires-clause-tops : goal.join_workers-requires-clause-tops
join_workers-requires-clause-tops c =
    let one = c.args.survey ∷ [] in
    each_map (WorkedFrom 0 one) (HasTop c.args.survey) 0 c.args.worked.items (λ n passes. worked_top 0 c.args.survey [] n passes) (worked_all one 0 c.args.worked.items c.requires.worked)

pub returns : goal.returns
returns c =
    let joined = c.join_workers.new.whole in
    let final = c.join.new.pass in
    let ran = c.join_workers.ensures.runs 0 [] [] [] (gathers_none (survey_listed c.args.survey) 0 [] (pass_seen c.args.whole) [] refl c.requires.whole.2) in
    let made = ran.2 in
    desk_is_alone (pass_seen c.args.pass) (pass_seen joined).journal c.close.result.journal ran.0 (pass_seen final).own
    (prefix_trans (pass_seen c.args.pass).journal (pass_seen final).journal c.close.result.journal c.join.ensures.journal.1 c.close.ensures.journal)
    (prefix_trans (pass_seen joined).journal (pass_seen final).journal c.close.result.journal c.join.ensures.journal.0 c.close.ensures.journal)
    made.made (c.join.ensures.own ∙ ap (λ (own : List ℕ). own ++ (pass_seen c.args.pass).own) made.own) c.close.ensures.own
