use Rattle.std.proofs.Common.{◌≡◌, ℕ, List, length, length-take, ap, sym, ◌∙◌, subst, arith}
use Rattle.criteria_model.specs.declared.pairs.Answer.{Answer}
use Rattle.criteria_model.specs.Answers.{MeetsAll}
use Rattle.answer_rows.specs.Room.{room_of}
use Rattle.survey_core.specs.declared.events.Event.{Event}
use Rattle.survey_core.specs.Histories.{committed}
use Rattle.survey_core.proofs.ListSteps.{take_whole}
use Rattle.survey_state.specs.States.{Surveyed, version_of}
use Rattle.survey_state.proofs.state.State.snapshot_into.Goals as goal

pub returns-then-missing-eq0-clause-whole : goal.returns-then-missing-eq0-clause-whole
returns-then-missing-eq0-clause-whole c zero =
    let all : List Answer = c.answers-answers.result.now.answers in
    let room : ℕ = room_of c.cut.new.self in
    let copied : c.copy_from-missing.new.self.answers ≡ all =
    c.copy_from-missing.ensures.answers
    ∙ take_whole room all
    (omega (arith, zero, c.copy_from-missing.ensures.missing, ap (λ (l : List Answer). length l) c.copy_from-missing.ensures.answers, length-take room all)) in
    let answers : c.copy_from-missing.new.self.answers ≡ committed c.args.self.now.listed.classes c.args.self.now.journal =
    copied ∙ c.answers-answers.ensures.value ∙ ap (λ (h : List Event). committed c.self.inside.core.listed.classes h) c.self.invariant.history
    ∙ ap (λ (s : Surveyed). committed s.listed.classes s.journal) c.self.view_is in
    record {
      has = record {
        answers = answers;
        meets =
            subst (λ (l : List Answer). MeetsAll c.args.self.now.listed.criteria.levels l c.point-snapshot.result) (sym answers)
            c.point-snapshot.ensures.meets;
        version = c.self.invariant.changes ∙ ap (λ (s : Surveyed). version_of s.journal) c.self.view_is;
      };
      point = c.point-snapshot.ensures.value;
    }
