use Rattle.std.proofs.Common.{◌≡◌, ◌-◌, List, length, slice_get, Some, refl, ap, sym, ◌∙◌, arith}
use Rattle.std.specs.Vec.{vec_capacity}
use Rattle.std.proofs.lemmas.Option.{slice_get_read}
use Rattle.survey_core.specs.declared.marks.Ending.TheVariants.{Open}
use Rattle.survey_core.specs.declared.marks.Question.{Question}
use Rattle.survey_core.specs.Marked.{Table, with_ending}
use Rattle.survey_core.proofs.TableLemmas.{ended_same, ended_table, some_open}
use Rattle.survey_core.proofs.marks.Marks.end.Goals as goal
use Rattle.survey_core.proofs.marks.Marks.end.Goals.{After-index_mut-question}

-- ---- the question's mark, as it was
module _ (c : After-index_mut-question) where
  same : c.self.inside.questions.items ≡ c.args.self.now.questions
  same = ap (λ (t : Table). t.questions) c.self.view_is

  marked : slice_get c.self.inside.questions.items (c.args.number - 1) ≡ Some c.index_mut-question.result.now
  marked =
      slice_get_read c.self.inside.questions.items (length c.self.inside.questions.items) (c.args.number - 1) c.index_mut-question.result.now refl
      (omega (arith, ap (λ (l : List Question). length l) same)) c.index_mut-question.ensures.value

  open_before : c.index_mut-question.result.now.ending ≡ Open
  open_before = c.requires.before c.index_mut-question.result.now (ap (λ (l : List Question). slice_get l (c.args.number - 1)) (sym same) ∙ marked)

pub overflow_sub-self : goal.overflow_sub-self
overflow_sub-self c =
    let at = (goal.at.overflow_sub-self c).After-index_mut-question in
    some_open c.self.inside.classes.items c.self.inside.questions.items (vec_capacity c.self.inside.questions) c.self.inside.ranked c.self.inside.open_count c.self.inside.settled
    c.self.invariant (c.args.number - 1) c.index_mut-question.result.now (marked at) (open_before at)

pub invariant_of-self : goal.invariant_of-self
invariant_of-self c =
    let at = (goal.at.invariant_of-self c).After-index_mut-question in
    ended_table c.self.inside.classes.items c.self.inside.questions.items (vec_capacity c.self.inside.questions) c.self.inside.ranked c.self.inside.open_count c.self.inside.settled
    c.self.invariant (c.args.number - 1) c.index_mut-question.result.now c.args.ending (marked at) (open_before at) c.requires.after

pub returns-clause-questions : goal.returns-clause-questions
returns-clause-questions c =
    let at = (goal.at.returns-clause-questions c).After-index_mut-question in
    ended_same c.self.inside.questions.items (c.args.number - 1) c.args.ending c.index_mut-question.result.now (marked at)
    ∙ ap (λ (l : List Question). with_ending l (c.args.number - 1) c.args.ending) (same at)
