use Rattle.std.proofs.Common.{◌≡◌, false, true, ◌-◌, List, length, slice_get, Some, refl, ap, sym, subst, ◌∙◌, arith}
use Rattle.std.specs.Vec.{vec_capacity}
use Rattle.std.proofs.lemmas.Option.{slice_get_read}
use Rattle.survey_core.specs.declared.marks.Mark.{Mark}
use Rattle.survey_core.specs.Marked.{Table, AreSettled, with_issued}
use Rattle.survey_core.proofs.TableLemmas.{issued_same, issued_table, front_kept, issued_settled, count_less}
use Rattle.survey_core.proofs.marks.Marks.issue.Goals as goal
use Rattle.survey_core.proofs.marks.Marks.issue.Goals.{After-index_mut-mark}

-- ---- the class's mark, as it was
module _ (c : After-index_mut-mark) where
  same : c.self.inside.classes.items ≡ c.args.self.now.classes
  same = ap (λ (t : Table). t.classes) c.self.view_is

  marked : slice_get c.self.inside.classes.items (c.args.place - 1) ≡ Some c.index_mut-mark.result.now
  marked =
      slice_get_read c.self.inside.classes.items (length c.self.inside.classes.items) (c.args.place - 1) c.index_mut-mark.result.now refl
      (omega (arith, ap (λ (l : List Mark). length l) same)) c.index_mut-mark.ensures.value

  unissued : c.index_mut-mark.result.now.issued ≡ false
  unissued = c.requires.before c.index_mut-mark.result.now (ap (λ (l : List Mark). slice_get l (c.args.place - 1)) (sym same) ∙ marked)

pub push_reserved-requires : goal.push_reserved-requires
push_reserved-requires c =
    let at = (goal.at.push_reserved-requires c).After-index_mut-mark in
    omega (
      arith,
      count_less (λ m. m.issued) c.self.inside.classes.items (c.args.place - 1) c.index_mut-mark.result.now (marked at) (unissued at),
      c.self.invariant.asked_count,
      c.self.invariant.room_for_all,
    )

pub settled_from-requires-clause-front : goal.settled_from-requires-clause-front
settled_from-requires-clause-front c =
    let at = (goal.at.settled_from-requires-clause-front c).After-index_mut-mark in
    let mark : Mark = c.index_mut-mark.result.now in
    subst (λ (l : List Mark). AreSettled l c.self.inside.settled) (sym c.as_slice.ensures.value)
    (front_kept c.self.inside.classes.items (c.args.place - 1) c.self.inside.settled mark (record { ranking = mark.ranking; issued = true }) c.self.invariant.front (marked at)
    (issued_settled mark.ranking))

pub invariant_of-self : goal.invariant_of-self
invariant_of-self c =
    let at = (goal.at.invariant_of-self c).After-index_mut-mark in
    rw (c.push_reserved.ensures.items, c.push_reserved.ensures.capacity)
    (issued_table c.self.inside.classes.items c.self.inside.questions.items (vec_capacity c.self.inside.questions) c.self.inside.ranked c.self.inside.open_count c.self.inside.settled
    c.self.invariant (c.args.place - 1) c.settled_from.result c.args.place c.index_mut-mark.result.now (marked at) (unissued at)
    c.as_slice.result.now c.as_slice.ensures.value c.settled_from.ensures.front c.settled_from.ensures.next c.settled_from.ensures.within)

pub returns-clause-classes : goal.returns-clause-classes
returns-clause-classes c =
    let at = (goal.at.returns-clause-classes c).After-index_mut-mark in
    issued_same c.self.inside.classes.items (c.args.place - 1) c.index_mut-mark.result.now (marked at) ∙ ap (λ (l : List Mark). with_issued l (c.args.place - 1)) (same at)
