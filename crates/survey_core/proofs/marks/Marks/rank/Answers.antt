use Rattle.std.proofs.Common.{◌≡◌, ◌-◌, List, length, slice_get, Some, refl, ap, sym, ◌∙◌, arith}
use Rattle.std.specs.Vec.{vec_capacity}
use Rattle.std.proofs.lemmas.Option.{slice_get_read}
use Rattle.survey_core.specs.declared.marks.Mark.{Mark}
use Rattle.survey_core.specs.declared.marks.Ranking.TheVariants.{Unranked}
use Rattle.survey_core.specs.Marked.{Table, with_ranking}
use Rattle.survey_core.proofs.TableLemmas.{ranked_same, ranked_table}
use Rattle.survey_core.proofs.marks.Marks.rank.Goals as goal
use Rattle.survey_core.proofs.marks.Marks.rank.Goals.{After-index_mut-mark}

-- ---- the class's mark, as it was
module _ (c : After-index_mut-mark) where
  same : c.self.inside.classes.items ≡ c.args.self.now.classes
  same = ap (λ (t : Table). t.classes) c.self.view_is

  marked : slice_get c.self.inside.classes.items (c.args.place - 1) ≡ Some c.index_mut-mark.result.now
  marked =
      slice_get_read c.self.inside.classes.items (length c.self.inside.classes.items) (c.args.place - 1) c.index_mut-mark.result.now refl
      (omega (arith, ap (λ (l : List Mark). length l) same)) c.index_mut-mark.ensures.value

  unranked : c.index_mut-mark.result.now.ranking ≡ Unranked
  unranked = c.requires.before c.index_mut-mark.result.now (ap (λ (l : List Mark). slice_get l (c.args.place - 1)) (sym same) ∙ marked)

pub invariant_of-self : goal.invariant_of-self
invariant_of-self c =
    let at = (goal.at.invariant_of-self c).After-index_mut-mark in
    ranked_table c.self.inside.classes.items c.self.inside.questions.items (vec_capacity c.self.inside.questions) c.self.inside.ranked c.self.inside.open_count c.self.inside.settled
    c.self.invariant (c.args.place - 1) c.settled_from.result c.index_mut-mark.result.now c.args.ranking (marked at) (unranked at) c.requires.after
    c.as_slice.result.now c.as_slice.ensures.value c.settled_from.ensures.front c.settled_from.ensures.next c.settled_from.ensures.within

pub returns-clause-classes : goal.returns-clause-classes
returns-clause-classes c =
    let at = (goal.at.returns-clause-classes c).After-index_mut-mark in
    ranked_same c.self.inside.classes.items (c.args.place - 1) c.args.ranking c.index_mut-mark.result.now (marked at)
    ∙ ap (λ (l : List Mark). with_ranking l (c.args.place - 1) c.args.ranking) (same at)
