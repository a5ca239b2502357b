use Rattle.std.proofs.Common.{ℕ, ◌+◌, ◌-◌, refl, ap, sym, ◌∙◌, slice_get, List, length, arith}
use Rattle.std.proofs.lemmas.List.{length-map}
use Rattle.survey_core.specs.declared.marks.Ranking.TheVariants.{Eliminated}
use Rattle.survey_core.specs.declared.marks.Ending.TheVariants.{Closed, Committed}
use Rattle.survey_core.specs.declared.marks.Question.{Question}
use Rattle.survey_core.specs.Marked.{with_ranking, with_ending}
use Rattle.survey_core.proofs.LawLemmas.{last_point_meets_lem}
use Rattle.survey_core.proofs.NextKept.{room_next, unranked_mark, unissued_mark, asked_within, open_mark, kept_eliminate, kept_issue, kept_close, kept_withdraw, asked_class, asked_within_marks, asked_unranked, commit_room, kept_commit_at, may_in, is_in, pushed_in, kept_as}
use Rattle.survey_core.proofs.survey.Core.apply.Goals as goal

pub push_reserved-requires : goal.push_reserved-requires
push_reserved-requires c =
    omega (
      arith,
      room_next _ _ _ _ _ _ c.self.invariant c.args.event.now (may_in {event = c.args.event.now} c.self.view_is refl c.requires.allowed),
      length-map c.self.inside.events.items (λ event. event.value),
      c.self.invariant.room_for_events,
    )

-- ---- Eliminate
pub rank-requires-clause-before : goal.rank-requires-clause-before
rank-requires-clause-before c mark at =
    unranked_mark _ _ _ _ _ _ c.self.invariant c.in-Eliminate.place mark (may_in c.self.view_is c.in-Eliminate.is c.requires.allowed).class (may_in c.self.view_is c.in-Eliminate.is c.requires.allowed).unranked at

pub invariant_of-self : goal.invariant_of-self
invariant_of-self c =
    kept_as
    (kept_eliminate _ _ _ _ _ _ c.self.invariant c.in-Eliminate.worker c.in-Eliminate.place c.in-Eliminate.verdict c.in-Eliminate.combination
    (is_in c.self.view_is c.in-Eliminate.is c.requires.event) (may_in c.self.view_is c.in-Eliminate.is c.requires.allowed))
    (pushed_in _ _ _ c.push_reserved.ensures.items c.of.ensures c.in-Eliminate.is)
    (c.rank.ensures.classes
    ∙ ap (λ (level : ℕ). with_ranking c.self.inside.marks.classes (c.in-Eliminate.place - 1) (Eliminated level)) c.last_cited-rests_on.ensures)
    c.rank.ensures.questions c.push_reserved.ensures.capacity

pub returns-in-Eliminate-clause-legal : goal.returns-in-Eliminate-clause-legal
returns-in-Eliminate-clause-legal c = (invariant_of-self c).legal

pub returns-in-Eliminate-clause-met : goal.returns-in-Eliminate-clause-met
returns-in-Eliminate-clause-met c = last_point_meets_lem _ _ (invariant_of-self c).model (invariant_of-self c).legal

-- ---- Issue
pub issue-requires-clause-before : goal.issue-requires-clause-before
issue-requires-clause-before c mark at =
    unissued_mark _ _ _ _ _ _ c.self.invariant c.in-Issue.place mark (may_in c.self.view_is c.in-Issue.is c.requires.allowed).class (may_in c.self.view_is c.in-Issue.is c.requires.allowed).unasked at

pub invariant_of-self-in-Issue : goal.invariant_of-self-in-Issue
invariant_of-self-in-Issue c =
    kept_as
    (kept_issue _ _ _ _ _ _ c.self.invariant c.in-Issue.desk c.in-Issue.place c.in-Issue.plus c.in-Issue.minus
    (is_in c.self.view_is c.in-Issue.is c.requires.event) (may_in c.self.view_is c.in-Issue.is c.requires.allowed))
    (pushed_in _ _ _ c.push_reserved.ensures.items c.of.ensures c.in-Issue.is)
    c.issue.ensures.classes c.issue.ensures.questions c.push_reserved.ensures.capacity

pub returns-in-Issue-clause-legal : goal.returns-in-Issue-clause-legal
returns-in-Issue-clause-legal c = (invariant_of-self-in-Issue c).legal

pub returns-in-Issue-clause-met : goal.returns-in-Issue-clause-met
returns-in-Issue-clause-met c = last_point_meets_lem _ _ (invariant_of-self-in-Issue c).model (invariant_of-self-in-Issue c).legal

-- ---- Commit
pub asked_place-place-requires-clause-low : goal.asked_place-place-requires-clause-low
asked_place-place-requires-clause-low c =
    (asked_within _ _ _ _ _ _ c.self.invariant c.in-Commit.question (may_in c.self.view_is c.in-Commit.is c.requires.allowed).open_question).0

pub asked_place-place-requires-clause-high : goal.asked_place-place-requires-clause-high
asked_place-place-requires-clause-high c =
    (asked_within _ _ _ _ _ _ c.self.invariant c.in-Commit.question (may_in c.self.view_is c.in-Commit.is c.requires.allowed).open_question).1

pub class-pair-requires-clause-low : goal.class-pair-requires-clause-low
class-pair-requires-clause-low c = (asked_class _ _ _ _ _ _ c.self.invariant c.in-Commit.question c.asked_place-place.result c.asked_place-place.ensures).0

pub class-pair-requires-clause-high : goal.class-pair-requires-clause-high
class-pair-requires-clause-high c = (asked_class _ _ _ _ _ _ c.self.invariant c.in-Commit.question c.asked_place-place.result c.asked_place-place.ensures).1

pub push-requires : goal.push-requires
push-requires c =
    commit_room _ _ _ _ _ _ c.self.invariant c.in-Commit.question c.in-Commit.side c.in-Commit.plus c.in-Commit.minus c.in-Commit.point c.asked_place-place.result
    (may_in c.self.view_is c.in-Commit.is c.requires.allowed) c.asked_place-place.ensures

pub rank-requires-in-Commit-clause-low : goal.rank-requires-in-Commit-clause-low
rank-requires-in-Commit-clause-low c = (asked_class _ _ _ _ _ _ c.self.invariant c.in-Commit.question c.asked_place-place.result c.asked_place-place.ensures).0

pub rank-requires-in-Commit-clause-high : goal.rank-requires-in-Commit-clause-high
rank-requires-in-Commit-clause-high c = asked_within_marks _ _ _ _ _ _ c.self.invariant c.in-Commit.question c.asked_place-place.result c.asked_place-place.ensures

pub rank-requires-in-Commit-clause-before : goal.rank-requires-in-Commit-clause-before
rank-requires-in-Commit-clause-before c mark at =
    asked_unranked _ _ _ _ _ _ c.self.invariant c.in-Commit.question c.in-Commit.side c.in-Commit.plus c.in-Commit.minus c.in-Commit.point c.asked_place-place.result mark
    (may_in c.self.view_is c.in-Commit.is c.requires.allowed) c.asked_place-place.ensures at

pub end-requires-clause-low : goal.end-requires-clause-low
end-requires-clause-low c =
    (asked_within _ _ _ _ _ _ c.self.invariant c.in-Commit.question (may_in c.self.view_is c.in-Commit.is c.requires.allowed).open_question).0

pub end-requires-clause-high : goal.end-requires-clause-high
end-requires-clause-high c =
    omega (arith, (asked_within _ _ _ _ _ _ c.self.invariant c.in-Commit.question (may_in c.self.view_is c.in-Commit.is c.requires.allowed).open_question).1, ap (λ (l : List Question). length l) c.rank-in-Commit.ensures.questions)

pub end-requires-clause-before : goal.end-requires-clause-before
end-requires-clause-before c question at =
    open_mark _ _ _ _ _ _ c.self.invariant c.in-Commit.question question (may_in c.self.view_is c.in-Commit.is c.requires.allowed).open_question
    (ap (λ (l : List Question). slice_get l (c.in-Commit.question - 1)) (sym c.rank-in-Commit.ensures.questions) ∙ at)

pub invariant_of-self-in-Commit : goal.invariant_of-self-in-Commit
invariant_of-self-in-Commit c =
    kept_as
    (kept_commit_at _ _ _ _ _ _ c.self.invariant c.in-Commit.desk c.in-Commit.question c.in-Commit.side c.in-Commit.plus c.in-Commit.minus c.in-Commit.point
    c.asked_place-place.result c.len-answer.result c.class-pair.result c.push.new.self (is_in c.self.view_is c.in-Commit.is c.requires.event)
    (may_in c.self.view_is c.in-Commit.is c.requires.allowed) c.asked_place-place.ensures c.len-answer.ensures.value c.class-pair.ensures.value
    c.push.ensures.answers c.push.ensures.room)
    (pushed_in _ _ _ c.push_reserved.ensures.items c.of.ensures c.in-Commit.is)
    (c.end.ensures.classes ∙ c.rank-in-Commit.ensures.classes)
    (c.end.ensures.questions
    ∙ ap (λ (l : List Question). with_ending l (c.in-Commit.question - 1) (Committed (c.len-answer.result + 1))) c.rank-in-Commit.ensures.questions)
    c.push_reserved.ensures.capacity

pub returns-in-Commit-clause-legal : goal.returns-in-Commit-clause-legal
returns-in-Commit-clause-legal c = (invariant_of-self-in-Commit c).legal

pub returns-in-Commit-clause-met : goal.returns-in-Commit-clause-met
returns-in-Commit-clause-met c = last_point_meets_lem _ _ (invariant_of-self-in-Commit c).model (invariant_of-self-in-Commit c).legal

-- ---- Close
pub end-requires-in-Close-clause-low : goal.end-requires-in-Close-clause-low
end-requires-in-Close-clause-low c =
    (asked_within _ _ _ _ _ _ c.self.invariant c.in-Close.question (may_in c.self.view_is c.in-Close.is c.requires.allowed).open_question).0

pub end-requires-in-Close-clause-high : goal.end-requires-in-Close-clause-high
end-requires-in-Close-clause-high c =
    (asked_within _ _ _ _ _ _ c.self.invariant c.in-Close.question (may_in c.self.view_is c.in-Close.is c.requires.allowed).open_question).1

pub end-requires-in-Close-clause-before : goal.end-requires-in-Close-clause-before
end-requires-in-Close-clause-before c question at =
    open_mark _ _ _ _ _ _ c.self.invariant c.in-Close.question question (may_in c.self.view_is c.in-Close.is c.requires.allowed).open_question at

pub invariant_of-self-in-Close : goal.invariant_of-self-in-Close
invariant_of-self-in-Close c =
    kept_as
    (kept_close _ _ _ _ _ _ c.self.invariant c.in-Close.desk c.in-Close.question (is_in c.self.view_is c.in-Close.is c.requires.event)
    (may_in c.self.view_is c.in-Close.is c.requires.allowed))
    (pushed_in _ _ _ c.push_reserved.ensures.items c.of.ensures c.in-Close.is)
    c.end-in-Close.ensures.classes
    (c.end-in-Close.ensures.questions
    ∙ ap (λ (level : ℕ). with_ending c.self.inside.marks.questions (c.in-Close.question - 1) (Closed level)) c.len-rests_on.ensures.value)
    c.push_reserved.ensures.capacity

pub returns-in-Close-clause-legal : goal.returns-in-Close-clause-legal
returns-in-Close-clause-legal c = (invariant_of-self-in-Close c).legal

pub returns-in-Close-clause-met : goal.returns-in-Close-clause-met
returns-in-Close-clause-met c = last_point_meets_lem _ _ (invariant_of-self-in-Close c).model (invariant_of-self-in-Close c).legal

-- ---- Withdraw
pub invariant_of-self-in-Withdraw : goal.invariant_of-self-in-Withdraw
invariant_of-self-in-Withdraw c =
    kept_as
    (kept_withdraw _ _ _ _ _ _ c.self.invariant c.in-Withdraw.desk c.in-Withdraw.answer c.cut.new.self (is_in c.self.view_is c.in-Withdraw.is c.requires.event)
    (may_in c.self.view_is c.in-Withdraw.is c.requires.allowed) c.cut.ensures.answers c.cut.ensures.room)
    (pushed_in _ _ _ c.push_reserved.ensures.items c.of.ensures c.in-Withdraw.is)
    c.withdraw.ensures.classes c.withdraw.ensures.questions c.push_reserved.ensures.capacity

pub returns-in-Withdraw-clause-legal : goal.returns-in-Withdraw-clause-legal
returns-in-Withdraw-clause-legal c = (invariant_of-self-in-Withdraw c).legal

pub returns-in-Withdraw-clause-met : goal.returns-in-Withdraw-clause-met
returns-in-Withdraw-clause-met c = last_point_meets_lem _ _ (invariant_of-self-in-Withdraw c).model (invariant_of-self-in-Withdraw c).legal
