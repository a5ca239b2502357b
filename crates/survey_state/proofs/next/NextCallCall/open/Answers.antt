use Rattle.std.proofs.Common.{◌≡◌, ◌+◌, ℕ, List, Some, length, ap, subst, ◌∙◌, arith}
use Rattle.pair_enumeration.specs.Listed.{Listed}
use Rattle.survey_core.specs.declared.events.Event.{Event}
use Rattle.survey_core.specs.Histories.{class_at, issued, open_questions}
use Rattle.survey_core.specs.Legal.{AreEarlierAsked}
use Rattle.survey_state.specs.States.{IsFirstDue}
use Rattle.survey_state.proofs.ReplyLemmas.{full, waiting, question, due_sought, unranked_sought, one_issued, none_of_match, some_of_match}
use Rattle.survey_state.proofs.next.NextCallCall.open.Goals as goal

pub returns-then-open_questions-ge-MAX_OPEN_QUESTIONS-clause-replied : goal.returns-then-open_questions-ge-MAX_OPEN_QUESTIONS-clause-replied
returns-then-open_questions-ge-MAX_OPEN_QUESTIONS-clause-replied c =
    let count : c.open_questions.result ≡ length (open_questions c.args.state.now.journal) =
    c.open_questions.ensures ∙ ap (λ (h : List Event). length (open_questions h)) c.core.ensures.history in
    full c.args.state.now.listed c.args.state.now.journal c.length-at.ensures.legal c.args.self.now.desk c.length-at.result c.length-at.ensures.value
    c.args.place c.args.plus.now c.args.minus.now (omega (arith, count, c.if-open_questions-ge-MAX_OPEN_QUESTIONS.true)) c.requires.opens

pub returns-then-is_none-clause-replied : goal.returns-then-is_none-clause-replied
returns-then-is_none-clause-replied c =
    let count : c.open_questions.result ≡ length (open_questions c.args.state.now.journal) =
    c.open_questions.ensures ∙ ap (λ (h : List Event). length (open_questions h)) c.core.ensures.history in
    let earlier : AreEarlierAsked c.args.state.now.journal (length c.args.state.now.listed.classes + 1) =
    none_of_match (AreEarlierAsked c.args.state.now.journal (length c.args.state.now.listed.classes + 1))
    (IsFirstDue c.args.state.now.listed c.args.state.now.journal) c.first_due.result c.if-is_none.ensures c.first_due.ensures in
    waiting c.args.state.now.listed c.args.state.now.journal c.length-at.ensures.legal c.args.self.now.desk c.length-at.result c.length-at.ensures.value
    c.args.place c.args.plus.now c.args.minus.now (omega (arith, count, c.if-open_questions-ge-MAX_OPEN_QUESTIONS.false)) c.requires.opens earlier
    (unranked_sought c.args.state.now.listed c.args.state.now.journal c.args.place c.requires.sought earlier)

pub returns-clause-replied : goal.returns-clause-replied
returns-clause-replied c =
    let listed : Listed = c.args.state.now.listed in
    let journal : List Event = c.args.state.now.journal in
    let count : c.open_questions.result ≡ length (open_questions journal) =
    c.open_questions.ensures ∙ ap (λ (h : List Event). length (open_questions h)) c.core.ensures.history in
    let due : (other : ℕ) × IsFirstDue listed journal other =
    some_of_match (AreEarlierAsked journal (length listed.classes + 1)) (IsFirstDue listed journal) c.first_due.result c.if-is_none.ensures c.first_due.ensures in
    question listed journal c.length-at.ensures.legal c.args.self.now.desk c.length-at.result c.length-at.ensures.value
    c.record.new.state.journal c.asked-number.result c.args.place c.class-pair.result c.args.plus.now c.args.minus.now
    (omega (arith, count, c.if-open_questions-ge-MAX_OPEN_QUESTIONS.false)) c.requires.opens
    (due_sought listed journal c.args.place due.0 c.requires.sought due.1)
    (c.asked-number.ensures ∙ ap (λ (h : List Event). length (issued h)) (c.core-3.ensures.history ∙ c.record.ensures.journal)
    ∙ one_issued journal c.args.self.now.desk c.args.place c.args.plus.now c.args.minus.now)
    (subst (λ (l : Listed). class_at l.classes c.args.place ≡ Some c.class-pair.result) c.core-2.ensures.listed c.class-pair.ensures.value)
    c.record.ensures.journal
