use Rattle.std.proofs.Common.{◌≡◌, ◌≤◌, ◌++◌, ◌∷◌, [], List, length, ap, sym, subst, ◌∙◌}
use Rattle.pair_enumeration.specs.Listed.{Listed}
use Rattle.survey_core.specs.declared.events.Event.{Event}
use Rattle.survey_core.specs.declared.events.Event.TheVariants.{Withdraw}
use Rattle.survey_core.specs.Histories.{committed, withdrawals}
use Rattle.survey_core.specs.Legal.{IsSpent, MayFollow}
use Rattle.survey_core.proofs.PartLemmas.{allowed_lacks_none_lem}
use Rattle.survey_state.proofs.AnsweredLemmas.{none_answered, some_answered}
use Rattle.survey_state.proofs.ReplyLemmas.{nothing, spent, withdrawn, may_withdraw, same_answers_len, same_spent, is_false_of}
use Rattle.survey_state.proofs.withdrawal.withdraw.Goals as goal

pub returns-in_default-clause-replied : goal.returns-in_default-clause-replied
returns-in_default-clause-replied c =
    nothing c.args.state.now.listed c.args.state.now.journal c.length-at.ensures.legal c.args.desk c.length-at.result c.length-at.ensures.value
    (none_answered c.args.state.now.listed c.args.state.now.journal c.length-at.ensures.legal (sym c.last_question.ensures ∙ c.in_default.is))

pub returns-then-is_spent-clause-replied : goal.returns-then-is_spent-clause-replied
returns-then-is_spent-clause-replied c =
    spent c.args.state.now.listed c.args.state.now.journal c.length-at.ensures.legal c.args.desk c.length-at.result c.length-at.ensures.value
    (some_answered c.args.state.now.listed c.args.state.now.journal c.in-Some.question c.length-at.ensures.legal (sym c.last_question.ensures ∙ c.in-Some.is))
    ((same_spent c.args.state.now.listed c.core-core.result.now.listed c.args.state.now.journal c.core-core.result.now.history c.core-core.ensures.listed
    c.core-core.ensures.history c.model.result c.class_count.result c.withdrawals.result c.length-at.ensures.listed c.model.ensures.value c.class_count.ensures.value
    c.withdrawals.ensures).0 (c.spent-is_spent.ensures.0 c.if-is_spent.true))

pub unreachable-requires : goal.unreachable-requires
unreachable-requires c =
    let listed : Listed = c.args.state.now.listed in
    let journal : List Event = c.args.state.now.journal in
    let some : 1 ≤ length (committed listed.classes journal) =
    some_answered listed journal c.in-Some.question c.length-at.ensures.legal (sym c.last_question.ensures ∙ c.in-Some.is) in
    let count : c.len-answer.result ≡ length (committed listed.classes journal) =
    same_answers_len listed c.core-core.result.now.listed journal c.core-core.result.now.history c.core-core.ensures.listed c.core-core.ensures.history
    c.answers.result.now.answers c.len-answer.result c.answers.ensures.value c.len-answer.ensures.value in
    let unspent : ¬ IsSpent (length listed.classes) (withdrawals journal) =
    λ is. is_false_of c.spent-is_spent.result c.if-is_spent.false
    (c.spent-is_spent.ensures.1 ((same_spent listed c.core-core.result.now.listed journal c.core-core.result.now.history c.core-core.ensures.listed
    c.core-core.ensures.history c.model.result c.class_count.result c.withdrawals.result c.length-at.ensures.listed c.model.ensures.value c.class_count.ensures.value
    c.withdrawals.ensures).1 is)) in
    let event : Event = Withdraw c.args.desk c.len-answer.result in
    let may : MayFollow listed journal event = may_withdraw listed journal c.args.desk c.len-answer.result some unspent count in
    let may_now : MayFollow c.make_room.new.self.listed c.make_room.new.self.journal event =
    subst (λ (l : Listed). MayFollow l c.make_room.new.self.journal event) (sym c.make_room.ensures.listed)
    (subst (λ (j : List Event). MayFollow listed j event) (sym c.make_room.ensures.journal) may) in
    allowed_lacks_none_lem c.make_room.new.self.listed c.make_room.new.self.journal event c.in-Stale.field-0 may_now c.in-Stale.ensures.0

pub returns-clause-replied : goal.returns-clause-replied
returns-clause-replied c =
    let listed : Listed = c.args.state.now.listed in
    let journal : List Event = c.args.state.now.journal in
    withdrawn listed journal c.length-at.ensures.legal c.args.desk c.length-at.result c.length-at.ensures.value c.offer.new.self.journal c.len-answer.result c.in-Some.question
    (some_answered listed journal c.in-Some.question c.length-at.ensures.legal (sym c.last_question.ensures ∙ c.in-Some.is))
    (λ is. is_false_of c.spent-is_spent.result c.if-is_spent.false
    (c.spent-is_spent.ensures.1 ((same_spent listed c.core-core.result.now.listed journal c.core-core.result.now.history c.core-core.ensures.listed
    c.core-core.ensures.history c.model.result c.class_count.result c.withdrawals.result c.length-at.ensures.listed c.model.ensures.value c.class_count.ensures.value
    c.withdrawals.ensures).1 is)))
    (same_answers_len listed c.core-core.result.now.listed journal c.core-core.result.now.history c.core-core.ensures.listed c.core-core.ensures.history
    c.answers.result.now.answers c.len-answer.result c.answers.ensures.value c.len-answer.ensures.value)
    (sym c.last_question.ensures ∙ c.in-Some.is)
    (c.in-Done.ensures.journal ∙ ap (λ (j : List Event). j ++ Withdraw c.args.desk c.len-answer.result ∷ []) c.make_room.ensures.journal)
