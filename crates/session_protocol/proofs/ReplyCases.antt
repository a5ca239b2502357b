-- Which reply comes of which message.
use Rattle.std.proofs.Common.{◌≡◌, ◌≢◌, ◌⊎◌, ℕ, ◌≤◌, List, length, Option, Some, None, refl, sym, ◌∙◌, inl, inr, arith}
use Rattle.pair_enumeration.specs.Listed.{Listed}
use Rattle.survey_replies.specs.declared.replies.ValuesReply.TheVariants.{Values, Incomplete}
use Rattle.survey_replies.specs.Requests as request
use Rattle.survey_replies.specs.Outcomes.{Outcome, at_of}
use Rattle.survey_replies.specs.Outcomes as outcome
use Rattle.survey_replies.specs.Interview.{Interview, interview}
use Rattle.survey_replies.specs.ReplyLaw.{IsReplyTo}
use Rattle.survey_replies.specs.Certificates.{Carries}
use Rattle.survey_replies.specs.Calls.{Seen, IsCall, read_by}
use Rattle.json_forms.specs.declared.messages.Message.{Message}
use Rattle.json_forms.specs.declared.messages.Message.TheVariants as message
use Rattle.json_forms.specs.declared.replies.Reply.{Reply}
use Rattle.json_forms.specs.declared.replies.Reply.TheVariants as reply
use Rattle.json_forms.specs.Replies.{IsWritable}
use Rattle.session_protocol.specs.Exchanges.{asked_by, reply_by, IsAnswered}

-- a result is that of as many events as there were
pub result_at : (said : Option Message) (came : Outcome) (count : ℕ) → reply_by said came ≡ reply.Result count → count ≡ at_of came
result_at said (outcome.next came) count same = (cc)
result_at said (outcome.answer came) count same = (cc)
result_at said (outcome.values came) count same = (cc)
result_at said (outcome.withdraw came) count same = (cc)
result_at None (outcome.look at) count same = (cc)
result_at (Some (message.Hello hello)) (outcome.look at) count same = (cc)
result_at (Some message.Next) (outcome.look at) count same = (cc)
result_at (Some (message.Answer question side)) (outcome.look at) count same = (cc)
result_at (Some message.Values) (outcome.look at) count same = (cc)
result_at (Some message.Withdraw) (outcome.look at) count same = (cc)
result_at (Some message.Result) (outcome.look at) count same = (cc)
result_at (Some message.Bye) (outcome.look at) count same = (cc)

-- so of no more than were seen
pub result_within : (listed : Listed) (desk : ℕ) (before after : Seen) (said : Option Message) (came : Outcome) (count : ℕ)
    → IsCall listed desk before after (asked_by said) came → reply_by said came ≡ reply.Result count → count ≤ length after.journal
result_within listed desk before after said came count call same = omega (arith, result_at said came count same, call.ends)

-- only a bye is replied to by a bye
pub bye_said : (said : Option Message) (came : Outcome) → reply_by said came ≡ reply.Bye → said ≡ Some message.Bye
bye_said said (outcome.next came) same = (cc)
bye_said said (outcome.answer came) same = (cc)
bye_said said (outcome.values came) same = (cc)
bye_said said (outcome.withdraw came) same = (cc)
bye_said None (outcome.look at) same = (cc)
bye_said (Some (message.Hello hello)) (outcome.look at) same = (cc)
bye_said (Some message.Next) (outcome.look at) same = (cc)
bye_said (Some (message.Answer question side)) (outcome.look at) same = (cc)
bye_said (Some message.Values) (outcome.look at) same = (cc)
bye_said (Some message.Withdraw) (outcome.look at) same = (cc)
bye_said (Some message.Result) (outcome.look at) same = (cc)
bye_said (Some message.Bye) (outcome.look at) same = refl

looked_bye : (listed : Listed) (now : Interview) (came : Outcome) → IsReplyTo listed now request.look came
    → reply_by (Some message.Bye) came ≡ reply.Bye
looked_bye listed now (outcome.next came) by_law = absurd by_law
looked_bye listed now (outcome.answer came) by_law = absurd by_law
looked_bye listed now (outcome.values came) by_law = absurd by_law
looked_bye listed now (outcome.withdraw came) by_law = absurd by_law
looked_bye listed now (outcome.look at) by_law = refl

-- and a bye by nothing else
pub bye_replied : (listed : Listed) (desk : ℕ) (before after : Seen) (said : Option Message) (came : Outcome)
    → IsCall listed desk before after (asked_by said) came → said ≡ Some message.Bye → reply_by said came ≡ reply.Bye
bye_replied listed desk before after (Some message.Bye) came call same =
    looked_bye listed (interview listed (read_by after.journal came)) came call.replied.by_law
bye_replied listed desk before after None came call same = absurd (cc)
bye_replied listed desk before after (Some (message.Hello hello)) came call same = absurd (cc)
bye_replied listed desk before after (Some message.Next) came call same = absurd (cc)
bye_replied listed desk before after (Some (message.Answer question side)) came call same = absurd (cc)
bye_replied listed desk before after (Some message.Values) came call same = absurd (cc)
bye_replied listed desk before after (Some message.Withdraw) came call same = absurd (cc)
bye_replied listed desk before after (Some message.Result) came call same = absurd (cc)

-- a message is a bye or not
pub bye_or_not : (said : Option Message) → (said ≡ Some message.Bye) ⊎ (said ≢ Some message.Bye)
bye_or_not None = inr (λ same. cc)
bye_or_not (Some (message.Hello hello)) = inr (λ same. cc)
bye_or_not (Some message.Next) = inr (λ same. cc)
bye_or_not (Some (message.Answer question side)) = inr (λ same. cc)
bye_or_not (Some message.Values) = inr (λ same. cc)
bye_or_not (Some message.Withdraw) = inr (λ same. cc)
bye_or_not (Some message.Result) = inr (λ same. cc)
bye_or_not (Some message.Bye) = inl refl

looked_writable : (levels : List ℕ) (said : Option Message) (at : ℕ) → IsWritable levels (reply_by said (outcome.look at))
looked_writable levels None at = tt
looked_writable levels (Some (message.Hello hello)) at = tt
looked_writable levels (Some message.Next) at = tt
looked_writable levels (Some (message.Answer question side)) at = tt
looked_writable levels (Some message.Values) at = tt
looked_writable levels (Some message.Withdraw) at = tt
looked_writable levels (Some message.Result) at = tt
looked_writable levels (Some message.Bye) at = tt

pub carried_writable : (listed : Listed) (now : Interview) (said : Option Message) (came : Outcome) → Carries listed now came
    → IsWritable listed.criteria.levels (reply_by said came)
carried_writable listed now said (outcome.next came) carried = tt
carried_writable listed now said (outcome.answer came) carried = tt
carried_writable listed now said (outcome.values (Values at vector)) carried = carried.vector
carried_writable listed now said (outcome.values (Incomplete at place pair plus minus)) carried = tt
carried_writable listed now said (outcome.withdraw came) carried = tt
carried_writable listed now said (outcome.look at) carried = looked_writable listed.criteria.levels said at

-- each reply can be written
pub writable : (listed : Listed) (desk : ℕ) (before after : Seen) (said : Option Message) (answer : Reply)
    → IsAnswered listed desk before after said answer → IsWritable listed.criteria.levels answer
writable listed desk before after said answer h =
    rw h.replied (carried_writable listed (interview listed (read_by after.journal h.came)) said h.came h.call.replied.carried)

pub answer_within : (listed : Listed) (desk : ℕ) (before after : Seen) (said : Option Message) (answer : Reply)
    → IsAnswered listed desk before after said answer → (count : ℕ) → answer ≡ reply.Result count → count ≤ length after.journal
answer_within listed desk before after said answer h count same =
    result_within listed desk before after said h.came count h.call (sym h.replied ∙ same)
