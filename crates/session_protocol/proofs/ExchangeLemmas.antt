-- Exchanges with a respondent.
use Rattle.std.proofs.Common.{◌≡◌, ℕ, ◌-◌, [], ◌++◌, length, Option, refl, ap, sym, subst, ◌∙◌, arith, append-nil}
use Rattle.std.specs.List.{range_with_len}
use Rattle.pair_enumeration.specs.Listed.{Listed}
use Rattle.json_forms.specs.declared.messages.Message.{Message}
use Rattle.survey_replies.specs.Requests.{Request}
use Rattle.survey_replies.specs.Requests as request
use Rattle.survey_replies.specs.Outcomes.{Outcome}
use Rattle.survey_replies.specs.Outcomes as outcome
use Rattle.survey_replies.specs.Calls.{Seen, IsCall}
use Rattle.survey_replies.proofs.TurnLemmas.{call_is_made_lem}
use Rattle.session_protocol.specs.Exchanges.{IsAnswered, asked_by, reply_by}

-- the call that a message asks for gives its reply
pub answered : (listed : Listed) (desk : ℕ) (before after : Seen) (message : Option Message) (came : Outcome)
    → IsCall listed desk before after (asked_by message) came → IsAnswered listed desk before after message (reply_by message came)
answered listed desk before after message came call = record { came = came; call = call; replied = refl }

-- a look at what was seen is a call that records nothing
pub looked : (listed : Listed) (desk : ℕ) (seen : Seen) → IsCall listed desk seen seen request.look (outcome.look (length seen.journal))
looked listed desk seen =
    let none : length seen.journal - length seen.journal ≡ 0 = omega arith in
    call_is_made_lem listed desk seen seen seen seen.journal request.look (outcome.look (length seen.journal))
    (record {
      longer = ([], append-nil seen.journal);
      eliminated = [];
      once = λ i j d less within. absurd (omega arith);
      eliminations = λ k d within. absurd (omega arith);
      own = sym (append-nil seen.own);
    })
    (record {
      later = ([], append-nil seen.journal);
      longer = ([], append-nil seen.journal);
      own = sym (append-nil seen.own) ∙ ap (λ (n : ℕ). seen.own ++ range_with_len (length seen.journal) n) (sym none);
    })
    (record {
      at = refl;
      by_law = tt;
      carried = tt;
      ranked = tt;
      events = [];
      appended = refl;
      journal = sym (append-nil seen.journal);
    })

-- so is the reply to a message that asks for no more
pub answered_by_look : (listed : Listed) (desk : ℕ) (seen : Seen) (message : Option Message) → asked_by message ≡ request.look
    → IsAnswered listed desk seen seen message (reply_by message (outcome.look (length seen.journal)))
answered_by_look listed desk seen message asks =
    answered listed desk seen seen message (outcome.look (length seen.journal))
    (subst (λ (r : Request). IsCall listed desk seen seen r (outcome.look (length seen.journal))) (sym asks) (looked listed desk seen))
