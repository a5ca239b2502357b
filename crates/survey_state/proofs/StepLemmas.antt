-- Turns of a call, on the state and on the journal that was seen.
use Rattle.std.proofs.Common.{◌≡◌, ℕ, ◌+◌, ◌-◌, ◌*◌, ◌<◌, ◌≤◌, List, [], ◌∷◌, ◌++◌, length, length-append, Option, Some, None, IfSome, Result, Ok, Err, IfOk, ap, sym, subst, ◌∙◌, inl, inr, arith, append-nil}
use Rattle.std.specs.Prelude.{OnErr}
use Rattle.std.specs.List.{range_with_len}
use mathlib.Core.List.{IsPrefix}
use Rattle.criteria_model.specs.declared.pairs.Side.{Side}
use Rattle.decider.specs.declared.tools.Snapshot.{Snapshot}
use Rattle.farkas_check.specs.declared.combination.Combination.{Combination}
use Rattle.pair_enumeration.specs.Listed.{Listed}
use Rattle.survey_core.specs.declared.events.Event.{Event}
use Rattle.survey_core.specs.declared.events.Event.TheVariants.{Eliminate}
use Rattle.survey_core.specs.declared.limits.TheConstants.{MAX_EVENTS}
use Rattle.survey_core.specs.Legal.{IsLegal}
use Rattle.survey_replies.specs.Requests.{Request}
use Rattle.survey_replies.specs.Outcomes.{Outcome}
use Rattle.survey_replies.specs.Requests as request
use Rattle.survey_replies.specs.Outcomes as outcome
use Rattle.survey_replies.specs.declared.replies.ValuesReply.{ValuesReply}
use Rattle.survey_replies.specs.Calls.{Seen, IsCall, Prepares, TakesTurn, RepliesInTurn, Watches}
use Rattle.survey_replies.proofs.CallLemmas.{prefix_trans, prefix_length}
use Rattle.survey_replies.proofs.TurnLemmas.{call_is_made_lem, elimination_prepares_lem, nothing_prepares_lem}
use Rattle.survey_state.specs.declared.findings.Found.{Found}
use Rattle.survey_state.specs.declared.calls.Step.{Step}
use Rattle.survey_state.specs.declared.calls.Step.TheVariants as step
use Rattle.survey_state.specs.States.{Surveyed, HasAnswersOf}
use Rattle.survey_state.specs.Findings.{IsLook, LooksAt, IsEarlier}
use Rattle.survey_state.specs.Sought.{IsSought}
use Rattle.survey_state.specs.Turns.{AppendsEliminate, IsBefore, IsStep, SeeksOn, Grows, Advances, IsTurn}
use Rattle.survey_state.proofs.FindingLemmas.{copy_eliminated}

-- ---- a turn that appends nothing
pub watches : (before after : Seen) (found : List Event) → TakesTurn before after found → after.journal ≡ found → Watches before after
watches before after found turn same =
    let none : length after.journal - length found ≡ 0 = omega (arith, ap (λ (l : List Event). length l) same) in
    record {
      longer = prefix_trans before.journal found after.journal turn.later turn.longer;
      own = turn.own ∙ ap (λ (n : ℕ). before.own ++ range_with_len (length found) n) none ∙ append-nil before.own;
    }

pub prepares_none : (asked : Request) (seen : Seen) → Prepares asked seen seen
prepares_none asked seen = record {
  longer = ([], append-nil seen.journal);
  eliminated = [];
  eliminations = λ k d within. absurd (omega arith);
  once = λ i j d less within. absurd (omega arith);
  own = sym (append-nil seen.own);
}

-- ---- a reply in one turn
pub one_turn : (listed : Listed) (desk : ℕ) (before after : Seen) (found : List Event) (asked : Request) (reply : Outcome) → TakesTurn before after found
    → RepliesInTurn listed desk found after.journal asked reply → IsCall listed desk before after asked reply
one_turn listed desk before after found asked reply turn replied =
    call_is_made_lem listed desk before before after found asked reply (prepares_none asked before) turn replied

-- ---- a step
before_longer : (asked : Request) (found after : List Event) → IsBefore asked found after → IsPrefix found after
before_longer asked found after (inl same) = ([], append-nil found ∙ sym same)
before_longer asked found after (inr (event, is, same)) = (event ∷ [], sym same)

before_prepares : (asked : Request) (before after : Seen) (found : List Event) → TakesTurn before after found → IsBefore asked found after.journal
    → Prepares asked before after
before_prepares asked before after found turn (inl same) = nothing_prepares_lem asked before after found turn same
before_prepares asked before after found turn (inr (event, is, same)) = elimination_prepares_lem asked before after found event turn is same

pub step_turn : {R : Type 0} (outcome_of : R → Outcome) (listed : Listed) (desk : ℕ) (asked : Request) (old new : Surveyed) (before after : Seen) (snapshot : Snapshot)
    (made : Step R) → old.listed ≡ listed → after.journal ≡ new.journal → TakesTurn before after old.journal → IsStep outcome_of desk asked old new snapshot made
    → IsTurn outcome_of listed desk asked before after snapshot made
step_turn outcome_of listed desk asked old new before after snapshot (step.Reply reply) model same turn replied = record {
  found = old.journal;
  turn = turn;
  replied =
      subst (λ (l : Listed). RepliesInTurn l desk old.journal after.journal asked (outcome_of reply)) model
      (subst (λ (j : List Event). RepliesInTurn old.listed desk old.journal j asked (outcome_of reply)) (sym same) replied);
}
step_turn outcome_of listed desk asked old new before after snapshot (step.Look look) model same turn (is, looks) = (
  before_prepares asked before after old.journal turn (subst (λ (j : List Event). IsBefore asked old.journal j) (sym same) is),
  subst (λ (l : Listed). LooksAt l after.journal asked snapshot look) model
      (subst (λ (j : List Event). LooksAt old.listed j asked snapshot look) (sym same) looks),
)
step_turn outcome_of listed desk asked old new before after snapshot step.Again model same turn is =
    before_prepares asked before after old.journal turn (subst (λ (j : List Event). IsBefore asked old.journal j) (sym same) is)

found_before : (found : Option Found) (new after : List Event) → after ≡ new → IsEarlier found new
    → IsEarlier found after
found_before None new after same h = h
found_before (Some found) new after same h = omega (arith, h, ap (λ (l : List Event). length l) same)

pub step_advances : {R : Type 0} (found : Option Found) (old new : List Event) (before after : Seen) (made : Step R) → after.journal ≡ new
    → TakesTurn before after old → Advances found old new made → Advances found before.journal after.journal made
step_advances found old new before after (step.Reply reply) same turn h = h
step_advances found old new before after (step.Look look) same turn (short, later) =
    (omega (arith, short, prefix_length before.journal old turn.later), found_before found new after.journal same later)
step_advances found old new before after step.Again same turn (short, more) = (
  omega (arith, short, prefix_length before.journal old turn.later),
  omega (arith, more, prefix_length before.journal old turn.later, ap (λ (l : List Event). length l) same),
)

-- ---- after an elimination
module _ {R : Type 0} (outcome_of : R → Outcome) (desk : ℕ) (asked : Request) (old new : Surveyed) (snapshot : Snapshot) (place : ℕ) (verdict : Side) (combination : Combination)
    (same : new.listed ≡ old.listed) (appends : AppendsEliminate asked old.journal new.journal place verdict combination) where
  before_reply : IsBefore asked old.journal new.journal
  before_reply = inr (Eliminate 0 place verdict combination, appends.0, appends.1)

  longer : length new.journal ≡ length old.journal + 1
  longer = ap (λ (l : List Event). length l) appends.1 ∙ length-append old.journal (Eliminate 0 place verdict combination ∷ [])

  pub eliminated_step : (made : Step R) → IsLegal old.listed old.journal → HasAnswersOf old.listed old.journal snapshot → SeeksOn new.listed new.journal asked made
      → IsStep outcome_of desk asked old new snapshot made
  eliminated_step (step.Reply reply) legal copy none = absurd none
  eliminated_step step.Again legal copy short = before_reply
  eliminated_step (step.Look look) legal copy (sought, looks) = (
    before_reply,
    record {
      look_at = subst (λ (l : Listed). IsLook l new.journal look) same looks;
      sought = subst (λ (l : Listed). IsSought l new.journal asked look.place) same sought;
      copy = copy_eliminated old.listed old.journal new.journal 0 place verdict combination snapshot legal appends.1 copy;
    },
  )

  pub eliminated_grows : (made : Step R) → SeeksOn new.listed new.journal asked made → Grows old.journal new.journal made
  eliminated_grows (step.Reply reply) none = absurd none
  eliminated_grows step.Again short = (omega (arith, short, longer), omega (arith, longer))
  eliminated_grows (step.Look look) (sought, looks) = (omega (arith, looks.short, longer), omega (arith, longer))

pub grows_advances : {R : Type 0} (found : Found) (old new : List Event) (made : Step R) → found.at ≤ length old → Grows old new made → Advances (Some found) old new made
grows_advances found old new (step.Reply reply) within h = h
grows_advances found old new (step.Look look) within (short, more) = (short, omega (arith, within, more))
grows_advances found old new step.Again within h = h

-- ---- what was put at the end
pub step_longer : {R : Type 0} (outcome_of : R → Outcome) (desk : ℕ) (asked : Request) (old new : Surveyed) (snapshot : Snapshot) (made : Step R)
    → IsStep outcome_of desk asked old new snapshot made → IsPrefix old.journal new.journal
step_longer outcome_of desk asked old new snapshot (step.Reply reply) replied = (replied.events, sym replied.journal)
step_longer outcome_of desk asked old new snapshot (step.Look look) is = before_longer asked old.journal new.journal is.0
step_longer outcome_of desk asked old new snapshot step.Again is = before_longer asked old.journal new.journal is

-- ---- how often a call goes on
abbrev pub turns_left : ℕ → Option Found → ℕ
turns_left length_seen None = 2 * (MAX_EVENTS + 2 - length_seen) + 1
turns_left length_seen (Some found) = 2 * (MAX_EVENTS + 2 - length_seen)

pub look_less : (before after : List Event) (earlier : Option Found) (found : Found) → IsPrefix before after → length before ≤ MAX_EVENTS → IsEarlier earlier after
    → IfSome earlier (λ one. one.at ≡ length before) → turns_left (length after) (Some found) < turns_left (length before) earlier
look_less before after None found front short later at = omega (arith, short, prefix_length before after front)
look_less before after (Some one) found front short later at = omega (arith, short, later, at)

pub again_less : (before after : List Event) (earlier : Option Found) → length before ≤ MAX_EVENTS → length before < length after
    → turns_left (length after) None < turns_left (length before) earlier
again_less before after None short more = omega (arith, short, more)
again_less before after (Some one) short more = omega (arith, short, more)

-- ---- calls whose result may be out of memory
pub ok_by : {X E : Type 0} {P Q : X → Type 0} (made : Result X E) → ((x : X) → P x → Q x) → IfOk made P → IfOk made Q
ok_by (Ok x) f h = f x h
ok_by (Err e) f h = h

pub err_by : {X E : Type 0} {P Q : Type 0} (made : Result X E) → (P → Q) → OnErr made P → OnErr made Q
err_by (Ok x) f h = h
err_by (Err e) f h = f h

pub made_longer : {X E : Type 0} (outcome_of : X → Outcome) (listed : Listed) (desk : ℕ) (found after : List Event) (asked : Request) (made : Result X E)
    → IfOk made (λ x. RepliesInTurn listed desk found after asked (outcome_of x)) → OnErr made (after ≡ found) → IsPrefix found after
made_longer outcome_of listed desk found after asked (Ok x) replied same = (replied.events, sym replied.journal)
made_longer outcome_of listed desk found after asked (Err e) replied same = ([], append-nil found ∙ sym same)

-- ---- the reply to `values` is the same at each desk
pub values_any : (listed : Listed) (one other : ℕ) (before after : Seen) (reply : ValuesReply) → IsCall listed one before after request.values (outcome.values reply)
    → IsCall listed other before after request.values (outcome.values reply)
values_any listed one other before after reply call = record {
  replied = record {
    within = call.replied.within;
    by_law = call.replied.by_law;
    carried = call.replied.carried;
    ranked = call.replied.ranked;
    appended = call.replied.appended;
  };
  longer = call.longer;
  later = call.later;
  ends = call.ends;
  eliminated = call.eliminated;
  eliminations = call.eliminations;
  once = call.once;
  own = call.own;
}
