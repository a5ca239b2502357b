-- Texts of replies, one after another.
use Rattle.std.proofs.Common.{◌≡◌, ℕ, ◌+◌, ◌<◌, List, [], ◌∷◌, ◌++◌, length, map, take, drop, get_or, Option, refl, ap, sym, subst, ◌∙◌, arith, append-nil, take-append-drop}
use Rattle.std.specs.List.{concat}
use Rattle.std.proofs.lemmas.List.{map-append, take_more}
use Rattle.std.proofs.lemmas.List.Folds.{concat-append}
use mathlib.Core.List.{IsPrefix}
use Rattle.edges.specs.Told.{Appends, AppendsPrefix}
use Rattle.edges.proofs.ToldLemmas.{Appends-append}
use Rattle.pair_enumeration.specs.Listed.{Listed}
use Rattle.survey_core.specs.declared.events.Event.{Event}
use Rattle.survey_replies.specs.Outcomes.{Outcome}
use Rattle.survey_replies.specs.Interview.{interview}
use Rattle.survey_replies.specs.Calls.{IsReplyIn, read_by}
use Rattle.json_forms.specs.declared.messages.Message.{Message}
use Rattle.json_forms.specs.declared.replies.Reply.{Reply}
use Rattle.result_file.proofs.OutLemmas.{out_failed}
use Rattle.session_protocol.specs.Exchanges.{asked_by, reply_by}
use Rattle.session_protocol.specs.Sessions.{CanBeWritten, text_of}
use Rattle.session_protocol.proofs.ReplyCases.{carried_writable, result_at}
use Rattle.session_protocol.proofs.SessionLemmas.{text_stays}

-- a reply that is right in a journal can be written
pub can_be_written : (listed : Listed) (desk : ℕ) (journal : List Event) (said : Option Message) (came : Outcome)
    → IsReplyIn listed desk journal (asked_by said) came → CanBeWritten listed journal (reply_by said came)
can_be_written listed desk journal said came h = record {
  writable = carried_writable listed (interview listed (read_by journal came)) said came h.carried;
  within = λ count same. omega (arith, result_at said came count same, h.within);
}

-- all texts
abbrev pub whole_text : Listed → List Event → List Reply → List ℕ
whole_text listed journal replies = concat (map (text_of listed journal) replies)

text_push : (listed : Listed) (journal : List Event) (replies : List Reply) (reply : Reply)
    → whole_text listed journal (replies ++ reply ∷ []) ≡ whole_text listed journal replies ++ text_of listed journal reply
text_push listed journal replies reply =
    ap concat (map-append (text_of listed journal) replies (reply ∷ []))
    ∙ concat-append (map (text_of listed journal) replies) (text_of listed journal reply ∷ [])
    ∙ ap (λ (l : List ℕ). whole_text listed journal replies ++ l) (append-nil (text_of listed journal reply))

text_append : (listed : Listed) (journal : List Event) (replies others : List Reply)
    → whole_text listed journal (replies ++ others) ≡ whole_text listed journal replies ++ whole_text listed journal others
text_append listed journal replies others =
    ap concat (map-append (text_of listed journal) replies others) ∙ concat-append (map (text_of listed journal) replies) (map (text_of listed journal) others)

module _ (listed : Listed) (journal longer : List Event) (replies : List Reply) (k : ℕ) (reply : Reply) (within : k < length replies) (is : reply ≡ get_or replies k reply)
    (prefix : IsPrefix journal longer) (can : CanBeWritten listed journal reply) (before mid now : Option (List ℕ))
    (out : Appends before mid (whole_text listed journal (take k replies))) where
  same_text : text_of listed longer reply ≡ text_of listed journal reply
  same_text = text_stays listed journal longer reply prefix can.within

  front_is : take (k + 1) replies ≡ take k replies ++ reply ∷ []
  front_is = take_more replies k reply within ∙ ap (λ (r : Reply). take k replies ++ r ∷ []) (sym is)

  -- one more text
  pub texts_more : Appends mid now (text_of listed longer reply) → Appends before now (whole_text listed journal (take (k + 1) replies))
  texts_more put =
      let whole : whole_text listed journal (take (k + 1) replies) ≡ whole_text listed journal (take k replies) ++ text_of listed journal reply =
      ap (whole_text listed journal) front_is ∙ text_push listed journal (take k replies) reply in
      subst (λ (l : List ℕ). Appends before now l) (sym whole)
      (Appends-append before mid now (whole_text listed journal (take k replies)) (text_of listed journal reply) out
      (subst (λ (l : List ℕ). Appends mid now l) same_text put))

  -- the sink failed
  pub texts_cut : AppendsPrefix mid now (text_of listed longer reply) → AppendsPrefix before now (whole_text listed journal replies)
  texts_cut put =
      let front : List ℕ = whole_text listed journal (take k replies) ++ text_of listed journal reply in
      let rest : List ℕ = whole_text listed journal (drop (k + 1) replies) in
      let whole : whole_text listed journal replies ≡ front ++ rest =
      ap (whole_text listed journal) (sym (take-append-drop (k + 1) replies))
      ∙ text_append listed journal (take (k + 1) replies) (drop (k + 1) replies)
      ∙ ap (λ (l : List ℕ). l ++ rest) (ap (whole_text listed journal) front_is ∙ text_push listed journal (take k replies) reply) in
      subst (λ (l : List ℕ). AppendsPrefix before now l) (sym whole)
      (out_failed before mid now (text_of listed journal reply) front rest
      (record { sent = whole_text listed journal (take k replies); out = out; whole = refl })
      (subst (λ (l : List ℕ). AppendsPrefix mid now l) same_text put))
