-- Sessions, message by message.
use Rattle.std.proofs.Common.{◌≡◌, ◌≢◌, ℕ, ◌+◌, ◌<◌, ◌≤◌, List, [], ◌∷◌, ◌++◌, length, map, take, All, Option, Some, refl, ap, sym, subst, ◌∙◌, inl, inr, arith, append_assoc, append-nil, length-append}
use Rattle.std.specs.List.{concat}
use Rattle.std.specs.Prelude.{IfErr, Result, Ok, Err}
use Rattle.std.specs.Io.KnownBytes.{prepend_known}
use Rattle.std.proofs.lemmas.List.{map-append, take-append-le, length-map}
use Rattle.std.proofs.lemmas.List.Elements.{All-nil, All-cons, All-append}
use Rattle.std.proofs.lemmas.List.Folds.{concat-append}
use mathlib.Core.List.{IsPrefix}
use Rattle.edges.specs.Line.{HasNoLineEnd, line_end, unlines}
use Rattle.edges.specs.Lines.{LinesView, GivesPiece, GivesEnd, GivesTooLong, GivesFault}
use Rattle.edges.specs.Told.{Appends, AppendsPrefix, Takes}
use Rattle.edges.proofs.ToldLemmas.{Appends-nil, Appends-append, prepend_known-append, prepend_known-nil}
use Rattle.pair_enumeration.specs.Listed.{Listed}
use Rattle.survey_core.specs.declared.events.Event.{Event}
use Rattle.survey_replies.specs.Outcomes.{Exchange}
use Rattle.survey_replies.specs.Calls.{Seen, Watches, Conversation}
use Rattle.survey_replies.proofs.CallLemmas.{prefix_trans, prefix_length, conversation_longer, conversations_join_lem, not_begun}
use Rattle.json_forms.specs.Messages.{message_of}
use Rattle.json_forms.specs.declared.messages.Message.TheVariants as message
use Rattle.json_forms.specs.declared.replies.Reply.{Reply}
use Rattle.json_forms.specs.declared.replies.Reply.TheVariants as reply
use Rattle.result_file.specs.Files.{file_text, result_of}
use Rattle.result_file.specs.declared.limits.TheConstants.{MAX_LINE}
use Rattle.result_file.proofs.OutLemmas.{unlines-append}
use Rattle.session_protocol.specs.declared.sessions.CountedEnd.{CountedEnd}
use Rattle.session_protocol.specs.declared.sessions.SessionEnd.{SessionEnd}
use Rattle.session_protocol.specs.declared.sessions.SessionEnd.TheVariants.{Bye, EndOfInput, LineTooLong, Messages, ReadFault, WriteFault, NoMemory}
use Rattle.session_protocol.specs.Exchanges.{IsAnswered, reply_by}
use Rattle.session_protocol.specs.Sessions.{LineExchange, exchange_of, reply_of, text_of, AnswersLines, exchange_lines, texts_of, IsLine, IsOverlong, HasNoBye, EndsWithBye, EndsAfter, EndTakes, refusals, AppendsCut, IsWritten, IsSession, IsCountedSession, SessionGoesOn, SessionView, session_view}
use Rattle.session_protocol.proofs.ReplyCases.{result_within, bye_said, bye_replied, bye_or_not}

pub if_err : {A E : Type 0} (result : Result A E) (P Q : E → Type 0) → ((e : E) → P e → Q e) → IfErr result P → IfErr result Q
if_err (Ok a) P Q f h = h
if_err (Err e) P Q f h = f e h

-- the kept bytes are more than a line has
pub overlong : (lines : LinesView) (before now : Option (List ℕ)) → lines.longest ≡ MAX_LINE → GivesTooLong lines before now → IsOverlong lines.kept
overlong lines before now longest h =
    (subst (λ n. n < length lines.kept) longest h.too_many, subst (λ n. HasNoLineEnd (take (n + 1) lines.kept)) longest h.unbroken)

-- ---- what is taken
pub takes_none : (told : Option (List ℕ)) → Takes told told []
takes_none told = sym (prepend_known-nil told)

pub takes_both : (before mid now : Option (List ℕ)) (xs ys : List ℕ) → Takes before mid xs → Takes mid now ys → Takes before now (xs ++ ys)
takes_both before mid now xs ys one other = one ∙ ap (prepend_known xs) other ∙ sym (prepend_known-append xs ys now)

lines_both : (xs ys : List LineExchange) → unlines (exchange_lines (xs ++ ys)) ≡ unlines (exchange_lines xs) ++ unlines (exchange_lines ys)
lines_both xs ys =
    ap unlines (map-append (λ (one : LineExchange). one.line) xs ys) ∙ unlines-append (exchange_lines xs) (exchange_lines ys)

-- what holds of the lines of two parts, one after the other
lines_append : (P : List (List ℕ) → Type 0) (xs ys : List LineExchange) → P (exchange_lines xs ++ exchange_lines ys) → P (exchange_lines (xs ++ ys))
lines_append P xs ys h = subst P (sym (map-append (λ (one : LineExchange). one.line) xs ys)) h

all_lines : (xs ys : List LineExchange) → All IsLine (exchange_lines xs) → All IsLine (exchange_lines ys) → All IsLine (exchange_lines (xs ++ ys))
all_lines xs ys one other =
    lines_append (All IsLine) xs ys (All-append IsLine (exchange_lines xs) (exchange_lines ys) one other)

-- ---- conversations
answers_both : (listed : Listed) (desk : ℕ) (before middle after : Seen) (xs ys : List LineExchange)
    → AnswersLines listed desk before middle xs → AnswersLines listed desk middle after ys → AnswersLines listed desk before after (xs ++ ys)
answers_both listed desk before middle after xs ys one other =
    subst (λ (l : List Exchange). Conversation listed desk before after l) (sym (map-append exchange_of xs ys))
    (conversations_join_lem listed desk before middle after (map exchange_of xs) (map exchange_of ys) one other)

-- ---- texts in a longer journal
pub text_stays : (listed : Listed) (journal longer : List Event) (answer : Reply) → IsPrefix journal longer
    → ((count : ℕ) → answer ≡ reply.Result count → count ≤ length journal) → text_of listed longer answer ≡ text_of listed journal answer
text_stays listed journal longer (reply.Result count) (more, same) within =
    ap (λ (events : List Event). file_text (result_of listed events))
    (ap (λ (events : List Event). take count events) (sym same) ∙ take-append-le count journal more (within count refl))
text_stays listed journal longer (reply.Welcome classes desk) prefix within = refl
text_stays listed journal longer (reply.Next came) prefix within = refl
text_stays listed journal longer (reply.Answer came) prefix within = refl
text_stays listed journal longer (reply.Values came) prefix within = refl
text_stays listed journal longer (reply.Withdraw came) prefix within = refl
text_stays listed journal longer reply.Bye prefix within = refl
text_stays listed journal longer (reply.Refused why) prefix within = refl

pub texts_stay : (listed : Listed) (desk : ℕ) (before after : Seen) (journal longer : List Event) (exchanges : List LineExchange)
    → AnswersLines listed desk before after exchanges → IsPrefix after.journal journal → IsPrefix journal longer
    → texts_of listed longer exchanges ≡ texts_of listed journal exchanges
texts_stay listed desk before after journal longer [] answered seen prefix = refl
texts_stay listed desk before after journal longer (one ∷ exchanges) (middle, call, others) seen prefix =
    let reached : IsPrefix middle.journal journal =
    prefix_trans middle.journal after.journal journal (conversation_longer listed desk middle after (map exchange_of exchanges) others) seen in
    let first : text_of listed longer (reply_of one) ≡ text_of listed journal (reply_of one) =
    text_stays listed journal longer (reply_of one) prefix
    (λ count same. omega (
      arith,
      prefix_length middle.journal journal reached,
      result_within listed desk before middle (message_of one.line) one.came count call same,
    )) in
    let rest : texts_of listed longer exchanges ≡ texts_of listed journal exchanges =
    texts_stay listed desk middle after journal longer exchanges others seen prefix in
    ap (λ (t : List ℕ). t ∷ texts_of listed longer exchanges) first ∙ ap (λ (ts : List (List ℕ)). text_of listed journal (reply_of one) ∷ ts) rest

-- those of a session's part and then of the rest
texts_both : (listed : Listed) (desk : ℕ) (before middle after : Seen) (xs ys : List LineExchange) → AnswersLines listed desk before middle xs
    → IsPrefix middle.journal after.journal
    → texts_of listed after.journal (xs ++ ys) ≡ texts_of listed middle.journal xs ++ texts_of listed after.journal ys
texts_both listed desk before middle after xs ys answered longer =
    map-append (λ (one : LineExchange). text_of listed after.journal (reply_of one)) xs ys
    ∙ ap (λ (ts : List (List ℕ)). ts ++ texts_of listed after.journal ys)
    (texts_stay listed desk before middle middle.journal after.journal xs answered ([], append-nil middle.journal) longer)

-- ---- what is written
put_both : (before mid now : Option (List ℕ)) (xs ys : List (List ℕ)) → Appends before mid (concat xs) → Appends mid now (concat ys)
    → Appends before now (concat (xs ++ ys))
put_both before mid now xs ys one other =
    subst (λ (bytes : List ℕ). Appends before now bytes) (sym (concat-append xs ys)) (Appends-append before mid now (concat xs) (concat ys) one other)

put_last : (before mid now : Option (List ℕ)) (xs ys last : List (List ℕ)) → Appends before mid (concat xs) → Appends mid now (concat (ys ++ last))
    → Appends before now (concat ((xs ++ ys) ++ last))
put_last before mid now xs ys last one other =
    subst (λ (l : List (List ℕ)). Appends before now (concat l)) (sym (append_assoc xs ys last)) (put_both before mid now xs (ys ++ last) one other)

cut_later : (before mid now : Option (List ℕ)) (xs ys last : List (List ℕ)) → Appends before mid (concat xs) → AppendsCut mid now (ys ++ last)
    → AppendsCut before now ((xs ++ ys) ++ last)
cut_later before mid now xs ys last one cut = record {
  earlier = xs ++ cut.earlier;
  last = cut.last;
  whole = append_assoc xs ys last ∙ ap (λ (l : List (List ℕ)). xs ++ l) cut.whole ∙ sym (append_assoc xs cut.earlier (cut.last ∷ []));
  bytes = cut.bytes;
  out = subst (λ (l : List ℕ). Appends before now l)
      (sym (append_assoc (concat xs) (concat cut.earlier) (take cut.bytes cut.last))
      ∙ ap (λ (l : List ℕ). l ++ take cut.bytes cut.last) (sym (concat-append xs cut.earlier)))
      (Appends-append before mid now (concat xs) (concat cut.earlier ++ take cut.bytes cut.last) one cut.out);
}

written_later : (end : SessionEnd) (before mid now : Option (List ℕ)) (xs ys : List (List ℕ)) → Appends before mid (concat xs)
    → IsWritten end mid now ys → IsWritten end before now (xs ++ ys)
written_later WriteFault before mid now xs ys one (end, cut) = (end, cut_later before mid now xs ys (refusals end) one cut)
written_later Bye before mid now xs ys one put = put_last before mid now xs ys (refusals Bye) one put
written_later EndOfInput before mid now xs ys one put = put_last before mid now xs ys (refusals EndOfInput) one put
written_later LineTooLong before mid now xs ys one put = put_last before mid now xs ys (refusals LineTooLong) one put
written_later Messages before mid now xs ys one put = put_last before mid now xs ys (refusals Messages) one put
written_later ReadFault before mid now xs ys one put = put_last before mid now xs ys (refusals ReadFault) one put
written_later NoMemory before mid now xs ys one put = put_last before mid now xs ys (refusals NoMemory) one put

-- ---- which lines
no_byes : (xs ys : List (List ℕ)) → HasNoBye xs → HasNoBye ys → HasNoBye (xs ++ ys)
no_byes xs ys one other = All-append (λ line. message_of line ≢ Some message.Bye) xs ys one other

bye_later : (xs ys : List (List ℕ)) → HasNoBye xs → EndsWithBye ys → EndsWithBye (xs ++ ys)
bye_later xs ys none h = record {
  earlier = xs ++ h.earlier;
  last = h.last;
  whole = ap (λ (l : List (List ℕ)). xs ++ l) h.whole ∙ sym (append_assoc xs h.earlier (h.last ∷ []));
  no_bye = no_byes xs h.earlier none h.no_bye;
  bye = h.bye;
}

ends_later : (end : SessionEnd) (count most total : ℕ) (xs ys : List (List ℕ)) → HasNoBye xs → length xs ≡ count → count + most ≤ total
    → (end ≡ Messages → count + most ≡ total) → EndsAfter most end ys → EndsAfter total end (xs ++ ys)
ends_later Bye count most total xs ys none is few all (bye, within) = (bye_later xs ys none bye, omega (arith, length-append xs ys))
ends_later WriteFault count most total xs ys none is few all (which, within) = (
  elim which [
    | inl byeless ↦ inl (no_byes xs ys none byeless)
    | inr bye ↦ inr (bye_later xs ys none bye)
  ],
  omega (arith, length-append xs ys),
)
ends_later Messages count most total xs ys none is few all (byeless, within) =
    (no_byes xs ys none byeless, omega (arith, length-append xs ys, all refl))
ends_later EndOfInput count most total xs ys none is few all (byeless, within) = (no_byes xs ys none byeless, omega (arith, length-append xs ys))
ends_later LineTooLong count most total xs ys none is few all (byeless, within) = (no_byes xs ys none byeless, omega (arith, length-append xs ys))
ends_later ReadFault count most total xs ys none is few all (byeless, within) = (no_byes xs ys none byeless, omega (arith, length-append xs ys))
ends_later NoMemory count most total xs ys none is few all (byeless, within) = (no_byes xs ys none byeless, omega (arith, length-append xs ys))

-- ---- sessions and their parts
abbrev pub counted_end : SessionEnd → ℕ → CountedEnd
counted_end end replies = record { end = end; replies = replies }

module _ (listed : Listed) (desk : ℕ) where
  pub goes_nowhere : (seen : Seen) (ahead written : Option (List ℕ)) → SessionGoesOn listed desk (session_view seen ahead written) (session_view seen ahead written) 0
  goes_nowhere seen ahead written = record {
    exchanges = [];
    answered = not_begun listed desk seen;
    lines = All-nil IsLine;
    read = takes_none ahead;
    put = Appends-nil written;
    no_bye = All-nil (λ line. message_of line ≢ Some message.Bye);
    counted = refl;
  }

  -- one part and then another
  pub goes_further : (before middle after : SessionView) (count more : ℕ) → SessionGoesOn listed desk before middle count → SessionGoesOn listed desk middle after more
      → SessionGoesOn listed desk before after (count + more)
  goes_further before middle after count more one other =
      let longer : IsPrefix middle.seen.journal after.seen.journal =
      conversation_longer listed desk middle.seen after.seen (map exchange_of other.exchanges) other.answered in
      record {
        exchanges = one.exchanges ++ other.exchanges;
        answered = answers_both listed desk before.seen middle.seen after.seen one.exchanges other.exchanges one.answered other.answered;
        lines = all_lines one.exchanges other.exchanges one.lines other.lines;
        read = subst (λ (l : List ℕ). Takes before.ahead after.ahead l) (sym (lines_both one.exchanges other.exchanges))
            (takes_both before.ahead middle.ahead after.ahead (unlines (exchange_lines one.exchanges)) (unlines (exchange_lines other.exchanges)) one.read other.read);
        put = subst (λ (l : List (List ℕ)). Appends before.written after.written (concat l))
            (sym (texts_both listed desk before.seen middle.seen after.seen one.exchanges other.exchanges one.answered longer))
            (put_both before.written middle.written after.written (texts_of listed middle.seen.journal one.exchanges)
            (texts_of listed after.seen.journal other.exchanges) one.put other.put);
        no_bye = lines_append HasNoBye one.exchanges other.exchanges (no_byes (exchange_lines one.exchanges) (exchange_lines other.exchanges) one.no_bye other.no_bye);
        counted = length-append one.exchanges other.exchanges ∙ ap (λ n. n + length other.exchanges) one.counted ∙ ap (λ n. count + n) other.counted;
      }

  -- a part and then the end
  pub ends_then : (before middle after : SessionView) (count most total : ℕ) (end : SessionEnd) (replies sum : ℕ)
      → SessionGoesOn listed desk before middle count → IsCountedSession listed desk middle after most (counted_end end replies)
      → count + most ≤ total → (end ≡ Messages → count + most ≡ total) → sum ≡ count + replies → IsCountedSession listed desk before after total (counted_end end sum)
  ends_then before middle after count most total end replies sum one counted few all added =
      let other : IsSession listed desk middle after most end = counted.session in
      let longer : IsPrefix middle.seen.journal after.seen.journal =
      conversation_longer listed desk middle.seen after.seen (map exchange_of other.exchanges) other.answered in
      record {
        session = record {
          exchanges = one.exchanges ++ other.exchanges;
          answered = answers_both listed desk before.seen middle.seen after.seen one.exchanges other.exchanges one.answered other.answered;
          lines = all_lines one.exchanges other.exchanges one.lines other.lines;
          taken = other.taken;
          takes = other.takes;
          read = subst (λ (l : List ℕ). Takes before.ahead after.ahead l)
              (sym (append_assoc (unlines (exchange_lines one.exchanges)) (unlines (exchange_lines other.exchanges)) other.taken)
              ∙ ap (λ (l : List ℕ). l ++ other.taken) (sym (lines_both one.exchanges other.exchanges)))
              (takes_both before.ahead middle.ahead after.ahead (unlines (exchange_lines one.exchanges))
              (unlines (exchange_lines other.exchanges) ++ other.taken) one.read other.read);
          put = subst (λ (l : List (List ℕ)). IsWritten end before.written after.written l)
              (sym (texts_both listed desk before.seen middle.seen after.seen one.exchanges other.exchanges one.answered longer))
              (written_later end before.written middle.written after.written (texts_of listed middle.seen.journal one.exchanges)
              (texts_of listed after.seen.journal other.exchanges) one.put other.put);
          ends = lines_append (EndsAfter total end) one.exchanges other.exchanges
              (ends_later end count most total (exchange_lines one.exchanges) (exchange_lines other.exchanges) one.no_bye (length-map one.exchanges (λ (e : LineExchange). e.line) ∙ one.counted) few all other.ends);
        };
        replies = added ∙ ap (λ n. count + n) counted.replies ∙ sym (length-append one.exchanges other.exchanges ∙ ap (λ n. n + length other.exchanges) one.counted);
      }

  -- ---- one line
  -- an end before which nothing was answered
  pub ends_unanswered : (before after : Seen) (ahead rest written now : Option (List ℕ)) (most : ℕ) (end : SessionEnd) (taken : List ℕ)
      → Watches before after → EndTakes end taken → Takes ahead rest taken → IsWritten end written now [] → EndsAfter most end []
      → IsCountedSession listed desk (session_view before ahead written) (session_view after rest now) most (counted_end end 0)
  ends_unanswered before after ahead rest written now most end taken watches takes read put ends = record {
    session = record {
      exchanges = [];
      answered = watches;
      lines = All-nil IsLine;
      taken = taken;
      takes = takes;
      read = read;
      put = put;
      ends = ends;
    };
    replies = refl;
  }

  -- the line that was answered
  answered_line : (before middle after : Seen) (line : List ℕ) (answer : Reply) (h : IsAnswered listed desk before middle (message_of line) answer)
      → Watches middle after → AnswersLines listed desk before after (record { line = line; came = h.came } ∷ [])
  answered_line before middle after line answer h watches = (middle, h.call, watches)

  one_text : (before middle after : Seen) (line : List ℕ) (answer : Reply) (h : IsAnswered listed desk before middle (message_of line) answer)
      → Watches middle after → text_of listed middle.journal answer ≡ text_of listed after.journal (reply_by (message_of line) h.came)
  one_text before middle after line answer h watches =
      ap (λ (r : Reply). text_of listed middle.journal r) h.replied
      ∙ sym (text_stays listed middle.journal after.journal (reply_by (message_of line) h.came) watches.longer
      (λ count same. result_within listed desk before middle (message_of line) h.came count h.call same))

  pub goes_by_line : (before middle after : Seen) (line : List ℕ) (answer : Reply) (written now : Option (List ℕ))
      → IsLine line → IsAnswered listed desk before middle (message_of line) answer → Watches middle after
      → Appends written now (text_of listed middle.journal answer) → answer ≢ reply.Bye
      → (rest : Option (List ℕ)) → SessionGoesOn listed desk (session_view before (prepend_known (line ++ line_end ∷ []) rest) written) (session_view after rest now) 1
  goes_by_line before middle after line answer written now is h watches put other rest = record {
    exchanges = record { line = line; came = h.came } ∷ [];
    answered = answered_line before middle after line answer h watches;
    lines = All-cons IsLine line [] is (All-nil IsLine);
    read = refl;
    put = subst (λ (bytes : List ℕ). Appends written now bytes)
        (one_text before middle after line answer h watches ∙ sym (append-nil (text_of listed after.journal (reply_by (message_of line) h.came)))) put;
    no_bye = All-cons (λ line. message_of line ≢ Some message.Bye) line []
        (λ same. other (h.replied ∙ bye_replied listed desk before middle (message_of line) h.came h.call same))
        (All-nil (λ line. message_of line ≢ Some message.Bye));
    counted = refl;
  }

  last_bye : (line : List ℕ) → message_of line ≡ Some message.Bye → EndsWithBye (line ∷ [])
  last_bye line bye = record { earlier = []; last = line; whole = refl; no_bye = All-nil (λ line. message_of line ≢ Some message.Bye); bye = bye }

  bye_ends : (before middle after : Seen) (line : List ℕ) (answer : Reply) (written now : Option (List ℕ))
      → IsLine line → IsAnswered listed desk before middle (message_of line) answer → Watches middle after
      → Appends written now (text_of listed middle.journal answer) → answer ≡ reply.Bye
      → (rest : Option (List ℕ)) → IsCountedSession listed desk
      (session_view before (prepend_known (line ++ line_end ∷ []) rest) written) (session_view after rest now) 1 (counted_end Bye 1)
  bye_ends before middle after line answer written now is h watches put same rest = record {
    session = record {
      exchanges = record { line = line; came = h.came } ∷ [];
      answered = answered_line before middle after line answer h watches;
      lines = All-cons IsLine line [] is (All-nil IsLine);
      taken = [];
      takes = refl;
      read = ap (λ (l : List ℕ). prepend_known l rest) (sym (append-nil (line ++ line_end ∷ [])));
      put = subst (λ (bytes : List ℕ). Appends written now bytes)
          (one_text before middle after line answer h watches ∙ sym (append-nil (text_of listed after.journal (reply_by (message_of line) h.came)))) put;
      ends = (last_bye line (bye_said (message_of line) h.came (sym h.replied ∙ same)), omega arith);
    };
    replies = refl;
  }

  pub ends_by_bye : (before middle after : Seen) (line : List ℕ) (answer : Reply) (written now : Option (List ℕ))
      → IsLine line → IsAnswered listed desk before middle (message_of line) answer → Watches middle after
      → Appends written now (text_of listed middle.journal answer) → (end : CountedEnd) → (end ≡ counted_end Bye 1) × (answer ≡ reply.Bye)
      → (rest : Option (List ℕ)) → IsCountedSession listed desk
      (session_view before (prepend_known (line ++ line_end ∷ []) rest) written) (session_view after rest now) 1 end
  ends_by_bye before middle after line answer written now is h watches put end (ended, same) rest =
      subst (λ (e : CountedEnd). IsCountedSession listed desk
      (session_view before (prepend_known (line ++ line_end ∷ []) rest) written) (session_view after rest now) 1 e) (sym ended)
      (bye_ends before middle after line answer written now is h watches put same rest)

  pub ends_by_cut : (before middle after : Seen) (line : List ℕ) (answer : Reply) (written now : Option (List ℕ))
      → IsLine line → IsAnswered listed desk before middle (message_of line) answer → Watches middle after
      → AppendsPrefix written now (text_of listed middle.journal answer)
      → (rest : Option (List ℕ)) → IsCountedSession listed desk (session_view before (prepend_known (line ++ line_end ∷ []) rest) written) (session_view after rest now) 1 (counted_end WriteFault 1)
  ends_by_cut before middle after line answer written now is h watches (bytes, put) rest =
      let one : LineExchange = record { line = line; came = h.came } in
      record {
        session = record {
          exchanges = one ∷ [];
          answered = answered_line before middle after line answer h watches;
          lines = All-cons IsLine line [] is (All-nil IsLine);
          taken = [];
          takes = refl;
          read = ap (λ (l : List ℕ). prepend_known l rest) (sym (append-nil (line ++ line_end ∷ [])));
          put = (
            Bye,
            record {
              earlier = [];
              last = text_of listed after.journal (reply_of one);
              whole = refl;
              bytes = bytes;
              out = subst (λ (l : List ℕ). Appends written now (take bytes l)) (one_text before middle after line answer h watches) put;
            },
          );
          ends = (
            elim (bye_or_not (message_of line)) [
              | inl bye ↦ inr (last_bye line bye)
              | inr other ↦ inl (All-cons (λ line. message_of line ≢ Some message.Bye) line [] other (All-nil (λ line. message_of line ≢ Some message.Bye)))
            ],
            omega arith,
          );
        };
        replies = refl;
      }

  pub ends_by_memory : (before after : Seen) (line : List ℕ) (written : Option (List ℕ)) → IsLine line → Watches before after
      → (rest : Option (List ℕ)) → IsCountedSession listed desk (session_view before (prepend_known (line ++ line_end ∷ []) rest) written) (session_view after rest written) 1 (counted_end NoMemory 0)
  ends_by_memory before after line written is watches rest =
      ends_unanswered before after (prepend_known (line ++ line_end ∷ []) rest) rest written written 1 NoMemory (line ++ line_end ∷ []) watches
      (line, is, refl) refl (Appends-nil written) (All-nil (λ line. message_of line ≢ Some message.Bye), omega arith)

  -- ---- refusals
  refused_put : (end : SessionEnd) (written now : Option (List ℕ)) (line : List ℕ) → refusals end ≡ line ∷ [] → Appends written now line
      → IsWritten end written now [] × EndTakes end []
  refused_put LineTooLong written now line is put =
      (subst (λ (texts : List (List ℕ)). Appends written now (concat texts)) (sym is) (subst (λ (bytes : List ℕ). Appends written now bytes) (sym (append-nil line)) put), refl)
  refused_put Messages written now line is put =
      (subst (λ (texts : List (List ℕ)). Appends written now (concat texts)) (sym is) (subst (λ (bytes : List ℕ). Appends written now bytes) (sym (append-nil line)) put), refl)
  refused_put Bye written now line is put = absurd (cc)
  refused_put EndOfInput written now line is put = absurd (cc)
  refused_put ReadFault written now line is put = absurd (cc)
  refused_put WriteFault written now line is put = absurd (cc)
  refused_put NoMemory written now line is put = absurd (cc)

  -- the line of a refusal was written
  pub ends_refused : (before after : Seen) (ahead written now : Option (List ℕ)) (most : ℕ) (end : SessionEnd) (line : List ℕ)
      → Watches before after → refusals end ≡ line ∷ [] → Appends written now line → EndsAfter most end []
      → IsCountedSession listed desk (session_view before ahead written) (session_view after ahead now) most (counted_end end 0)
  ends_refused before after ahead written now most end line watches is put ends =
      let both : IsWritten end written now [] × EndTakes end [] = refused_put end written now line is put in
      ends_unanswered before after ahead ahead written now most end [] watches both.1 (takes_none ahead) both.0 ends

  -- the sink failed at the line of a refusal
  pub ends_by_refusal : (before after : Seen) (ahead written now : Option (List ℕ)) (most : ℕ) (end : SessionEnd) (line : List ℕ)
      → Watches before after → refusals end ≡ line ∷ [] → AppendsPrefix written now line
      → IsCountedSession listed desk (session_view before ahead written) (session_view after ahead now) most (counted_end WriteFault 0)
  ends_by_refusal before after ahead written now most end line watches is (bytes, put) =
      ends_unanswered before after ahead ahead written now most WriteFault [] watches refl (takes_none ahead)
      (end, record { earlier = []; last = line; whole = is; bytes = bytes; out = put })
      (inl (All-nil (λ line. message_of line ≢ Some message.Bye)), omega arith)

  -- ---- where no line comes
  -- input ended within a line
  pub ends_by_piece : (seen : Seen) (lines : LinesView) (before now written : Option (List ℕ)) → lines.longest ≡ MAX_LINE → GivesPiece lines before now
      → IsCountedSession listed desk (session_view seen before written) (session_view seen now written) 1 (counted_end EndOfInput 0)
  ends_by_piece seen lines before now written longest h =
      ends_unanswered seen seen before now written written 1 EndOfInput lines.line (not_begun listed desk seen)
      (subst (λ n. length lines.line ≤ n) longest h.fits, h.unbroken) h.told (Appends-nil written)
      (All-nil (λ line. message_of line ≢ Some message.Bye), omega arith)

  -- input ended
  pub ends_by_end : (seen : Seen) (lines : LinesView) (before now written : Option (List ℕ)) → GivesEnd lines before now
      → IsCountedSession listed desk (session_view seen before written) (session_view seen now written) 1 (counted_end EndOfInput 0)
  ends_by_end seen lines before now written h =
      ends_unanswered seen seen before now written written 1 EndOfInput [] (not_begun listed desk seen)
      (omega arith, All-nil (λ byte. byte ≢ line_end)) (subst (λ (told : Option (List ℕ)). Takes told now []) h.same (takes_none now)) (Appends-nil written)
      (All-nil (λ line. message_of line ≢ Some message.Bye), omega arith)

  -- the source failed
  pub ends_by_read : (seen : Seen) (lines : LinesView) (before now written : Option (List ℕ)) → GivesFault lines before now
      → IsCountedSession listed desk (session_view seen before written) (session_view seen now written) 1 (counted_end ReadFault 0)
  ends_by_read seen lines before now written h =
      ends_unanswered seen seen before now written written 1 ReadFault [] (not_begun listed desk seen)
      refl (subst (λ (told : Option (List ℕ)). Takes told now []) h.same (takes_none now)) (Appends-nil written)
      (All-nil (λ line. message_of line ≢ Some message.Bye), omega arith)
