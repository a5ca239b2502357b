-- Sessions: lines that come in, the exchange that each asks for, and the texts that go out.
use Rattle.std.specs.Prelude.{◌≡◌, ◌≢◌, ◌⊎◌, ℕ, ◌+◌, ◌<◌, ◌≤◌, List, [], ◌∷◌, ◌++◌, length, map, take, All, Option, Some}
use Rattle.std.specs.List.{concat}
use Rattle.edges.specs.Line.{HasNoLineEnd, line_end, unlines}
use Rattle.edges.specs.Told.{Appends, Takes}
use Rattle.pair_enumeration.specs.Listed.{Listed}
use Rattle.survey_core.specs.declared.events.Event.{Event}
use Rattle.survey_replies.specs.Outcomes.{Outcome, Exchange}
use Rattle.survey_replies.specs.Calls.{Seen, Conversation}
use Rattle.json_forms.specs.Messages.{message_of}
use Rattle.json_forms.specs.Replies.{IsWritable, json_line, refused_json, reply_text}
use Rattle.json_forms.specs.declared.messages.Message.TheVariants as message
use Rattle.json_forms.specs.declared.replies.Reply.{Reply}
use Rattle.json_forms.specs.declared.replies.Reply.TheVariants.{Result}
use Rattle.json_forms.specs.declared.replies.Word.TheVariants as word
use Rattle.result_file.specs.Files.{file_text, result_of}
use Rattle.result_file.specs.declared.limits.TheConstants.{MAX_LINE}
use Rattle.session_protocol.specs.declared.sessions.CountedEnd.{CountedEnd}
use Rattle.session_protocol.specs.declared.sessions.SessionEnd.{SessionEnd}
use Rattle.session_protocol.specs.declared.sessions.SessionEnd.TheVariants.{Bye, EndOfInput, LineTooLong, Messages, WriteFault, NoMemory}
use Rattle.session_protocol.specs.Exchanges.{asked_by, reply_by}

-- a line, and what came of its request
pub record LineExchange : Type 0 where
  pub line : List ℕ
  pub came : Outcome

-- what the line asks, and what came of it
abbrev pub exchange_of : LineExchange → Exchange
exchange_of one = record { request = asked_by (message_of one.line); reply = one.came }

-- the reply to the line
abbrev pub reply_of : LineExchange → Reply
reply_of one = reply_by (message_of one.line) one.came

-- the text of a reply: that of `result` is the file of the journal's first events
abbrev pub text_of : Listed → List Event → Reply → List ℕ
text_of listed journal (Result count) = file_text (result_of listed (take count journal))
text_of listed journal reply = reply_text listed.criteria.levels reply

-- the reply can be written when the journal is this: values have a vector of the model, and a result is of no more events
pub record CanBeWritten (listed : Listed) (journal : List Event) (reply : Reply) : Type 0 where
  pub writable : IsWritable listed.criteria.levels reply
  pub within : (count : ℕ) → reply ≡ Result count → count ≤ length journal

-- lines that are answered one after another, each by one exchange with the respondent
abbrev pub AnswersLines : Listed → ℕ → Seen → Seen → List LineExchange → Type 0
AnswersLines listed desk before after exchanges = Conversation listed desk before after (map exchange_of exchanges)

-- the lines
abbrev pub exchange_lines : List LineExchange → List (List ℕ)
exchange_lines exchanges = map (λ one. one.line) exchanges

-- the texts of their replies, in a journal that begins with the one seen: the first events are the same, so is the text of a result
abbrev pub texts_of : Listed → List Event → List LineExchange → List (List ℕ)
texts_of listed journal exchanges = map (λ one. text_of listed journal (reply_of one)) exchanges

-- a line as it comes: no longer than the longest, without its line end
abbrev pub IsLine : List ℕ → Type 0
IsLine line = (length line ≤ MAX_LINE) × HasNoLineEnd line

-- more bytes than the longest line has, without a line end
abbrev pub IsOverlong : List ℕ → Type 0
IsOverlong text = (MAX_LINE < length text) × HasNoLineEnd (take (MAX_LINE + 1) text)

-- no line is a bye
abbrev pub HasNoBye : List (List ℕ) → Type 0
HasNoBye lines = All (λ line. message_of line ≢ Some message.Bye) lines

-- the last line is a bye, and no other is
pub record EndsWithBye (lines : List (List ℕ)) : Type 0 where
  pub earlier : List (List ℕ)
  pub last : List ℕ
  pub whole : lines ≡ earlier ++ last ∷ []
  pub no_bye : HasNoBye earlier
  pub bye : message_of last ≡ Some message.Bye

-- where at most this number of messages is answered: the lines after which a session comes to the end
abbrev pub EndsAfter : ℕ → SessionEnd → List (List ℕ) → Type 0
EndsAfter most Bye lines = EndsWithBye lines × (length lines ≤ most)
EndsAfter most Messages lines = HasNoBye lines × (length lines ≡ most)
EndsAfter most WriteFault lines = (HasNoBye lines ⊎ EndsWithBye lines) × (length lines ≤ most)
EndsAfter most _ lines = HasNoBye lines × (length lines < most)

-- what the end takes of the text beside these lines: a piece that no line end follows, the line that there was no memory for, or
-- nothing
abbrev pub EndTakes : SessionEnd → List ℕ → Type 0
EndTakes EndOfInput taken = IsLine taken
EndTakes NoMemory taken = (line : List ℕ) × IsLine line × (taken ≡ line ++ line_end ∷ [])
EndTakes _ taken = taken ≡ []

-- the line that is written before the end, beside the replies
abbrev pub refusals : SessionEnd → List (List ℕ)
refusals LineTooLong = json_line (refused_json word.Line) ∷ []
refusals Messages = json_line (refused_json word.Messages) ∷ []
refusals _ = []

-- all texts but the last were appended, and some first bytes of the last
pub record AppendsCut (before now : Option (List ℕ)) (texts : List (List ℕ)) : Type 0 where
  pub earlier : List (List ℕ)
  pub last : List ℕ
  pub whole : texts ≡ earlier ++ last ∷ []
  pub bytes : ℕ
  pub out : Appends before now (concat earlier ++ take bytes last)

-- what is written up to the end, where these are the texts of the replies: where the sink fails, what it failed at is cut
abbrev pub IsWritten : SessionEnd → Option (List ℕ) → Option (List ℕ) → List (List ℕ) → Type 0
IsWritten WriteFault before now texts = (end : SessionEnd) × AppendsCut before now (texts ++ refusals end)
IsWritten end before now texts = Appends before now (concat (texts ++ refusals end))

-- what a session sees: the journal, and where they are known the text that lies ahead and what was written
pub record SessionView : Type 0 where
  pub seen : Seen
  pub ahead : Option (List ℕ)
  pub written : Option (List ℕ)

abbrev pub session_view : Seen → Option (List ℕ) → Option (List ℕ) → SessionView
session_view seen ahead written = record { seen = seen; ahead = ahead; written = written }

-- a session that comes to its end: the lines that were answered, from the front of the text that lay ahead
pub record IsSession (listed : Listed) (desk : ℕ) (before after : SessionView) (most : ℕ) (end : SessionEnd) : Type 0 where
  pub exchanges : List LineExchange
  pub answered : AnswersLines listed desk before.seen after.seen exchanges
  pub lines : All IsLine (exchange_lines exchanges)
  pub taken : List ℕ
  pub takes : EndTakes end taken
  pub read : Takes before.ahead after.ahead (unlines (exchange_lines exchanges) ++ taken)
  pub put : IsWritten end before.written after.written (texts_of listed after.seen.journal exchanges)
  pub ends : EndsAfter most end (exchange_lines exchanges)

-- the same, with the number of replies: one to each of these lines
pub record IsCountedSession (listed : Listed) (desk : ℕ) (before after : SessionView) (most : ℕ) (counted : CountedEnd) : Type 0 where
  pub session : IsSession listed desk before after most counted.end
  pub replies : counted.replies ≡ length session.exchanges

-- an end that a whole line can bring
abbrev pub IsEndAtLine : SessionEnd → Type 0
IsEndAtLine Bye = Unit {0}
IsEndAtLine WriteFault = Unit {0}
IsEndAtLine NoMemory = Unit {0}
IsEndAtLine _ = ⊥

-- a session that goes on after some messages
pub record SessionGoesOn (listed : Listed) (desk : ℕ) (before after : SessionView) (count : ℕ) : Type 0 where
  pub exchanges : List LineExchange
  pub answered : AnswersLines listed desk before.seen after.seen exchanges
  pub lines : All IsLine (exchange_lines exchanges)
  pub read : Takes before.ahead after.ahead (unlines (exchange_lines exchanges))
  pub put : Appends before.written after.written (concat (texts_of listed after.seen.journal exchanges))
  pub no_bye : HasNoBye (exchange_lines exchanges)
  pub counted : length exchanges ≡ count
