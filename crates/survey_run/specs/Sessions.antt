-- Sessions of a script, and what came of their messages.
use Rattle.std.specs.Prelude.{◌≡◌, ℕ, ◌==◌, List, ◌∷◌, map, filter, flat_map, Option}
use Rattle.json_forms.specs.declared.messages.Message.{Message}
use Rattle.json_forms.specs.declared.replies.Reply.{Reply}
use Rattle.json_forms.specs.declared.replies.Reply.TheVariants.{Welcome}
use Rattle.session_protocol.specs.Exchanges.{asked_by, reply_by}
use Rattle.survey_replies.specs.Outcomes.{Outcome, Exchange}
use Rattle.survey_script.specs.ScriptViews.{ScriptSessionView}

-- the message that a line is, if it is one, and what came of its request
pub record MessageRun : Type 0 where
  pub message : Option Message
  pub came : Outcome

-- what the message asks, and what came of it
abbrev pub message_exchange : MessageRun → Exchange
message_exchange one = record { request = asked_by one.message; reply = one.came }

-- the reply to the message
abbrev pub message_reply : MessageRun → Reply
message_reply one = reply_by one.message one.came

-- what was asked, and what came of it
abbrev pub message_exchanges : List MessageRun → List Exchange
message_exchanges messages = map message_exchange messages

-- a session, with what came of each of its messages
pub record SessionRun : Type 0 where
  pub respondent : ℕ
  pub desk : ℕ
  pub messages : List MessageRun

-- it is this session of a script
pub record IsRunOf (session : ScriptSessionView) (run : SessionRun) : Type 0 where
  pub respondent : run.respondent ≡ session.respondent
  pub desk : run.desk ≡ session.desk
  pub messages : map (λ one. one.message) run.messages ≡ session.messages

-- the replies to the lines of a session, where there is this number of classes: a welcome to the hello, and the reply to each message
abbrev pub replies_of : ℕ → SessionRun → List Reply
replies_of classes run = Welcome classes run.desk ∷ map message_reply run.messages

-- the sessions of a respondent, in input order
abbrev pub of_respondent : ℕ → List SessionRun → List SessionRun
of_respondent respondent runs = filter (λ run. run.respondent == respondent) runs

-- those of a desk
abbrev pub of_desk : ℕ → List SessionRun → List SessionRun
of_desk desk runs = filter (λ run. run.desk == desk) runs

-- all that was asked in these sessions, and what came of it, in input order
abbrev pub all_exchanges : List SessionRun → List Exchange
all_exchanges runs = flat_map (λ run. message_exchanges run.messages) runs
