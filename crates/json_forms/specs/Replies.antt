-- What a reply says as a JSON value. Its line is the value's compact text and a line end.
use Rattle.std.specs.Prelude.{ℕ, ◌-◌, List, [], ◌∷◌, ◌++◌, length, map, slice_index, codes, true, ℤ}
use Rattle.std.specs.List.{range_with_len}
use Rattle.serde_json.specs.Data.{Data, boolean, string}
use Rattle.serde_json.specs.Written.{compact_text}
use Rattle.edges.specs.Line.{line_end}
use Rattle.criteria_model.specs.declared.pairs.Pair.{Pair}
use Rattle.criteria_model.specs.declared.pairs.Side.{Side}
use Rattle.criteria_model.specs.Worth.{IsValueVector}
use Rattle.farkas_check.specs.declared.combination.Combination.{Combination}
use Rattle.part_worths.specs.Apportionment.{shares_of}
use Rattle.part_worths.specs.Values.{value_of_level, best_values}
use Rattle.survey_replies.specs.declared.replies.NextReply.{NextReply}
use Rattle.survey_replies.specs.declared.replies.NextReply.TheVariants.{Question, Full, Waiting, Complete}
use Rattle.survey_replies.specs.declared.replies.AnswerReply.{AnswerReply}
use Rattle.survey_replies.specs.declared.replies.AnswerReply.TheVariants.{Accepted, Unknown, Closed, Implied}
use Rattle.survey_replies.specs.declared.replies.ValuesReply.{ValuesReply}
use Rattle.survey_replies.specs.declared.replies.ValuesReply.TheVariants.{Values as TheValues, Incomplete}
use Rattle.survey_replies.specs.declared.replies.WithdrawReply.{WithdrawReply}
use Rattle.survey_replies.specs.declared.replies.WithdrawReply.TheVariants.{Withdrawn, Nothing, Spent}
use Rattle.json_forms.specs.declared.replies.Reply.{Reply}
use Rattle.json_forms.specs.declared.replies.Reply.TheVariants.{Welcome, Next, Answer, Values, Withdraw, Result, Bye, Refused}
use Rattle.json_forms.specs.declared.replies.Word.{Word}
use Rattle.json_forms.specs.declared.replies.Word.TheVariants.{Message, Hello, Name, Code, Desk, Line, Messages}
use Rattle.json_forms.specs.Json.{object_with, named, array_of, whole, certificate, cite_json}
use Rattle.json_forms.specs.Sides.{side_word}

-- the two sides of a pair
abbrev pub sides : Pair → List (List ℕ × Data)
sides pair = (codes "left", array_of whole pair.left) ∷ (codes "right", array_of whole pair.right) ∷ []

-- a combination's scale, the increments' weights and the cited answers
abbrev pub combination_json : Combination → Data
combination_json combination = object_with (
    (codes "scale", certificate combination.scale)
    ∷ (codes "increments", array_of certificate combination.increments)
    ∷ (codes "answers", array_of cite_json combination.answers) ∷ [])

-- the value of each level of a criterion, from the lowest
abbrev pub level_values : List ℕ → List ℤ → ℕ → List ℤ
level_values levels vector criterion = map (value_of_level levels vector criterion) (range_with_len 1 (slice_index levels (criterion - 1)))

-- that, criterion by criterion
abbrev pub level_values_json : List ℕ → List ℤ → Data
level_values_json levels vector = array_of (λ criterion. array_of certificate (level_values levels vector criterion)) (range_with_len 1 (length levels))

-- a vector, the values of all levels by it, and the weights of the criteria
abbrev pub vector_json : List ℕ → List ℤ → Data
vector_json levels vector = object_with (
    (codes "vector", array_of certificate vector)
    ∷ (codes "levels", level_values_json levels vector)
    ∷ (codes "weights", array_of whole (shares_of (best_values levels vector))) ∷ [])

-- a question's number, and the sides of its class
abbrev pub question_json : ℕ → Pair → Data
question_json count pair = named (codes "question") (object_with ((codes "number", whole count) ∷ sides pair))

abbrev pub next_json : NextReply → Data
next_json (Question at count place pair) = question_json count pair
next_json (Full at) = named (codes "full") (boolean true)
next_json (Waiting at place plus minus) = named (codes "waiting") (boolean true)
next_json (Complete at) = named (codes "complete") (boolean true)

-- a question's number, the verdict on its class, and the combination that proves it
abbrev pub implied_json : ℕ → Side → Combination → Data
implied_json question verdict combination = named (codes "implied") (object_with (
    (codes "question", whole question)
    ∷ (codes "verdict", string (side_word verdict))
    ∷ (codes "combination", combination_json combination) ∷ []))

abbrev pub answer_json : AnswerReply → Data
answer_json (Accepted at question) = named (codes "accepted") (whole question)
answer_json (Unknown at question) = named (codes "unknown") (whole question)
answer_json (Closed at question) = named (codes "closed") (whole question)
answer_json (Implied at question verdict combination) = implied_json question verdict combination

-- the sides of a class
abbrev pub incomplete_json : Pair → Data
incomplete_json pair = named (codes "incomplete") (object_with (sides pair))

abbrev pub values_json : List ℕ → ValuesReply → Data
values_json levels (TheValues at vector) = named (codes "values") (vector_json levels vector)
values_json levels (Incomplete at place pair plus minus) = incomplete_json pair

-- the numbers of an answer and of its question
abbrev pub withdrawn_json : ℕ → ℕ → Data
withdrawn_json answer question = named (codes "withdrawn") (object_with ((codes "answer", whole answer) ∷ (codes "question", whole question) ∷ []))

abbrev pub withdraw_json : WithdrawReply → Data
withdraw_json (Withdrawn at answer question) = withdrawn_json answer question
withdraw_json (Nothing at) = named (codes "nothing") (boolean true)
withdraw_json (Spent at) = named (codes "spent") (boolean true)

-- the word of a refusal
abbrev pub word_text : Word → List ℕ
word_text Message = codes "message"
word_text Hello = codes "hello"
word_text Name = codes "name"
word_text Code = codes "code"
word_text Desk = codes "desk"
word_text Line = codes "line"
word_text Messages = codes "messages"

abbrev pub refused_json : Word → Data
refused_json word = named (codes "refused") (string (word_text word))

-- the number of the model's classes, and the desk
abbrev pub welcome_json : ℕ → ℕ → Data
welcome_json classes desk = named (codes "welcome") (object_with ((codes "classes", whole classes) ∷ (codes "desk", whole desk) ∷ []))

-- the line of a JSON value
abbrev pub json_line : Data → List ℕ
json_line d = compact_text d ++ line_end ∷ []

-- what is written for a reply, by the level counts of the model; the reply to `result` isn't written here
abbrev pub reply_text : List ℕ → Reply → List ℕ
reply_text levels (Welcome classes desk) = json_line (welcome_json classes desk)
reply_text levels (Next reply) = json_line (next_json reply)
reply_text levels (Answer reply) = json_line (answer_json reply)
reply_text levels (Values reply) = json_line (values_json levels reply)
reply_text levels (Withdraw reply) = json_line (withdraw_json reply)
reply_text levels (Result length) = []
reply_text levels Bye = json_line (named (codes "bye") (boolean true))
reply_text levels (Refused word) = json_line (refused_json word)

-- values have a vector of the model
abbrev pub HasVector : List ℕ → ValuesReply → Type 0
HasVector levels (TheValues at vector) = IsValueVector levels vector
HasVector levels (Incomplete at place pair plus minus) = Unit {0}

-- the same of a reply, where it has values
abbrev pub IsWritable : List ℕ → Reply → Type 0
IsWritable levels (Welcome classes desk) = Unit {0}
IsWritable levels (Next reply) = Unit {0}
IsWritable levels (Answer reply) = Unit {0}
IsWritable levels (Values reply) = HasVector levels reply
IsWritable levels (Withdraw reply) = Unit {0}
IsWritable levels (Result length) = Unit {0}
IsWritable levels Bye = Unit {0}
IsWritable levels (Refused word) = Unit {0}
