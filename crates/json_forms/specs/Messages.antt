-- Which message a line is.
use Rattle.std.specs.Prelude.{ℕ, ◌^◌, nat_lt, List, codes, bytes_eq, if◌then◌else◌, Option, Some, None, option_map}
use Rattle.serde_json.specs.Data.{Data}
use Rattle.serde_json.specs.Find.{as_str}
use Rattle.json_forms.specs.declared.messages.Message.{Message}
use Rattle.json_forms.specs.declared.messages.Message.TheVariants.{Hello, Next, Answer, Values, Withdraw, Result, Bye}
use Rattle.json_forms.specs.Members.{◌>>=◌, json_of, text_at, whole_at, single_member}
use Rattle.json_forms.specs.HelloView.{HelloView}
use Rattle.json_forms.specs.Sides.{side_of}

-- what is asked by this word
abbrev pub request_of : List ℕ → Option Message
request_of word =
    if bytes_eq word (codes "next") then Some Next else
    if bytes_eq word (codes "values") then Some Values else
    if bytes_eq word (codes "withdraw") then Some Withdraw else
    if bytes_eq word (codes "result") then Some Result else
    if bytes_eq word (codes "bye") then Some Bye else
    None

-- a number below 2^32
abbrev pub question_of : ℕ → Option ℕ
question_of n = if nat_lt n (2 ^ 32) then Some n else None

-- exactly a name, a code and a desk
abbrev pub hello_in : Data → Option HelloView
hello_in d =
    text_at 3 (codes "name") d >>= λ name. text_at 3 (codes "code") d >>= λ code. whole_at 3 (codes "desk") d >>= λ desk.
    Some (record { name = name; code = code; desk = desk })

-- exactly a question and a side
abbrev pub answer_in : Data → Option Message
answer_in d =
    whole_at 2 (codes "question") d >>= question_of >>= λ question. text_at 2 (codes "side") d >>= side_of >>= λ side.
    Some (Answer question side)

-- the message whose only member has this name and value
abbrev pub message_named : List ℕ → Data → Option Message
message_named name d =
    if bytes_eq name (codes "hello") then option_map Hello (hello_in d) else
    if bytes_eq name (codes "answer") then answer_in d else
    if bytes_eq name (codes "ask") then (as_str d >>= request_of) else
    None

-- an object with exactly one member, which is of one of the forms
abbrev pub message_in : Data → Option Message
message_in d = single_member d >>= λ (name, inner). message_named name inner

-- the message that the line is
abbrev pub message_of : List ℕ → Option Message
message_of line = json_of line >>= message_in
