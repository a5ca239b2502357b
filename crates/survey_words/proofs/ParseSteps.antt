-- What one word does to the parser of command lines.
use Rattle.std.proofs.Common.{◌≡◌, ℕ, Bool, true, false, List, [], ◌∷◌, ◌++◌, Option, Some, None, refl, codes, ◌&&◌}
use Rattle.clap.specs.Kinds.{Kinds, or_else}
use Rattle.clap.specs.Values.{reading_of}
use Rattle.clap.specs.Walk.{Held, Walk, Waiting, idle, option, Row, Rule, Text, walked, settled, settled_rows, with_values, without}
use Rattle.clap.specs.Faults.{turn_fault, settle_fault, repeat_fault}
use Rattle.clap.specs.Simple.{Shape, built}
use Rattle.clap.specs.declared.builder.value_parser.ValueParser.TheVariants as vp
use Rattle.clap.specs.declared.parser.matches.ValueSource.TheVariants.{CommandLine}
use Rattle.clap.specs.declared.error.kind.ErrorKind.TheVariants as kind
use Rattle.survey_words.specs.Items.{is_hyphened}
use Rattle.survey_words.specs.Parsed.{simple_command}

-- the command as it is built
abbrev pub top : Shape
top = (built simple_command).top

abbrev pub rules : List Rule
rules = top.rules

-- the options
pub data Name : Type 0 where
  of_eliminators : Name
  of_connections : Name
  of_sample : Name
  of_shape : Name

abbrev pub id_of : Name → Text
id_of of_eliminators = codes "eliminators"
id_of of_connections = codes "connections"
id_of of_sample = codes "sample"
id_of of_shape = codes "shape"

abbrev pub name_of : Name → Text
name_of of_eliminators = codes "--eliminators"
name_of of_connections = codes "--connections"
name_of of_sample = codes "--sample"
name_of of_shape = codes "--shape"

-- an option with its value in one word
abbrev pub joined_word : Name → Text → Text
joined_word name value = name_of name ++ (61 ∷ value)

abbrev pub held : List Row → Option (Text × List Text) → ℕ → Held
held rows pending skip = record { rows = rows; pending = pending; skip = skip }

abbrev pub at : Held → Waiting → ℕ → Walk
at h waiting position = record { held = h; waiting = waiting; position = position; is_trailing = false; stopped = None }

abbrev pub settling : Held → Kinds
settling h = settle_fault rules false h

-- the rows with one more value
abbrev pub put_row : Text → Text → List Row → List Row
put_row id value rows = with_values id (reading_of vp.String) CommandLine (value ∷ []) (without id rows)

-- the fault of a value that isn't the first
abbrev pub again : Text → List Row → Kinds
again id rows = or_else (repeat_fault false id rows) []

pub name_met : (name : Name) (h : Held) (position : ℕ) → turn_fault top [] (at h idle position) (name_of name) ≡ or_else (settling h) []
name_met of_eliminators h position = refl
name_met of_connections h position = refl
name_met of_sample h position = refl
name_met of_shape h position = refl

pub name_met_late : (name : Name) (h : Held) (position : ℕ) (id : Text) → turn_fault top [] (at h (option id) position) (name_of name) ≡ or_else (settling h) []
name_met_late of_eliminators h position id = refl
name_met_late of_connections h position id = refl
name_met_late of_sample h position id = refl
name_met_late of_shape h position id = refl

pub joined_met : (name : Name) (value : Text) (h : Held) (position : ℕ)
    → turn_fault top [] (at h idle position) (joined_word name value) ≡ or_else (or_else (settling h) (again (id_of name) (settled rules h).rows)) []
joined_met of_eliminators value h position = refl
joined_met of_connections value h position = refl
joined_met of_sample value h position = refl
joined_met of_shape value h position = refl

pub joined_met_late : (name : Name) (value : Text) (h : Held) (position : ℕ) (id : Text)
    → turn_fault top [] (at h (option id) position) (joined_word name value) ≡ or_else (or_else (settling h) (again (id_of name) (settled rules h).rows)) []
joined_met_late of_eliminators value h position id = refl
joined_met_late of_connections value h position id = refl
joined_met_late of_sample value h position id = refl
joined_met_late of_shape value h position id = refl

pub after_name : (name : Name) (h : Held) (position : ℕ)
    → walked rules [] (at h idle position) (name_of name) ≡ at (held (settled rules h).rows (Some (id_of name, [])) h.skip) (option (id_of name)) position
unfolding walked
after_name of_eliminators h position = refl
after_name of_connections h position = refl
after_name of_sample h position = refl
after_name of_shape h position = refl

pub after_joined : (name : Name) (value : Text) (h : Held) (position : ℕ)
    → walked rules [] (at h idle position) (joined_word name value) ≡ at (held (put_row (id_of name) value (settled rules h).rows) None h.skip) idle position
unfolding walked
after_joined of_eliminators value h position = refl
after_joined of_connections value h position = refl
after_joined of_sample value h position = refl
after_joined of_shape value h position = refl

-- a value that waits to be used
pub settling_value : (name : Name) (rows : List Row) (value : Text) (skip : ℕ) → settling (held rows (Some (id_of name, value ∷ [])) skip) ≡ again (id_of name) rows
settling_value of_eliminators rows value skip = refl
settling_value of_connections rows value skip = refl
settling_value of_sample rows value skip = refl
settling_value of_shape rows value skip = refl

pub settling_port : (rows : List Row) (value : Text) (skip : ℕ) → settling (held rows (Some (codes "port", value ∷ [])) skip) ≡ again (codes "port") rows
settling_port rows value skip = refl

pub settled_value : (name : Name) (rows : List Row) (value : Text) → settled_rows rules (Some (id_of name, value ∷ [])) rows ≡ put_row (id_of name) value rows
settled_value of_eliminators rows value = refl
settled_value of_connections rows value = refl
settled_value of_sample rows value = refl
settled_value of_shape rows value = refl

pub settled_port : (rows : List Row) (value : Text) → settled_rows rules (Some (codes "port", value ∷ [])) rows ≡ put_row (codes "port") value rows
settled_port rows value = refl

-- an option whose value is missing
pub settling_none : (name : Name) (rows : List Row) (skip : ℕ) → settling (held rows (Some (id_of name, [])) skip) ≡ kind.InvalidValue ∷ []
settling_none of_eliminators rows skip = refl
settling_none of_connections rows skip = refl
settling_none of_sample rows skip = refl
settling_none of_shape rows skip = refl

and_false : (b : Bool) → b && false ≡ false
and_false true = refl
and_false false = refl

-- a value after its option
pub value_met : (name : Name) (rows : List Row) (position skip : ℕ) (word : Text) → is_hyphened word ≡ false
    → turn_fault top [] (at (held rows (Some (id_of name, [])) skip) (option (id_of name)) position) word ≡ []
value_met name rows position skip [] plain = refl
value_met name rows position skip (byte ∷ word) plain = simp plain refl

pub after_value : (name : Name) (rows : List Row) (position skip : ℕ) (word : Text) → is_hyphened word ≡ false
    → walked rules [] (at (held rows (Some (id_of name, [])) skip) (option (id_of name)) position) word
    ≡ at (held rows (Some (id_of name, word ∷ [])) skip) idle position
unfolding walked
after_value of_eliminators rows position skip [] plain = refl
after_value of_connections rows position skip [] plain = refl
after_value of_sample rows position skip [] plain = refl
after_value of_shape rows position skip [] plain = refl
after_value of_eliminators rows position skip (byte ∷ word) plain = simp plain refl
after_value of_connections rows position skip (byte ∷ word) plain = simp plain refl
after_value of_sample rows position skip (byte ∷ word) plain = simp plain refl
after_value of_shape rows position skip (byte ∷ word) plain = simp plain refl

-- a plain word
pub plain_met : (word : Text) (h : Held) → is_hyphened word ≡ false → turn_fault top [] (at h idle 1) word ≡ settling h
plain_met [] h plain = simp and_false refl
plain_met (byte ∷ word) h plain = simp (plain, and_false) refl

pub plain_met_late : (word : Text) (h : Held) → is_hyphened word ≡ false → turn_fault top [] (at h idle 2) word ≡ kind.UnknownArgument ∷ []
plain_met_late [] h plain = refl
plain_met_late (byte ∷ word) h plain = simp plain refl

pub after_plain : (word : Text) (h : Held) → is_hyphened word ≡ false
    → walked rules [] (at h idle 1) word ≡ at (held (settled rules h).rows (Some (codes "port", word ∷ [])) h.skip) idle 2
unfolding walked
after_plain [] h plain = simp and_false refl
after_plain (byte ∷ word) h plain = simp (plain, and_false) refl
