-- What the parser of command lines finds is what the words say.
use Rattle.std.proofs.Common.{◌≡◌, ◌⊎◌, ℕ, Bool, true, false, not, List, [], ◌∷◌, ◌++◌, Option, Some, None, refl, ap, sym, ◌∙◌, subst, codes, fold, option_map, ◌||◌, ◌==◌, if◌then◌else◌, MatchOption, inl, inr, arith}
use Rattle.std.specs.List.{list_all}
use Rattle.std.proofs.lemmas.List.{append-nil}
use Rattle.std.proofs.lemmas.Bool.Decides.{nat_tests}
use Rattle.clap.specs.Kinds.{Kinds, or_else}
use Rattle.clap.specs.Walk.{Held, Walk, idle, option, Row, Text, walked, settled, has_row, first_of}
use Rattle.clap.specs.Faults.{turn_fault, walk_fault}
use Rattle.clap.specs.declared.error.kind.ErrorKind.{ErrorKind}
use Rattle.clap.specs.declared.error.kind.ErrorKind.TheVariants as kind
use Rattle.text_fields.specs.Reading.{◌>>=◌, read_word}
use Rattle.text_fields.proofs.WordLaws.{word_field}
use Rattle.survey_words.specs.Items.{Item, OptionTexts, is_hyphened, is_spelled, has_name, ends_name, cut, item_of, item_then, items_after, with_item, with_items, options_after}
use Rattle.survey_words.specs.Parsed.{texts_found}
use Rattle.survey_words.proofs.ParseSteps.{Name, of_eliminators, of_connections, of_sample, of_shape, id_of, name_of, joined_word, top, rules, held, at, settling, put_row, again, name_met, name_met_late, joined_met, joined_met_late, after_name, after_joined, settling_value, settling_port, settled_value, settled_port, settling_none, value_met, after_value, plain_met, plain_met_late, after_plain}
use Rattle.survey_words.proofs.RowLemmas.{both, has_value, absent, present, full_put, port_put, option_put, port_again, option_again, same_in, port_same}

-- ---- the words

data Spelled (word : Text) : Type 0 where
  as_plain : is_hyphened word ≡ false → Spelled word
  as_name : (name : Name) → word ≡ name_of name → Spelled word
  as_joined : (name : Name) (value : Text) → word ≡ joined_word name value → Spelled word

named : (word : Text) (name : Name) → has_name word (name_of name) ≡ true → Spelled word
named word name has = go (read_word (name_of name) word) refl
  where
    go : (found : Option (Unit {0} × List ℕ)) → read_word (name_of name) word ≡ found → Spelled word
    go None is =
        let no : has_name word (name_of name) ≡ false = ap ends_name is in
        cc
    go (Some (read, [])) is = as_name name (((word_field (name_of name)).takes word read [] is).0 ∙ append-nil (name_of name))
    go (Some (read, byte ∷ rest)) is =
        let sign : (byte == 61) ≡ true = sym (ap ends_name is) ∙ has in
        let equals : byte ≡ 61 = grind (arith, nat_tests) in
        as_joined name rest (((word_field (name_of name)).takes word read (byte ∷ rest) is).0 ∙ ap (λ (b : ℕ). name_of name ++ (b ∷ rest)) equals)

either : (a b : Bool) → a || b ≡ true → (a ≡ true) ⊎ (b ≡ true)
either true b e = inl refl
either false b e = inr e

not_so : (b : Bool) → not b ≡ true → b ≡ false
not_so true e = cc
not_so false e = refl

spelled_so : (word : Text) → is_spelled word ≡ true → Spelled word
spelled_so word e = elim (either (not (is_hyphened word)) _ e) [
  | inl plain ↦ as_plain (not_so _ plain)
  | inr hyphened ↦ elim (either (has_name word (codes "--eliminators")) _ hyphened) [
    | inl first ↦ named word of_eliminators first
    | inr others ↦ elim (either (has_name word (codes "--connections")) _ others) [
      | inl second ↦ named word of_connections second
      | inr rest ↦ elim (either (has_name word (codes "--sample")) _ rest) [
        | inl third ↦ named word of_sample third
        | inr last ↦ named word of_shape last
      ]
    ]
  ]
]

-- ---- the items

-- the options after one more item and these words
abbrev added : Item → OptionTexts → List Text → Option OptionTexts
added item options words = with_item item options >>= λ now. options_after None now words

abbrev pub no_texts : Option OptionTexts
no_texts = None

abbrev no_items : Option (List Item)
no_items = None

none_then : (one : Option OptionTexts) → no_texts ≡ (one >>= λ (now : OptionTexts). no_texts)
none_then None = refl
none_then (Some now) = refl

item_first : (item : Item) (options : OptionTexts) (words : List Text)
    → (option_map (λ items. item ∷ items) (items_after None words) >>= λ items. with_items items options) ≡ added item options words
item_first item options words = go (items_after None words)
  where
    go : (items : Option (List Item))
        → (option_map (λ items. item ∷ items) items >>= λ items. with_items items options) ≡ (with_item item options >>= λ now. items >>= λ items. with_items items now)
    go None = none_then (with_item item options)
    go (Some items) = refl

item_plain : (word : Text) → is_hyphened word ≡ false → item_of word ≡ Some ([], word)
item_plain word plain = ap (λ (b : Bool). if b then cut word else Some ([], word)) plain

plain_first : (word : Text) (options : OptionTexts) (words : List Text) → is_hyphened word ≡ false → options_after None options (word ∷ words) ≡ added ([], word) options words
plain_first word options words plain =
    ap (λ (o : Option Item). item_then o (items_after None words) (items_after (Some word) words) >>= λ items. with_items items options) (item_plain word plain)
    ∙ item_first ([], word) options words

joined_first : (name : Name) (value : Text) (options : OptionTexts) (words : List Text) → options_after None options (joined_word name value ∷ words) ≡ added (name_of name, value) options words
joined_first of_eliminators value options words = item_first (codes "--eliminators", value) options words
joined_first of_connections value options words = item_first (codes "--connections", value) options words
joined_first of_sample value options words = item_first (codes "--sample", value) options words
joined_first of_shape value options words = item_first (codes "--shape", value) options words

name_first : (name : Name) (options : OptionTexts) (words : List Text) → options_after None options (name_of name ∷ words) ≡ options_after (Some (name_of name)) options words
name_first of_eliminators options words = refl
name_first of_connections options words = refl
name_first of_sample options words = refl
name_first of_shape options words = refl

value_first : (name word : Text) (options : OptionTexts) (words : List Text) → is_hyphened word ≡ false → options_after (Some name) options (word ∷ words) ≡ added (name, word) options words
value_first name word options words plain =
    ap (λ (b : Bool). (if b then no_items else option_map (λ items. (name, word) ∷ items) (items_after None words)) >>= λ items. with_items items options) plain
    ∙ item_first (name, word) options words

name_is_none : (waiting : Text) (name : Name) (options : OptionTexts) (words : List Text) → options_after (Some waiting) options (name_of name ∷ words) ≡ None
name_is_none waiting of_eliminators options words = refl
name_is_none waiting of_connections options words = refl
name_is_none waiting of_sample options words = refl
name_is_none waiting of_shape options words = refl

joined_is_none : (waiting : Text) (name : Name) (value : Text) (options : OptionTexts) (words : List Text) → options_after (Some waiting) options (joined_word name value ∷ words) ≡ None
joined_is_none waiting of_eliminators value options words = refl
joined_is_none waiting of_connections value options words = refl
joined_is_none waiting of_sample value options words = refl
joined_is_none waiting of_shape value options words = refl

-- ---- the walk

abbrev pub total : Walk → List Text → Kinds
total w words = or_else (walk_fault top [] w words) (settling (fold (walked rules []) w words).held)

abbrev pub rows_end : Walk → List Text → List Row
rows_end w words = (settled rules (fold (walked rules []) w words).held).rows

-- the walk fails where there are no options, and else finds them
abbrev pub Reads : Walk → List Text → Option OptionTexts → Type 0
Reads w words target = MatchOption target (total w words ≡ [] → ⊥) (λ options. (total w words ≡ []) × (texts_found (rows_end w words) ≡ options))

goes : (w after : Walk) (word : Text) (words : List Text) (target : Option OptionTexts) → turn_fault top [] w word ≡ [] → walked rules [] w word ≡ after
    → Reads after words target → Reads w (word ∷ words) target
unfolding walk_fault
goes w after word words target met is reads =
    let P : Walk → Type 0 = λ (next : Walk). Reads next words target in
    rw met (subst P (sym is) reads)

stops : (w : Walk) (word : Text) (words : List Text) (k : ErrorKind) (ks : Kinds) → turn_fault top [] w word ≡ k ∷ ks → Reads w (word ∷ words) None
unfolding walk_fault
stops w word words k ks met = rw met (λ (none : _). cc)

as_target : (w : Walk) (words : List Text) (target other : Option OptionTexts) → other ≡ target → Reads w words target → Reads w words other
as_target w words target other is reads = let P : Option OptionTexts → Type 0 = λ (t : Option OptionTexts). Reads w words t in subst P (sym is) reads

-- ---- one word more

-- which plain word comes next
abbrev pub place : Option Text → ℕ
place None = 1
place (Some old) = 2

first_or_second : (o : Option Text) (position : ℕ) → position ≡ place o → (position ≡ 1) ⊎ (position ≡ 2)
first_or_second None position is = inl is
first_or_second (Some old) position is = inr is

again_none : (id : Text) (rows : List Row) → has_row id rows ≡ false → again id rows ≡ []
again_none id rows none = rw none refl

again_some : (id : Text) (rows : List Row) → has_row id rows ≡ true → again id rows ≡ kind.ArgumentConflict ∷ []
again_some id rows some = rw some refl

abbrev pub port : Text
port = codes "port"

abbrev pub settled_of : Held → List Row
settled_of h = (settled rules h).rows

pub record Follows (words : List Text) : Type 0 where
  pub rests : (h : Held) (position : ℕ) → settling h ≡ [] → list_all has_value (settled_of h) ≡ true → position ≡ place (first_of port (settled_of h))
      → Reads (at h idle position) words (options_after None (texts_found (settled_of h)) words)
  pub fails : (h : Held) (position : ℕ) (k : ErrorKind) (ks : Kinds) → settling h ≡ k ∷ ks → (position ≡ 1) ⊎ (position ≡ 2) → Reads (at h idle position) words None
  pub waits : (name : Name) (rows : List Row) (position skip : ℕ) → list_all has_value rows ≡ true → position ≡ place (first_of port rows)
      → Reads (at (held rows (Some (id_of name, [])) skip) (option (id_of name)) position) words (options_after (Some (name_of name)) (texts_found rows) words)

-- a value is held, and is used where it is the first
module _ (words : List Text) (f : Follows words) (rows : List Row) (full : list_all has_value rows ≡ true) (id name value : Text) (h : Held) (position : ℕ)
    (settles : settling h ≡ again id rows) (used : settled_of h ≡ put_row id value rows) (near : (position ≡ 1) ⊎ (position ≡ 2))
    (put_first : first_of id rows ≡ None → with_item (name, value) (texts_found rows) ≡ Some (texts_found (put_row id value rows)))
    (put_late : (old : Text) → first_of id rows ≡ Some old → with_item (name, value) (texts_found rows) ≡ None)
    (placed : first_of id rows ≡ None → position ≡ place (first_of port (put_row id value rows))) where
  value_used : Reads (at h idle position) words (added (name, value) (texts_found rows) words)
  value_used = go (first_of id rows) refl
    where
      go : (o : Option Text) → first_of id rows ≡ o → Reads (at h idle position) words (added (name, value) (texts_found rows) words)
      go None none =
          let one = ap (λ (o : Option OptionTexts). o >>= λ now. options_after None now words) (put_first none) in
          let texts = ap (λ (r : List Row). options_after None (texts_found r) words) (sym used) in
          as_target (at h idle position) words _ _ (one ∙ texts)
          (f.rests h position (settles ∙ again_none id rows (absent rows full value id none)) (ap (list_all has_value) used ∙ full_put rows full value id none)
          (placed none ∙ ap (λ (r : List Row). place (first_of port r)) (sym used)))
      go (Some old) some =
          as_target (at h idle position) words None _ (ap (λ (o : Option OptionTexts). o >>= λ now. options_after None now words) (put_late old some))
          (f.fails h position kind.ArgumentConflict [] (settles ∙ again_some id rows (present rows full value id old some)) near)

or_else_same : {a b : Kinds} → a ≡ b → or_else a [] ≡ or_else b []
or_else_same e = ap (λ k. or_else k []) e

module _ (words : List Text) (f : Follows words) where
  idle_word : (word : Text) → Spelled word → (h : Held) (position : ℕ) → settling h ≡ [] → list_all has_value (settled_of h) ≡ true
      → position ≡ place (first_of port (settled_of h)) → Reads (at h idle position) (word ∷ words) (options_after None (texts_found (settled_of h)) (word ∷ words))
  idle_word word (as_plain plain) h position settles full placed = go (first_of port rows) refl
    where
      rows : List Row
      rows = settled_of h

      go : (o : Option Text) → first_of port rows ≡ o → Reads (at h idle position) (word ∷ words) (options_after None (texts_found rows) (word ∷ words))
      go None none =
          let first : position ≡ 1 = placed ∙ ap place none in
          let later : 2 ≡ place (first_of port (put_row port word rows)) = sym (ap place (same_in rows full word port refl none)) in
          let used = value_used words f rows full port [] word (held rows (Some (port, word ∷ [])) h.skip) 2 (settling_port rows word h.skip) (settled_port rows word) (inr refl)
          (port_put rows full word) (port_again rows full word) (λ none_yet. later) in
          let here = as_target (at h idle 1) (word ∷ words) _ _ (plain_first word (texts_found rows) words plain)
          (goes (at h idle 1) _ word words _ (plain_met word h plain ∙ settles) (after_plain word h plain) used) in
          let P : ℕ → Type 0 = λ (place_now : ℕ). Reads (at h idle place_now) (word ∷ words) (options_after None (texts_found rows) (word ∷ words)) in
          subst P (sym first) here
      go (Some old) some =
          let second : position ≡ 2 = placed ∙ ap place some in
          let none = plain_first word (texts_found rows) words plain ∙ ap (λ (o : Option OptionTexts). o >>= λ now. options_after None now words) (port_again rows full word old some) in
          let here = as_target (at h idle 2) (word ∷ words) None _ none (stops (at h idle 2) word words _ _ (plain_met_late word h plain)) in
          let P : ℕ → Type 0 = λ (place_now : ℕ). Reads (at h idle place_now) (word ∷ words) (options_after None (texts_found rows) (word ∷ words)) in
          subst P (sym second) here
  idle_word word (as_name name is) h position settles full placed =
      let rows = settled_of h in
      let here = as_target (at h idle position) (name_of name ∷ words) _ _ (name_first name (texts_found rows) words)
      (goes (at h idle position) _ (name_of name) words _ (name_met name h position ∙ or_else_same settles) (after_name name h position) (f.waits name rows position h.skip full placed)) in
      let P : Text → Type 0 = λ (text : Text). Reads (at h idle position) (text ∷ words) (options_after None (texts_found rows) (text ∷ words)) in
      subst P (sym is) here
  idle_word word (as_joined name value is) h position settles full placed =
      let P : Text → Type 0 = λ (text : Text). Reads (at h idle position) (text ∷ words) (options_after None (texts_found rows) (text ∷ words)) in
      subst P (sym is) (as_target (at h idle position) (joined_word name value ∷ words) _ _ (joined_first name value (texts_found rows) words) (go (first_of (id_of name) rows) refl))
    where
      rows : List Row
      rows = settled_of h

      met : turn_fault top [] (at h idle position) (joined_word name value) ≡ or_else (or_else [] (again (id_of name) rows)) []
      met = joined_met name value h position ∙ ap (λ k. or_else (or_else k (again (id_of name) rows)) []) settles

      go : (o : Option Text) → first_of (id_of name) rows ≡ o → Reads (at h idle position) (joined_word name value ∷ words) (added (name_of name, value) (texts_found rows) words)
      go None none =
          let fresh = again_none (id_of name) rows (absent rows full value (id_of name) none) in
          let one = ap (λ (o : Option OptionTexts). o >>= λ now. options_after None now words) (option_put rows full value name none) in
          as_target (at h idle position) (joined_word name value ∷ words) _ _ one
          (goes (at h idle position) _ (joined_word name value) words _ (met ∙ ap (λ k. or_else (or_else [] k) []) fresh) (after_joined name value h position)
          (f.rests (held (put_row (id_of name) value rows) None h.skip) position refl (full_put rows full value (id_of name) none) (placed ∙ sym (ap place (port_same rows full value name none)))))
      go (Some old) some =
          let late = again_some (id_of name) rows (present rows full value (id_of name) old some) in
          as_target (at h idle position) (joined_word name value ∷ words) None _ (ap (λ (o : Option OptionTexts). o >>= λ now. options_after None now words) (option_again rows full value name old some))
          (stops (at h idle position) (joined_word name value) words _ _ (met ∙ ap (λ k. or_else (or_else [] k) []) late))

  fails_word : (word : Text) → Spelled word → (h : Held) (position : ℕ) (k : ErrorKind) (ks : Kinds) → settling h ≡ k ∷ ks → (position ≡ 1) ⊎ (position ≡ 2)
      → Reads (at h idle position) (word ∷ words) None
  fails_word word (as_plain plain) h position k ks settles (inl first) =
      let P : ℕ → Type 0 = λ (place_now : ℕ). Reads (at h idle place_now) (word ∷ words) None in
      subst P (sym first) (stops (at h idle 1) word words k ks (plain_met word h plain ∙ settles))
  fails_word word (as_plain plain) h position k ks settles (inr second) =
      let P : ℕ → Type 0 = λ (place_now : ℕ). Reads (at h idle place_now) (word ∷ words) None in
      subst P (sym second) (stops (at h idle 2) word words _ _ (plain_met_late word h plain))
  fails_word word (as_name name is) h position k ks settles near =
      let P : Text → Type 0 = λ (text : Text). Reads (at h idle position) (text ∷ words) None in
      subst P (sym is) (stops (at h idle position) (name_of name) words k ks (name_met name h position ∙ or_else_same settles))
  fails_word word (as_joined name value is) h position k ks settles near =
      let P : Text → Type 0 = λ (text : Text). Reads (at h idle position) (text ∷ words) None in
      subst P (sym is) (stops (at h idle position) (joined_word name value) words k ks
      (joined_met name value h position ∙ ap (λ kinds. or_else (or_else kinds (again (id_of name) (settled_of h))) []) settles))

  waits_word : (word : Text) → Spelled word → (name : Name) (rows : List Row) (position skip : ℕ) → list_all has_value rows ≡ true → position ≡ place (first_of port rows)
      → Reads (at (held rows (Some (id_of name, [])) skip) (option (id_of name)) position) (word ∷ words) (options_after (Some (name_of name)) (texts_found rows) (word ∷ words))
  waits_word word (as_plain plain) name rows position skip full placed =
      let h = held rows (Some (id_of name, word ∷ [])) skip in
      let used = value_used words f rows full (id_of name) (name_of name) word h position (settling_value name rows word skip) (settled_value name rows word) (first_or_second (first_of port rows) position placed)
      (option_put rows full word name) (option_again rows full word name) (λ none. placed ∙ sym (ap place (port_same rows full word name none))) in
      as_target (at (held rows (Some (id_of name, [])) skip) (option (id_of name)) position) (word ∷ words) _ _ (value_first (name_of name) word (texts_found rows) words plain)
      (goes _ (at h idle position) word words _ (value_met name rows position skip word plain) (after_value name rows position skip word plain) used)
  waits_word word (as_name other is) name rows position skip full placed =
      let h = held rows (Some (id_of name, [])) skip in
      let P : Text → Type 0 = λ (text : Text). Reads (at h (option (id_of name)) position) (text ∷ words) (options_after (Some (name_of name)) (texts_found rows) (text ∷ words)) in
      subst P (sym is) (as_target (at h (option (id_of name)) position) (name_of other ∷ words) None _ (name_is_none (name_of name) other (texts_found rows) words)
      (stops (at h (option (id_of name)) position) (name_of other) words _ _ (name_met_late other h position (id_of name) ∙ or_else_same (settling_none name rows skip))))
  waits_word word (as_joined other value is) name rows position skip full placed =
      let h = held rows (Some (id_of name, [])) skip in
      let P : Text → Type 0 = λ (text : Text). Reads (at h (option (id_of name)) position) (text ∷ words) (options_after (Some (name_of name)) (texts_found rows) (text ∷ words)) in
      subst P (sym is) (as_target (at h (option (id_of name)) position) (joined_word other value ∷ words) None _ (joined_is_none (name_of name) other value (texts_found rows) words)
      (stops (at h (option (id_of name)) position) (joined_word other value) words _ _
      (joined_met_late other value h position (id_of name) ∙ ap (λ kinds. or_else (or_else kinds (again (id_of other) (settled_of h))) []) (settling_none name rows skip))))

-- ---- all words

at_end : Follows []
unfolding walk_fault
at_end = record {
  rests = λ h position settles full placed. (settles, refl);
  fails = λ h position k ks settles near. λ none. cc;
  waits = λ name rows position skip full placed. λ none. let missing = settling_none name rows skip in cc;
}

pub follows : (words : List Text) → list_all is_spelled words ≡ true → Follows words
follows [] spelled = at_end
follows (word ∷ words) spelled =
    let parts = both (is_spelled word) (list_all is_spelled words) spelled in
    let f = follows words parts.1 in
    let kind_of_word = spelled_so word parts.0 in
    record {
      rests = idle_word words f word kind_of_word;
      fails = fails_word words f word kind_of_word;
      waits = waits_word words f word kind_of_word;
    }
