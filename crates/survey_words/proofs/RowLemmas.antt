-- Rows of matches, and the options in them.
use Rattle.std.proofs.Common.{◌≡◌, Bool, true, false, List, [], ◌∷◌, ◌++◌, Option, Some, None, is_some, refl, ap, sym, ◌∙◌, codes, ◌&&◌, ◌||◌, if◌then◌else◌, slice_get, find, option_and_then}
use Rattle.std.specs.Str.{bytes_eq}
use Rattle.std.specs.List.{list_all, list_any}
use Rattle.std.proofs.lemmas.List.{append-nil}
use Rattle.clap.specs.Values.{reading_of}
use Rattle.clap.specs.Walk.{Row, Text, at_row, more_values, has_row, first_of}
use Rattle.clap.specs.declared.builder.value_parser.ValueParser.TheVariants as vp
use Rattle.clap.specs.declared.parser.matches.ValueSource.TheVariants.{CommandLine}
use Rattle.survey_words.specs.Items.{OptionTexts, with_item}
use Rattle.survey_words.specs.Parsed.{texts_found}
use Rattle.survey_words.proofs.ParseSteps.{Name, of_eliminators, of_connections, of_sample, of_shape, id_of, name_of, put_row}

pub both : (a b : Bool) → a && b ≡ true → (a ≡ true) × (b ≡ true)
both true b e = (refl, e)
both false b e = cc

pub neither : (a b : Bool) → a || b ≡ false → (a ≡ false) × (b ≡ false)
neither true b e = cc
neither false b e = (refl, e)

-- the value of the first row that passes
abbrev pub pick : (Row → Bool) → List Row → Option Text
pick test rows = option_and_then (λ r. slice_get r.values 0) (find test rows)

-- each row has a value
abbrev pub has_value : Row → Bool
has_value row = is_some (slice_get row.values 0)

abbrev pub row : Text → Text → Row
row id value = record { id = id; values = value ∷ []; count = None; source = Some CommandLine; reading = reading_of vp.String }

at_absent : (id : Text) (change : Row → List Row) (missing rows : List Row) → has_row id rows ≡ false → at_row id change missing rows ≡ rows ++ missing
at_absent id change missing [] none = refl
at_absent id change missing (r ∷ rs) none =
    let parts = neither (bytes_eq r.id id) _ none in
    rw (parts.0) (ap (λ (rest : List Row). r ∷ rest) (at_absent id change missing rs parts.1))

pub put_absent : (id value : Text) (rows : List Row) → has_row id rows ≡ false → put_row id value rows ≡ rows ++ row id value ∷ []
put_absent id value rows none =
    let kept : at_row id (λ _. []) [] rows ≡ rows = at_absent id (λ _. []) [] rows none ∙ append-nil rows in
    ap (at_row id (more_values CommandLine (value ∷ [])) (row id value ∷ [])) kept ∙ at_absent id (more_values CommandLine (value ∷ [])) (row id value ∷ []) rows none

pick_other : (test : Row → Bool) (r : Row) (rows : List Row) → test r ≡ false → pick test (rows ++ r ∷ []) ≡ pick test rows
pick_other test r [] other = rw other refl
pick_other test r (x ∷ rows) other = go (pick_other test r rows other) (test x)
  where
    go : pick test (rows ++ r ∷ []) ≡ pick test rows → (b : Bool) → option_and_then (λ (y : Row). slice_get y.values 0) (if b then Some x else find test (rows ++ r ∷ []))
        ≡ option_and_then (λ (y : Row). slice_get y.values 0) (if b then Some x else find test rows)
    go rest true = refl
    go rest false = rest

pick_same : (test : Row → Bool) (r : Row) (rows : List Row) → test r ≡ true → list_any test rows ≡ false → pick test (rows ++ r ∷ []) ≡ slice_get r.values 0
pick_same test r [] same none = rw same refl
pick_same test r (x ∷ rows) same none =
    let parts = neither (test x) _ none in
    rw (parts.0) (pick_same test r rows same parts.1)

-- a row passes where one is picked
pub any_picked : (test : Row → Bool) (rows : List Row) → list_all has_value rows ≡ true → list_any test rows ≡ is_some (pick test rows)
any_picked test [] full = refl
any_picked test (x ∷ rows) full = go (any_picked test rows ((both (has_value x) (list_all has_value rows) full).1)) (test x)
  where
    go : list_any test rows ≡ is_some (pick test rows) → (b : Bool) → (b || list_any test rows) ≡ is_some (option_and_then (λ (y : Row). slice_get y.values 0) (if b then Some x else find test rows))
    go rest true = sym ((both (has_value x) (list_all has_value rows) full).0)
    go rest false = rest

full_more : (r : Row) (rows : List Row) → list_all has_value rows ≡ true → has_value r ≡ true → list_all has_value (rows ++ r ∷ []) ≡ true
full_more r [] full some = rw some refl
full_more r (x ∷ rows) full some =
    let parts = both (has_value x) (list_all has_value rows) full in
    rw (parts.0) (full_more r rows parts.1 some)

module _ (rows : List Row) (full : list_all has_value rows ≡ true) (value : Text) where
  pub absent : (id : Text) → first_of id rows ≡ None → has_row id rows ≡ false
  absent id none = any_picked (λ r. bytes_eq r.id id) rows full ∙ ap is_some none

  pub present : (id old : Text) → first_of id rows ≡ Some old → has_row id rows ≡ true
  present id old some = any_picked (λ r. bytes_eq r.id id) rows full ∙ ap is_some some

  pub full_put : (id : Text) → first_of id rows ≡ None → list_all has_value (put_row id value rows) ≡ true
  full_put id none = rw (put_absent id value rows (absent id none)) (full_more (row id value) rows full refl)

  pub same_in : (id : Text) → bytes_eq id id ≡ true → first_of id rows ≡ None → first_of id (put_row id value rows) ≡ Some value
  same_in id same none = rw (put_absent id value rows (absent id none)) (pick_same (λ r. bytes_eq r.id id) (row id value) rows same (absent id none))

  pub other_in : (id other : Text) → bytes_eq id other ≡ false → first_of id rows ≡ None → first_of other (put_row id value rows) ≡ first_of other rows
  other_in id other apart none = rw (put_absent id value rows (absent id none)) (pick_other (λ r. bytes_eq r.id other) (row id value) rows apart)

  abbrev five : Option Text → Option Text → Option Text → Option Text → Option Text → OptionTexts
  five port eliminators connections sample shape =
      record { port = port; eliminators = eliminators; connections = connections; sample = sample; shape = shape }

  pub port_put : first_of (codes "port") rows ≡ None → with_item ([], value) (texts_found rows) ≡ Some (texts_found (put_row (codes "port") value rows))
  port_put none = rw none (λ i. Some (five (sym (same_in (codes "port") refl none) i) (sym (other_in (codes "port") (codes "eliminators") refl none) i)
      (sym (other_in (codes "port") (codes "connections") refl none) i) (sym (other_in (codes "port") (codes "sample") refl none) i) (sym (other_in (codes "port") (codes "shape") refl none) i)))

  pub option_put : (name : Name) → first_of (id_of name) rows ≡ None → with_item (name_of name, value) (texts_found rows) ≡ Some (texts_found (put_row (id_of name) value rows))
  option_put of_eliminators none = rw none (λ i. Some (five (sym (other_in (codes "eliminators") (codes "port") refl none) i) (sym (same_in (codes "eliminators") refl none) i)
      (sym (other_in (codes "eliminators") (codes "connections") refl none) i) (sym (other_in (codes "eliminators") (codes "sample") refl none) i) (sym (other_in (codes "eliminators") (codes "shape") refl none) i)))
  option_put of_connections none = rw none (λ i. Some (five (sym (other_in (codes "connections") (codes "port") refl none) i) (sym (other_in (codes "connections") (codes "eliminators") refl none) i)
      (sym (same_in (codes "connections") refl none) i) (sym (other_in (codes "connections") (codes "sample") refl none) i) (sym (other_in (codes "connections") (codes "shape") refl none) i)))
  option_put of_sample none = rw none (λ i. Some (five (sym (other_in (codes "sample") (codes "port") refl none) i) (sym (other_in (codes "sample") (codes "eliminators") refl none) i)
      (sym (other_in (codes "sample") (codes "connections") refl none) i) (sym (same_in (codes "sample") refl none) i) (sym (other_in (codes "sample") (codes "shape") refl none) i)))
  option_put of_shape none = rw none (λ i. Some (five (sym (other_in (codes "shape") (codes "port") refl none) i) (sym (other_in (codes "shape") (codes "eliminators") refl none) i)
      (sym (other_in (codes "shape") (codes "connections") refl none) i) (sym (other_in (codes "shape") (codes "sample") refl none) i) (sym (same_in (codes "shape") refl none) i)))

  pub port_again : (old : Text) → first_of (codes "port") rows ≡ Some old → with_item ([], value) (texts_found rows) ≡ None
  port_again old some = rw some refl

  pub option_again : (name : Name) (old : Text) → first_of (id_of name) rows ≡ Some old → with_item (name_of name, value) (texts_found rows) ≡ None
  option_again of_eliminators old some = rw some refl
  option_again of_connections old some = rw some refl
  option_again of_sample old some = rw some refl
  option_again of_shape old some = rw some refl

  -- an option leaves the plain word as it is
  pub port_same : (name : Name) → first_of (id_of name) rows ≡ None → first_of (codes "port") (put_row (id_of name) value rows) ≡ first_of (codes "port") rows
  port_same of_eliminators none = other_in (codes "eliminators") (codes "port") refl none
  port_same of_connections none = other_in (codes "connections") (codes "port") refl none
  port_same of_sample none = other_in (codes "sample") (codes "port") refl none
  port_same of_shape none = other_in (codes "shape") (codes "port") refl none
