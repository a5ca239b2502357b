-- Records read field by field, and tables record by record.
use Rattle.std.proofs.Common.{◌≡◌, ◌≢◌, ℕ, ◌+◌, ◌≤◌, ◌<◌, true, false, List, [], ◌∷◌, ◌++◌, length, drop, map, get_or, refl, sym, ap, ◌∙◌, arith, append_assoc, eqb, eq-eqb, ne_eqb}
use Rattle.std.specs.Prelude.{slice_get, Option, Some, None, option_map, option_and_then, Result, Ok, Err, ℤ, All, position, bytes_eq}
use Rattle.std.proofs.lemmas.List.{append-nil, drop_all}
use Rattle.std.proofs.lemmas.List.Elements.{All-nil, All-cons, All-head, All-tail}
use Rattle.std.proofs.lemmas.List.Quantifiers.{position-Some}
use Rattle.std.proofs.lemmas.Option.{slice_get-get_or}
use Rattle.row_laws.specs.Items.{item_at}
use Rattle.ranking.specs.declared.stops.RankStop.{RankStop}
use Rattle.ranking.specs.declared.stops.RankStop.TheVariants.{ReadFault, TableLong, Header, Row, Level, NoMemory}
use Rattle.ranking.specs.Names.{NamedCriteria, level_named}
use Rattle.ranking.specs.NamedWorths.{NamedWorthView}
use Rattle.ranking.specs.Tables.{IsRefusal, alternative_in, alternatives_in, level_before, levels_named, named_worth, worth_before}
use Rattle.ranking.proofs.FieldLemmas.{drop-get, item_at-next}

-- ---- levels

-- levels that were read, and then those of what is left
abbrev pub levels_after : List ℕ → Result (List ℕ) ℕ → Result (List ℕ) ℕ
levels_after front (Ok levels) = Ok (front ++ levels)
levels_after front (Err before) = Err (length front + before)

pub levels_after-nil : (read : Result (List ℕ) ℕ) → levels_after [] read ≡ read
levels_after-nil (Ok levels) = refl
levels_after-nil (Err before) = let same : 0 + before ≡ before = omega arith in ap (λ (n : ℕ). Err n) same

levels_after-level : (front : List ℕ) (level : ℕ) (read : Result (List ℕ) ℕ) → levels_after front (level_before (Some level) read) ≡ levels_after (front ++ level ∷ []) read
levels_after-level front level (Ok levels) = ap (λ (all : List ℕ). Ok all) (sym (append_assoc front (level ∷ []) levels))
levels_after-level front level (Err before) =
    let same : length front + (before + 1) ≡ length (front ++ level ∷ []) + before = omega (arith, length-push front level) in
    ap (λ (n : ℕ). Err n) same where
      length-push : (xs : List ℕ) (x : ℕ) → length (xs ++ x ∷ []) ≡ length xs + 1
      length-push [] x = refl
      length-push (y ∷ xs) x = omega (arith, length-push xs x)

-- one more level
pub levels_step : (levels : List (List (List ℕ))) (texts : List (List ℕ)) (place : ℕ) (front : List ℕ) (names : List (List ℕ)) (text : List ℕ) (level : ℕ)
    → slice_get levels place ≡ Some names → slice_get texts place ≡ Some text → level_named names text ≡ Some level
    → levels_after front (levels_named (drop place levels) (drop place texts)) ≡ levels_after (front ++ level ∷ []) (levels_named (drop (place + 1) levels) (drop (place + 1) texts))
levels_step levels texts place front names text level at text_at is =
    rw (drop-get levels place names at, drop-get texts place text text_at, is) (levels_after-level front level (levels_named (drop (place + 1) levels) (drop (place + 1) texts)))

-- a text that is no level
pub levels_stop : (levels : List (List (List ℕ))) (texts : List (List ℕ)) (place : ℕ) (front : List ℕ) (names : List (List ℕ)) (text : List ℕ)
    → slice_get levels place ≡ Some names → slice_get texts place ≡ Some text → level_named names text ≡ None
    → levels_after front (levels_named (drop place levels) (drop place texts)) ≡ Err (length front)
levels_stop levels texts place front names text at text_at is =
    let same : length front + 0 ≡ length front = omega arith in
    rw (drop-get levels place names at, drop-get texts place text text_at, is) (ap (λ (n : ℕ). Err n) same)

-- no more criteria
pub levels_end : (levels : List (List (List ℕ))) (texts : List (List ℕ)) (place : ℕ) (front : List ℕ) → length levels ≤ place
    → levels_after front (levels_named (drop place levels) texts) ≡ Ok front
levels_end levels texts place front all = rw (drop_all place levels all) (ap (λ (levels : List ℕ). Ok levels) (append-nil front))

-- a level is one of its criterion's
pub level_named-within : (names : List (List ℕ)) (text : List ℕ) (level : ℕ) → level_named names text ≡ Some level → level ≤ length names
level_named-within names text level is = within (position (bytes_eq text) names) refl is where
  within : (found : Option ℕ) → position (bytes_eq text) names ≡ found → option_map (λ place. place + 1) found ≡ Some level → level ≤ length names
  within None at e = cc
  within (Some place) at e =
      let one : place + 1 ≡ level = cc in
      let below : place < length names = (position-Some (bytes_eq text) names place [] at).0 in
      omega arith

-- levels that were read are within the largest number of levels
pub levels_within : (levels : List (List (List ℕ))) (texts : List (List ℕ)) (found : List ℕ) (most : ℕ) → All (λ names. length names ≤ most) levels
    → levels_named levels texts ≡ Ok found → All (λ level. level ≤ most) found
levels_within [] texts found most few is = let none : [] ≡ found = cc in rw (← none) (All-nil (λ level. level ≤ most))
levels_within (names ∷ levels) [] found most few is = let none : [] ≡ found = cc in rw (← none) (All-nil (λ level. level ≤ most))
levels_within (names ∷ levels) (text ∷ texts) found most few is =
    parts (level_named names text) (levels_named levels texts) refl refl is
    (λ rest others. levels_within levels texts rest most (All-tail (λ names. length names ≤ most) names levels few) others) where
      parts : (first : Option ℕ) (later : Result (List ℕ) ℕ) → level_named names text ≡ first → levels_named levels texts ≡ later
          → level_before first later ≡ Ok found → ((rest : List ℕ) → levels_named levels texts ≡ Ok rest → All (λ level. level ≤ most) rest)
          → All (λ level. level ≤ most) found
      parts None later one others whole fits = cc
      parts (Some level) (Err before) one others whole fits = cc
      parts (Some level) (Ok rest) one others whole fits =
          let same : level ∷ rest ≡ found = cc in
          let within : level ≤ length names = level_named-within names text level one in
          let names_fit : length names ≤ most = All-head (λ names. length names ≤ most) names levels few in
          rw (← same) (All-cons (λ level. level ≤ most) level rest (omega arith) (fits rest others))

-- where each criterion has few levels, each has few names
pub names_few : (levels : List (List (List ℕ))) (most : ℕ) → All (λ n. n ≤ most) (map length levels) → All (λ names. length names ≤ most) levels
names_few [] most few = All-nil (λ names. length names ≤ most)
names_few (names ∷ levels) most few =
    All-cons (λ names. length names ≤ most) names levels (All-head (λ n. n ≤ most) (length names) (map length levels) few)
    (names_few levels most (All-tail (λ n. n ≤ most) (length names) (map length levels) few))

-- what a criterion's level is by its names
pub level_found : (levels : List (List (List ℕ))) (place : ℕ) (text : List ℕ) (found : Option ℕ) → place < length levels
    → found ≡ option_and_then (λ names. level_named names text) (item_at levels (place + 1))
    → (names : List (List ℕ)) × (slice_get levels place ≡ Some names) × (found ≡ level_named names text)
level_found levels place text found within is =
    let names : List (List ℕ) = get_or levels place [] in
    let at : slice_get levels place ≡ Some names = slice_get-get_or levels place [] within in
    let by_number : option_and_then (λ names. level_named names text) (item_at levels (place + 1)) ≡ level_named names text =
    rw (item_at-next levels place, at) refl in
    (names, at, is ∙ by_number)

-- ---- a record

-- a record with a field for the name and one for each criterion
pub alternative_read : (criteria : NamedCriteria) (values : List ℤ) (place : ℕ) (fields : List (List ℕ)) (name : List ℕ) → slice_get fields 0 ≡ Some name
    → length fields ≡ length criteria.levels + 1 → alternative_in criteria values place fields ≡ named_worth criteria values place name (levels_named criteria.levels (drop 1 fields))
alternative_read criteria values place [] name at len = absurd (omega arith)
alternative_read criteria values place (field ∷ texts) name at len =
    let same : field ≡ name = cc in
    let as_many : eqb (length texts) (length criteria.levels) ≡ true = eq-eqb (length texts) (length criteria.levels) (omega arith) in
    rw (as_many, same) refl

-- a record with another number of fields
pub alternative_refused : (criteria : NamedCriteria) (values : List ℤ) (place : ℕ) (fields : List (List ℕ)) → length fields ≢ length criteria.levels + 1
    → alternative_in criteria values place fields ≡ Err (Row place)
alternative_refused criteria values place [] other = refl
alternative_refused criteria values place (field ∷ texts) other =
    let not_as_many : eqb (length texts) (length criteria.levels) ≡ false = ne_eqb (length texts) (length criteria.levels) (λ same. other (omega (arith, same))) in
    rw not_as_many refl

-- ---- alternatives

abbrev pub worths_after : List NamedWorthView → Result (List NamedWorthView) RankStop → Result (List NamedWorthView) RankStop
worths_after front (Ok worths) = Ok (front ++ worths)
worths_after front (Err stop) = Err stop

pub worths_after-nil : (read : Result (List NamedWorthView) RankStop) → worths_after [] read ≡ read
worths_after-nil (Ok worths) = refl
worths_after-nil (Err stop) = refl

worths_after-worth : (front : List NamedWorthView) (worth : NamedWorthView) (read : Result (List NamedWorthView) RankStop)
    → worths_after front (worth_before (Ok worth) read) ≡ worths_after (front ++ worth ∷ []) read
worths_after-worth front worth (Ok worths) = ap (λ (all : List NamedWorthView). Ok all) (sym (append_assoc front (worth ∷ []) worths))
worths_after-worth front worth (Err stop) = refl

-- one more alternative
pub worths_step : (criteria : NamedCriteria) (values : List ℤ) (rows : List (List (List ℕ))) (index place : ℕ) (front : List NamedWorthView) (fields : List (List ℕ)) (worth : NamedWorthView)
    → slice_get rows index ≡ Some fields → alternative_in criteria values place fields ≡ Ok worth
    → worths_after front (alternatives_in criteria values place (drop index rows)) ≡ worths_after (front ++ worth ∷ []) (alternatives_in criteria values (place + 1) (drop (index + 1) rows))
worths_step criteria values rows index place front fields worth at is =
    rw (drop-get rows index fields at, is) (worths_after-worth front worth (alternatives_in criteria values (place + 1) (drop (index + 1) rows)))

-- a record that is refused
pub worths_stop : (criteria : NamedCriteria) (values : List ℤ) (rows : List (List (List ℕ))) (index place : ℕ) (front : List NamedWorthView) (fields : List (List ℕ)) (stop : RankStop)
    → slice_get rows index ≡ Some fields → alternative_in criteria values place fields ≡ Err stop
    → worths_after front (alternatives_in criteria values place (drop index rows)) ≡ Err stop
worths_stop criteria values rows index place front fields stop at is = rw (drop-get rows index fields at, is) refl

-- no more records
pub worths_end : (criteria : NamedCriteria) (values : List ℤ) (rows : List (List (List ℕ))) (index place : ℕ) (front : List NamedWorthView) → length rows ≤ index
    → worths_after front (alternatives_in criteria values place (drop index rows)) ≡ Ok front
worths_end criteria values rows index place front all = rw (drop_all index rows all) (ap (λ (worths : List NamedWorthView). Ok worths) (append-nil front))

-- what refuses a record refuses the table
pub refusal_map : (P Q : RankStop → Type 0) → ((stop : RankStop) → P stop → Q stop) → (stop : RankStop) → IsRefusal P stop → IsRefusal Q stop
refusal_map P Q step ReadFault refused = tt
refusal_map P Q step NoMemory refused = tt
refusal_map P Q step TableLong refused = step TableLong refused
refusal_map P Q step Header refused = step Header refused
refusal_map P Q step (Row place) refused = step (Row place) refused
refusal_map P Q step (Level place column) refused = step (Level place column) refused
