-- All records of a text, from those that were read in turn.
use Rattle.std.proofs.Common.{◌≡◌, ℕ, ◌+◌, ◌-◌, ◌≤◌, zero, suc, Bool, true, false, List, [], ◌∷◌, ◌++◌, length, if◌then◌else◌, refl, sym, ap, subst, ◌∙◌, arith}
use Rattle.std.specs.Prelude.{Option, Some, None}
use Rattle.std.proofs.lemmas.List.{append-nil}
use Rattle.csv.specs.Machine.{Read, ends_at_end, field_after, fields_after, is_end, next_record, step}
use Rattle.csv.specs.Reading.{Reached, is_bom, records, records_from, strip_bom}
use Rattle.csv.specs.declared.parser.Config.{Config}
use Rattle.csv.specs.declared.parser.State.{State}
use Rattle.csv.specs.declared.parser.State.TheVariants as st

-- where a test chooses between a whole record and a later one
chosen : (b : Bool) (whole : Read) (later : Option Read) (read : Read) (n : ℕ) → (if b then Some whole else later) ≡ Some read
    → length whole.2 ≤ n → (later ≡ Some read → length read.2 ≤ n) → length read.2 ≤ n
chosen true whole later read n is now next = let same : whole ≡ read = cc in subst (λ (r : Read). length r.2 ≤ n) same now
chosen false whole later read n is now next = next is

whole_only : (b : Bool) (whole read : Read) → (if b then Some whole else None) ≡ Some read → whole ≡ read
whole_only true whole read is = cc
whole_only false whole read is = cc

-- a record takes a byte of a text that has one
pub next_record-left : (cfg : Config) (s : State) (fields : List (List ℕ)) (field text : List ℕ) (read : Read)
    → next_record cfg s fields field text ≡ Some read → length read.2 ≤ length text - 1
unfolding next_record
next_record-left cfg s fields field [] read is =
    chosen (ends_at_end s) (fields ++ (field ∷ []), st.StartRecord, []) None read 0 is (omega arith) (λ none. cc)
next_record-left cfg s fields field (c ∷ rest) read is =
    let n : ℕ = length (c ∷ rest) - 1 in
    chosen (is_end (step cfg s c).1) (fields_after (step cfg s c).1 fields field, (step cfg s c).0, rest)
    (next_record cfg (step cfg s c).0 (fields_after (step cfg s c).1 fields field) (field_after (step cfg s c).1 c field) rest) read n is (omega arith)
    (λ next. omega (arith, next_record-left cfg (step cfg s c).0 (fields_after (step cfg s c).1 fields field) (field_after (step cfg s c).1 c field) rest read next))

-- no record follows the end of a text at the start of a record
none_follows : (cfg : Config) (s : State) (text : List ℕ) (rows : List (List (List ℕ))) (s2 : State) (left : List ℕ)
    → s ≡ st.StartRecord → text ≡ [] → Reached cfg s text rows s2 left → length rows ≡ 0
unfolding Reached next_record
none_follows cfg s text [] s2 left start empty reached = refl
none_follows cfg s text (row ∷ rows) s2 left start empty reached =
    let never : next_record cfg st.StartRecord [] [] [] ≡ Some reached.0 = rw (start, empty) at reached.1 in
    let none : None ≡ Some reached.0 = never in
    cc

-- a text has one record more than bytes at most
pub few_records : (cfg : Config) (s : State) (text : List ℕ) (rows : List (List (List ℕ))) (s2 : State) (left : List ℕ)
    → Reached cfg s text rows s2 left → length rows ≤ length text + 1
unfolding Reached next_record
few_records cfg s text [] s2 left reached = omega arith
few_records cfg s [] (row ∷ rows) s2 left reached =
    let whole : Read = ([] ++ ([] ∷ []), st.StartRecord, []) in
    let same : whole ≡ reached.0 = whole_only (ends_at_end s) whole reached.0 reached.1 in
    omega (arith, none_follows cfg reached.0.1 reached.0.2 rows s2 left (ap (λ (r : Read). r.1) (sym same)) (ap (λ (r : Read). r.2) (sym same)) reached.3)
few_records cfg s (c ∷ text) (row ∷ rows) s2 left reached =
    omega (arith, next_record-left cfg s [] [] (c ∷ text) reached.0 reached.1, few_records cfg reached.0.1 reached.0.2 rows s2 left reached.3)

records_from-reached : (cfg : Config) (s : State) (text : List ℕ) (rows : List (List (List ℕ))) (s2 : State) (left : List ℕ) (more all : ℕ)
    → all ≡ length rows + more → Reached cfg s text rows s2 left → records_from cfg all s text ≡ rows ++ records_from cfg more s2 left
unfolding Reached records_from
records_from-reached cfg s text [] s2 left more all is reached = let same : all ≡ more = omega arith in rw (same, reached.0, reached.1) refl
records_from-reached cfg s text (row ∷ rows) s2 left more zero is reached = absurd (omega arith)
records_from-reached cfg s text (row ∷ rows) s2 left more (suc all) is reached =
    rw (reached.1, reached.2) (ap (λ (tail : List (List (List ℕ))). reached.0.0 ∷ tail) (records_from-reached cfg reached.0.1 reached.0.2 rows s2 left more all (omega arith) reached.3))

none_from : (cfg : Config) (s : State) (text : List ℕ) (more : ℕ) → next_record cfg s [] [] text ≡ None → records_from cfg more s text ≡ []
unfolding records_from
none_from cfg s text zero none = refl
none_from cfg s text (suc more) none = rw none refl

-- the records that were read in turn up to the end are all records of the text
pub records-reached : (cfg : Config) (text : List ℕ) (rows : List (List (List ℕ))) (s2 : State) (left : List ℕ)
    → Reached cfg st.StartRecord text rows s2 left → next_record cfg s2 [] [] left ≡ None → rows ≡ records cfg text
records-reached cfg text rows s2 left reached none =
    let few : length rows ≤ length text + 1 = few_records cfg st.StartRecord text rows s2 left reached in
    let more : ℕ = length text + 1 - length rows in
    let all : records_from cfg (length text + 1) st.StartRecord text ≡ rows ++ records_from cfg more s2 left =
    records_from-reached cfg st.StartRecord text rows s2 left more (length text + 1) (omega arith) reached in
    sym (all ∙ ap (λ (tail : List (List (List ℕ))). rows ++ tail) (none_from cfg s2 left more none) ∙ append-nil rows)

-- a text without its byte order mark is no longer
pub strip_bom-le : (text : List ℕ) → length (strip_bom text) ≤ length text
unfolding strip_bom
strip_bom-le [] = omega arith
strip_bom-le (a ∷ []) = omega arith
strip_bom-le (a ∷ b ∷ []) = omega arith
strip_bom-le (a ∷ b ∷ c ∷ rest) = shorter (is_bom a b c) where
  shorter : (marked : Bool) → length (if marked then rest else a ∷ b ∷ c ∷ rest) ≤ length (a ∷ b ∷ c ∷ rest)
  shorter true = omega arith
  shorter false = omega arith
