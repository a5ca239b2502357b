-- The first of the names that is the same as a text.
use Rattle.std.proofs.Common.{◌≡◌, ℕ, zero, suc, ◌+◌, ◌-◌, ◌<◌, ◌≤◌, List, [], ◌∷◌, length, map, cond, nat_lt, bytes_eq, Bool, true, false, Option, Some, None, option_map, slice_get, String, Global, string_bytes, IsTrue, ◌↔◌, ◌∙◌, ap, sym, subst, refl, arith}
use Rattle.std.specs.List.{position, position_or_len}
use Rattle.std.specs.Map.{keys_of}
use Rattle.std.specs.Str.{IsUtf8}
use Rattle.std.proofs.lemmas.List.{length-map}
use Rattle.std.proofs.lemmas.Option.{slice_get-map}
use Rattle.std.proofs.lemmas.Slice.Eq.{bytes_eq-Decides}
use Rattle.std.proofs.lemmas.Str.{IsUtf8-string_bytes}
use Rattle.row_laws.specs.Items.{item_at}
use Rattle.criteria_model.specs.declared.limits.TheConstants.{MAX_INCREMENTS}
use Rattle.criteria_model.specs.Worth.{increments}
use Rattle.criteria_model.proofs.LevelLemmas.{increments-cons}
use Rattle.indexmap.specs.IndexSet.{IndexSet}
use Rattle.json_forms.specs.Definitions.{number_of}
use Rattle.json_forms.specs.DefinitionViews.{RespondentView, CriterionView, level_counts}
use Rattle.json_forms.specs.EntryViews.{respondent_view, kept_criterion}

before-map : {X Y : Type 0} (test : Y → Bool) (f : X → Y) (xs : List X) → position_or_len test (map f xs) ≡ position_or_len (λ x. test (f x)) xs
before-map test f [] = refl
before-map test f (x ∷ xs) = rw (before-map test f xs) refl

placed : ℕ → ℕ → Option ℕ
placed at len = cond (nat_lt at len) (Some at) None

pub position-map : {X Y : Type 0} (test : Y → Bool) (f : X → Y) (xs : List X) → position test (map f xs) ≡ position (λ x. test (f x)) xs
unfolding placed
position-map test f xs = ap (λ at. placed at (length (map f xs))) (before-map test f xs) ∙ ap (placed (position_or_len (λ x. test (f x)) xs)) (length-map xs f)

before-none : {X : Type 0} (test : X → Bool) (xs : List X) → ((x : X) → test x ≡ false) → position_or_len test xs ≡ length xs
before-none test [] none = refl
before-none test (x ∷ xs) none = rw (none x, before-none test xs none) (omega arith)

past : (n : ℕ) → placed n n ≡ None
unfolding placed
past n = grind arith

pub position-none : {X : Type 0} (test : X → Bool) (xs : List X) → ((x : X) → test x ≡ false) → position test xs ≡ None
unfolding placed
position-none test xs none = ap (λ at. placed at (length xs)) (before-none test xs none) ∙ past (length xs)

differs : (text name : List ℕ) (b : Bool) → bytes_eq text name ≡ b → (text ≡ name → ⊥) → b ≡ false
differs text name true is other = absurd (other ((bytes_eq-Decides text name).0 is))
differs text name false is other = refl

no_name : (text : List ℕ) → (IsUtf8 text → ⊥) → (name : String Global) → bytes_eq text (string_bytes name) ≡ false
no_name text no_text name = differs text (string_bytes name) _ refl (λ same. no_text (subst IsUtf8 (sym same) (IsUtf8-string_bytes name)))

-- a respondent's number is one more than the place of its key
pub respondent-number : (text : List ℕ) (entries : List (String Global × String Global)) (found : Option ℕ)
    → found ≡ position (λ key. bytes_eq text (string_bytes key)) (keys_of entries)
    → option_map (λ place. place + 1) found ≡ number_of text (map (λ r. r.name) (map respondent_view entries))
respondent-number text entries found is =
    ap (option_map (λ place. place + 1)) (is
    ∙ position-map (λ key. bytes_eq text (string_bytes key)) (λ e. e.0) entries
    ∙ sym (position-map (bytes_eq text) (λ (r : RespondentView). r.name) (map respondent_view entries) ∙ position-map (λ (r : RespondentView). bytes_eq text r.name) respondent_view entries))

-- bytes that are no text are no name
pub respondent-none : (text : List ℕ) (entries : List (String Global × String Global)) → (IsUtf8 text → ⊥)
    → number_of text (map (λ r. r.name) (map respondent_view entries)) ≡ None
respondent-none text entries no_text =
    ap (option_map (λ place. place + 1)) (
    position-map (bytes_eq text) (λ (r : RespondentView). r.name) (map respondent_view entries)
    ∙ position-map (λ (r : RespondentView). bytes_eq text r.name) respondent_view entries
    ∙ position-none (λ (e : String Global × String Global). bytes_eq text (string_bytes e.0)) entries (λ e. no_name text no_text e.0))

pub level-number : (text : List ℕ) (keys : List (String Global)) (found : Option ℕ) → found ≡ position (λ key. bytes_eq text (string_bytes key)) keys
    → option_map (λ place. place + 1) found ≡ number_of text (map string_bytes keys)
level-number text keys found is = ap (option_map (λ place. place + 1)) (is ∙ sym (position-map (bytes_eq text) string_bytes keys))

pub level-none : (text : List ℕ) (keys : List (String Global)) → (IsUtf8 text → ⊥) → number_of text (map string_bytes keys) ≡ None
level-none text keys no_text =
    ap (option_map (λ place. place + 1)) (position-map (bytes_eq text) string_bytes keys ∙ position-none (λ key. bytes_eq text (string_bytes key)) keys (no_name text no_text))

code_of : (found : Option (String Global × String Global)) → option_map (λ (r : RespondentView). r.code) (option_map respondent_view found) ≡ option_map (λ e. string_bytes e.1) found
code_of None = refl
code_of (Some e) = refl

-- the code of the entry at a place
code_at : (entries : List (String Global × String Global)) (i : ℕ) (found : Option (String Global × String Global)) → found ≡ slice_get entries i
    → option_map (λ (r : RespondentView). r.code) (slice_get (map respondent_view entries) i) ≡ option_map (λ e. string_bytes e.1) found
code_at entries i found is = rw (slice_get-map respondent_view entries i, ← is) (code_of found)

pub code_decides : (o : Option (List ℕ)) (kept code shown : List ℕ) (b : Bool) → o ≡ Some kept → shown ≡ kept → b ≡ bytes_eq shown code → IsTrue b ↔ (o ≡ Some code)
code_decides o kept code shown b is same eq = rw (is, eq, same) (λ t. ap Some ((bytes_eq-Decides kept code).0 t), λ e. (bytes_eq-Decides kept code).1 (cc e))

item-is : {X : Type 0} (items : List X) (n : ℕ) → (n ≡ 0 → ⊥) → item_at items n ≡ slice_get items (n - 1)
item-is items zero h = absurd (h refl)
item-is items (suc k) h = let e : k ≡ suc k - 1 = omega arith in ap (slice_get items) e

few_levels : (levels : List ℕ) (k n : ℕ) → slice_get levels k ≡ Some n → increments levels ≤ MAX_INCREMENTS → n ≤ 25
few_levels [] k n is few = absurd (cc is)
few_levels (first ∷ levels) zero n is few = let e : first ≡ n = cc is in omega (arith, e, increments-cons first levels, few)
few_levels (first ∷ levels) (suc k) n is few = few_levels levels k n is (omega (arith, increments-cons first levels, few))

-- what belongs to the respondent with a number
pub respondent_at : (entries : List (String Global × String Global)) (n : ℕ) (found : Option (String Global × String Global)) → (n ≡ 0 → ⊥) → found ≡ slice_get entries (n - 1)
    → option_map (λ (r : RespondentView). r.code) (item_at (map respondent_view entries) n) ≡ option_map (λ e. string_bytes e.1) found
respondent_at entries n found some is = ap (option_map (λ (r : RespondentView). r.code)) (item-is (map respondent_view entries) n some) ∙ code_at entries (n - 1) found is

module _ {S : Type 0} (entries : List (String Global × IndexSet (String Global) S)) (n m : ℕ) (entry : String Global × IndexSet (String Global) S) (same : m ≡ n) (is : Some entry ≡ slice_get entries (m - 1)) where
  kept_at : slice_get (map kept_criterion entries) (m - 1) ≡ Some (kept_criterion entry)
  kept_at = slice_get-map kept_criterion entries (m - 1) ∙ ap (option_map kept_criterion) (sym is)

  -- the criterion with a number
  pub criterion_at : 1 ≤ n → item_at (map kept_criterion entries) n ≡ Some (kept_criterion entry)
  criterion_at low =
      item-is (map kept_criterion entries) n (λ none. absurd (omega (arith, none, low)))
      ∙ ap (λ k. slice_get (map kept_criterion entries) (k - 1)) (sym same) ∙ kept_at

  count_at : slice_get (level_counts (map kept_criterion entries)) (m - 1) ≡ Some (length (map string_bytes entry.1.keys))
  count_at = slice_get-map (λ (criterion : CriterionView). length criterion.levels) (map kept_criterion entries) (m - 1) ∙ ap (option_map (λ (criterion : CriterionView). length criterion.levels)) kept_at

  -- the number of a level is small
  pub level-small : (levels : List ℕ) (place : ℕ) → levels ≡ level_counts (map kept_criterion entries) → increments levels ≤ MAX_INCREMENTS → place < length entry.1.keys → place + 1 ≤ 25
  level-small levels place counted few within =
      let P : List ℕ → Type 0 = λ counts. increments counts ≤ MAX_INCREMENTS in
      let n = few_levels (level_counts (map kept_criterion entries)) (m - 1) (length (map string_bytes entry.1.keys)) count_at (subst P counted few) in
      omega (arith, n, length-map entry.1.keys string_bytes, within)
