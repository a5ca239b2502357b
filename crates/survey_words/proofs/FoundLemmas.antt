-- What a parse of all the words finds.
use Rattle.std.proofs.Common.{◌≡◌, ◌==◌, ◌<◌, ℕ, map, drop, suc, Bool, true, false, List, [], ◌∷◌, Option, Some, None, is_some, refl, ap, sym, ◌∙◌, fold, length, ◌||◌, if◌then◌else◌, MatchOption, arith}
use Rattle.std.proofs.lemmas.Bool.Decides.{nat_tests}
use Rattle.std.specs.List.{list_all}
use Rattle.clap.specs.Kinds.{Kinds, or_else}
use Rattle.clap.specs.Walk.{Walk, Row, Rule, Text, is_empty, nothing_held, walk_from, walked, with_default, default_rows, reading_by, has_row, settled}
use Rattle.clap.specs.Faults.{walk_fault, defaults_fault, check_fault, entered_fault, fault_of}
use Rattle.clap.specs.Simple.{built, entered, matches_of}
use Rattle.survey_words.specs.Items.{OptionTexts, is_spelled, no_options, options_after, options_of}
use Rattle.survey_words.specs.Parsed.{simple_command, texts_found}
use Rattle.survey_words.proofs.ParseSteps.{top, rules, settling}
use Rattle.survey_words.proofs.RowLemmas.{both}
use Rattle.survey_words.proofs.ReadLemmas.{Reads, no_texts, rows_end, follows}

or_true : (b : Bool) → b || true ≡ true
or_true true = refl
or_true false = refl

not_zero : (n : ℕ) → (suc n == 0) ≡ true → ⊥
not_zero n e = let zero_is : suc n ≡ 0 = grind (arith, nat_tests) in omega arith

nothing : (values : List Text) → is_empty values ≡ true → values ≡ []
nothing [] e = refl
nothing (v ∷ values) e = absurd (not_zero (length values) e)

-- a rule without defaults adds no row
module _ (rows : List Row) (a : Rule) (none : is_empty a.defaults ≡ true) where
  no_row : with_default rows a ≡ rows
  no_row = ap (λ (values : List Text). if has_row a.id rows then rows else default_rows a.id (reading_by a) values rows) (nothing a.defaults none) ∙ go (has_row a.id rows)
    where
      go : (b : Bool) → (if b then rows else rows) ≡ rows
      go true = refl
      go false = refl

no_rows : (c : List Rule) (rows : List Row) → list_all (λ a. is_empty a.defaults) c ≡ true → fold with_default rows c ≡ rows
no_rows [] rows none = refl
no_rows (a ∷ c) rows none =
    let parts = both (is_empty a.defaults) (list_all (λ a. is_empty a.defaults) c) none in
    ap (λ r. fold with_default r c) (no_row rows a parts.0) ∙ no_rows c rows parts.1

no_fault : (c : List Rule) (rows : List Row) → list_all (λ a. is_empty a.defaults) c ≡ true → defaults_fault rows c ≡ []
unfolding defaults_fault
no_fault [] rows none = refl
no_fault (a ∷ c) rows none =
    let parts = both (is_empty a.defaults) (list_all (λ a. is_empty a.defaults) c) none in
    let passes : (has_row a.id rows || is_empty a.defaults) ≡ true = rw (parts.0) (or_true (has_row a.id rows)) in
    rw passes (ap (λ r. defaults_fault r c) (no_row rows a parts.0) ∙ no_fault c rows parts.1)

or_else_none : (a b : Kinds) → or_else a b ≡ [] → (a ≡ []) × (b ≡ [])
or_else_none [] b e = (refl, e)
or_else_none (k ∷ ks) b e = cc

-- nothing fails after the walk
after_walk : (stop : Option (Text × List Text)) (rows rows_now : List Row)
    → or_else (entered_fault (built simple_command) stop) (or_else [] (or_else (defaults_fault rows rules) (check_fault top rows_now (is_some (entered (built simple_command) stop))))) ≡ []
after_walk None rows rows_now = ap (λ k. or_else k (check_fault top rows_now false)) (no_fault rules rows refl)
after_walk (Some p) rows rows_now = ap (λ k. or_else k (check_fault top rows_now false)) (no_fault rules rows refl)

-- the parse finds the options that the words say, and fails where they say none
pub found_so : (first : Text) (words : List Text) → list_all is_spelled words ≡ true → MatchOption (options_after None no_options words)
    (fault_of simple_command (first ∷ words) ≡ [] → ⊥)
    (λ options. (fault_of simple_command (first ∷ words) ≡ []) × (texts_found (matches_of simple_command (first ∷ words)) ≡ options))
found_so first words spelled = go (options_after None no_options words) ((follows words spelled).rests nothing_held 1 refl refl refl)
  where
    start : Walk
    start = walk_from nothing_held

    end : Walk
    end = fold (walked rules []) (walk_from nothing_held) words

    go : (target : Option OptionTexts) → Reads (walk_from nothing_held) words target → MatchOption target
        (fault_of simple_command (first ∷ words) ≡ [] → ⊥)
        (λ options. (fault_of simple_command (first ∷ words) ≡ []) × (texts_found (matches_of simple_command (first ∷ words)) ≡ options))
    go None fails = λ none.
        let walk_passed = or_else_none (walk_fault top [] start words) _ none in
        let entry_passed = or_else_none (entered_fault (built simple_command) end.stopped) _ walk_passed.1 in
        let end_passed = or_else_none (settling end.held) _ entry_passed.1 in
        fails (ap (λ k. or_else k (settling end.held)) walk_passed.0 ∙ end_passed.0)
    go (Some options) (whole, texts) =
        let parts = or_else_none (walk_fault top [] start words) (settling end.held) whole in (
          rw (parts.0, parts.1) (after_walk end.stopped (settled rules end.held).rows (fold with_default (settled rules end.held).rows rules)),
          ap texts_found (no_rows rules (rows_end start words) refl) ∙ texts,
        )

module _ {X : Type 0} (text : X → List ℕ) where
  -- the options that are found are those of the words after the first
  pub options_found : (words : List X) (rows : List Row) → 0 < length words → list_all is_spelled (map text (drop 1 words)) ≡ true
      → fault_of simple_command (map text words) ≡ [] → rows ≡ matches_of simple_command (map text words) → Some (texts_found rows) ≡ options_of (map text (drop 1 words))
  options_found [] rows some spelled passed found = absurd (omega arith)
  options_found (word ∷ words) rows some spelled passed found =
      go (options_after None no_options (map text words)) (found_so (text word) (map text words) spelled)
      ∙ sym (ap (λ (b : Bool). if b then options_after None no_options (map text words) else no_texts) spelled)
    where
      go : (target : Option OptionTexts) → MatchOption target
          (fault_of simple_command (text word ∷ map text words) ≡ [] → ⊥)
          (λ options. (fault_of simple_command (text word ∷ map text words) ≡ []) × (texts_found (matches_of simple_command (text word ∷ map text words)) ≡ options))
          → Some (texts_found rows) ≡ target
      go None fails = absurd (fails passed)
      go (Some options) (whole, texts) = ap (λ (o : OptionTexts). Some o) (ap texts_found found ∙ texts)

  -- where the parse fails there are none
  pub options_missing : (words : List X) → 0 < length words → list_all is_spelled (map text (drop 1 words)) ≡ true
      → (fault_of simple_command (map text words) ≡ [] → ⊥) → no_texts ≡ options_of (map text (drop 1 words))
  options_missing [] some spelled fails = absurd (omega arith)
  options_missing (word ∷ words) some spelled fails =
      go (options_after None no_options (map text words)) (found_so (text word) (map text words) spelled)
      ∙ sym (ap (λ (b : Bool). if b then options_after None no_options (map text words) else no_texts) spelled)
    where
      go : (target : Option OptionTexts) → MatchOption target
          (fault_of simple_command (text word ∷ map text words) ≡ [] → ⊥)
          (λ options. (fault_of simple_command (text word ∷ map text words) ≡ []) × (texts_found (matches_of simple_command (text word ∷ map text words)) ≡ options))
          → no_texts ≡ target
      go None never = refl
      go (Some options) (whole, texts) = absurd (fails whole)
