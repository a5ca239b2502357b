-- Names that stand twice, name after name.
use Rattle.std.proofs.Common.{◌≡◌, ℕ, List, [], ◌∷◌, ◌++◌, length, map, bytes_eq, Bool, true, false, not, if◌then◌else◌, is_some, MatchOption, IfOk, Result, Ok, Err, Option, Some, None, String, Global, string_bytes, cond, ◌||◌, ◌∙◌, ap, sym, subst, refl, append_assoc, append-nil, arith}
use Rattle.std.specs.List.{list_any}
use Rattle.std.specs.Map.{lookup}
use Rattle.std.proofs.lemmas.List.Folds.{list_any-append}
use Rattle.std.proofs.lemmas.List.{map-append}
use Rattle.std.proofs.lemmas.Slice.Eq.{bytes_eq-Decides}
use Rattle.indexmap.specs.IndexSet.{IndexSet, insert_key}
use Rattle.json_forms.specs.DefinitionViews.{CriterionView, RespondentView}
use Rattle.json_forms.specs.EntryViews.{kept_criterion, name_of, respondent_view}
use Rattle.json_forms.specs.Definitions.{repeats, repeats_criteria}

neither : (a b : Bool) → (a || b) ≡ false → (a ≡ false) × (b ≡ false)
neither true b h = absurd (cc h)
neither false b h = (refl, h)

none_of : (a b : Bool) → a ≡ false → b ≡ false → (a || b) ≡ false
none_of a b h k = rw (h, k) refl

first_of : (a b : Bool) → a ≡ true → (a || b) ≡ true
first_of a b h = rw h refl

second_of : (a b : Bool) → b ≡ true → (a || b) ≡ true
second_of true b h = refl
second_of false b h = h

same_turned : (a b : List ℕ) → bytes_eq a b ≡ true → bytes_eq b a ≡ true
same_turned a b h = (bytes_eq-Decides b a).1 (sym ((bytes_eq-Decides a b).0 h))

not_turned : (a b : List ℕ) (turned : Bool) → bytes_eq b a ≡ turned → bytes_eq a b ≡ false → turned ≡ false
not_turned a b true is h = absurd (cc (sym h ∙ same_turned b a is))
not_turned a b false is h = refl

-- a name that none before it is the same as
pub repeats-new : (names : List (List ℕ)) (name : List ℕ) → repeats names ≡ false → list_any (bytes_eq name) names ≡ false → repeats (names ++ name ∷ []) ≡ false
repeats-new [] name once new = refl
repeats-new (first ∷ names) name once new =
    let was = neither (list_any (bytes_eq first) names) (repeats names) once in
    let other = neither (bytes_eq name first) (list_any (bytes_eq name) names) new in
    none_of (list_any (bytes_eq first) (names ++ name ∷ [])) (repeats (names ++ name ∷ []))
    (list_any-append (bytes_eq first) names (name ∷ []) ∙ none_of (list_any (bytes_eq first) names) (bytes_eq first name || false) was.0
    (none_of (bytes_eq first name) false (not_turned name first (bytes_eq first name) refl other.0) refl))
    (repeats-new names name was.1 other.1)

again : (same : Bool) (first name : List ℕ) (names more : List (List ℕ)) → bytes_eq name first ≡ same → (same || list_any (bytes_eq name) names) ≡ true
    → (list_any (bytes_eq name) names ≡ true → repeats (names ++ name ∷ more) ≡ true) → (list_any (bytes_eq first) (names ++ name ∷ more) || repeats (names ++ name ∷ more)) ≡ true
again true first name names more is h rest =
    first_of (list_any (bytes_eq first) (names ++ name ∷ more)) (repeats (names ++ name ∷ more))
    (list_any-append (bytes_eq first) names (name ∷ more) ∙ second_of (list_any (bytes_eq first) names) (bytes_eq first name || list_any (bytes_eq first) more)
    (first_of (bytes_eq first name) (list_any (bytes_eq first) more) (same_turned name first is)))
again false first name names more is h rest = second_of (list_any (bytes_eq first) (names ++ name ∷ more)) (repeats (names ++ name ∷ more)) (rest h)

-- a name that one before it is the same as
pub repeats-again : (names : List (List ℕ)) (name : List ℕ) (more : List (List ℕ)) → list_any (bytes_eq name) names ≡ true → repeats (names ++ name ∷ more) ≡ true
repeats-again [] name more h = absurd (cc h)
repeats-again (first ∷ names) name more h =
    again (bytes_eq name first) first name names more refl h (repeats-again names name more)

turned : (b : Bool) → not b ≡ false → b ≡ true
turned true h = refl
turned false h = cc h

unturned : (b : Bool) → not b ≡ true → b ≡ false
unturned true h = cc h
unturned false h = refl

last : {X : Type 0} (found : Bool) (xs : List X) (x : X) → found ≡ false → (if found then xs else xs ++ x ∷ []) ≡ xs ++ x ∷ []
last true xs x h = cc h
last false xs x h = refl

-- a text is among texts exactly where its bytes are among their bytes
pub any_text : (text : String Global) (texts : List (String Global))
    → list_any (λ other. bytes_eq (string_bytes text) (string_bytes other)) texts ≡ list_any (bytes_eq (string_bytes text)) (map string_bytes texts)
any_text text [] = refl
any_text text (other ∷ texts) = ap (λ rest. bytes_eq (string_bytes text) (string_bytes other) || rest) (any_text text texts)

found_or : {X : Type 0} (b : Bool) (v : X) (found : Option X) (rest : Bool) → is_some found ≡ rest → is_some (cond b (Some v) found) ≡ (b || rest)
found_or true v found rest h = refl
found_or false v found rest h = h

-- a key is found exactly where its bytes are among the names
pub any_name : {V : Type 0} (key : String Global) (entries : List (String Global × V))
    → is_some (lookup (λ other. bytes_eq (string_bytes key) (string_bytes other)) entries) ≡ list_any (bytes_eq (string_bytes key)) (map name_of entries)
any_name key [] = refl
any_name key (entry ∷ entries) =
    found_or (bytes_eq (string_bytes key) (string_bytes entry.0)) entry.1 (lookup (λ other. bytes_eq (string_bytes key) (string_bytes other)) entries) _ (any_name key entries)

module _ {X : Type 0} (shown : X → List ℕ) (items done rest : List X) (item : X) where
  -- an item whose name stood before
  pub shown-again : done ++ item ∷ rest ≡ items → list_any (bytes_eq (shown item)) (map shown done) ≡ true → repeats (map shown items) ≡ true
  shown-again whole found =
      let P : List (List ℕ) → Type 0 = λ names. repeats names ≡ true in
      subst P (sym (map-append shown done (item ∷ rest)) ∙ ap (map shown) whole) (repeats-again (map shown done) (shown item) (map shown rest) found)

  -- an item with a new name
  pub shown-new : repeats (map shown done) ≡ false → list_any (bytes_eq (shown item)) (map shown done) ≡ false → repeats (map shown (done ++ item ∷ [])) ≡ false
  shown-new once new =
      let P : List (List ℕ) → Type 0 = λ names. repeats names ≡ false in
      subst P (sym (map-append shown done (item ∷ []))) (repeats-new (map shown done) (shown item) once new)

pub nothing_left : {X : Type 0} (done rest items : List X) → length rest ≡ 0 → done ++ rest ≡ items → done ≡ items
nothing_left done [] items none whole = sym (append-nil done) ∙ whole
nothing_left done (x ∷ rest) items none whole = absurd (omega (arith, none))

pub step_whole : {X : Type 0} (done rest left items : List X) (item : X) → left ≡ item ∷ rest → done ++ left ≡ items → (done ++ item ∷ []) ++ rest ≡ items
step_whole done rest left items item is whole = append_assoc done (item ∷ []) rest ∙ ap (λ l. done ++ l) (sym is) ∙ whole

module _ (text : String Global) (keys done : List (String Global)) (added : Bool) (kept : keys ≡ done)
    (is : added ≡ not (list_any (λ other. bytes_eq (string_bytes text) (string_bytes other)) keys)) where
  among : list_any (bytes_eq (string_bytes text)) (map string_bytes done) ≡ list_any (λ other. bytes_eq (string_bytes text) (string_bytes other)) keys
  among = sym (any_text text done) ∙ ap (list_any (λ other. bytes_eq (string_bytes text) (string_bytes other))) (sym kept)

  pub text-seen : added ≡ false → list_any (bytes_eq (string_bytes text)) (map string_bytes done) ≡ true
  text-seen refused = among ∙ turned (list_any (λ other. bytes_eq (string_bytes text) (string_bytes other)) keys) (sym is ∙ refused)

  pub text-new : added ≡ true → list_any (bytes_eq (string_bytes text)) (map string_bytes done) ≡ false
  text-new taken = among ∙ unturned (list_any (λ other. bytes_eq (string_bytes text) (string_bytes other)) keys) (sym is ∙ taken)

  pub text-kept : (now : List (String Global)) → added ≡ true → now ≡ insert_key (λ one other. bytes_eq (string_bytes one) (string_bytes other)) keys text → now ≡ done ++ text ∷ []
  text-kept now taken inserted =
      let seen : Bool = list_any (λ other. bytes_eq (string_bytes text) (string_bytes other)) keys in
      inserted ∙ last seen keys text (unturned seen (sym is ∙ taken))
      ∙ ap (λ front. front ++ text ∷ []) kept

module _ {V : Type 0} (key : String Global) (entries done : List (String Global × V)) (kept : entries ≡ done) where
  pub name-is : (found : Bool) → found ≡ is_some (lookup (λ other. bytes_eq (string_bytes key) (string_bytes other)) entries) → list_any (bytes_eq (string_bytes key)) (map name_of done) ≡ found
  name-is found is = ap (λ es. list_any (bytes_eq (string_bytes key)) (map name_of es)) (sym kept) ∙ sym (any_name key entries) ∙ sym is

pub none_found : {X : Type 0} (found : Option X) → false ≡ is_some found → found ≡ None
none_found None h = refl
none_found (Some x) h = cc h

pub ok_map : {A E : Type 0} (r : Result A E) (P Q : A → Type 0) → ((x : A) → P x → Q x) → IfOk r P → IfOk r Q
ok_map (Ok x) P Q f h = f x h
ok_map (Err e) P Q f h = tt

pub respondent_names : (entries : List (String Global × String Global)) → map name_of entries ≡ map (λ (r : RespondentView). r.name) (map respondent_view entries)
respondent_names [] = refl
respondent_names (e ∷ entries) = ap (λ names. string_bytes e.0 ∷ names) (respondent_names entries)

pub criterion_names : {S : Type 0} (entries : List (String Global × IndexSet (String Global) S)) → map name_of entries ≡ map (λ (c : CriterionView). c.name) (map kept_criterion entries)
criterion_names [] = refl
criterion_names (e ∷ entries) = ap (λ names. string_bytes e.0 ∷ names) (criterion_names entries)

-- what is known of the names and of each criterion's levels, together
pub criteria_end : {M S : Type 0} (entries : M → List (String Global × IndexSet (String Global) S)) (found : Option M)
    (kept : List (String Global × IndexSet (String Global) S)) (views : List CriterionView)
    → map kept_criterion kept ≡ views → list_any (λ (c : CriterionView). repeats c.levels) views ≡ false
    → MatchOption found (repeats (map name_of kept) ≡ true) (λ m. (entries m ≡ kept) × (repeats (map name_of kept) ≡ false))
    → MatchOption found (repeats_criteria views ≡ true) (λ m. (map kept_criterion (entries m) ≡ views) × (repeats_criteria views ≡ false))
criteria_end entries None kept views same once h =
    second_of (list_any (λ (c : CriterionView). repeats c.levels) views) (repeats (map (λ (c : CriterionView). c.name) views))
    (ap (λ vs. repeats (map (λ (c : CriterionView). c.name) vs)) (sym same) ∙ ap repeats (sym (criterion_names kept)) ∙ h)
criteria_end entries (Some m) kept views same once h = (
  ap (map kept_criterion) h.0 ∙ same,
  none_of (list_any (λ (c : CriterionView). repeats c.levels) views) (repeats (map (λ (c : CriterionView). c.name) views)) once
      (ap (λ vs. repeats (map (λ (c : CriterionView). c.name) vs)) (sym same) ∙ ap repeats (sym (criterion_names kept)) ∙ h.1),
)
