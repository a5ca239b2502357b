-- The lines of a journal, one after the other.
use Rattle.std.proofs.Common.{◌≡◌, ℕ, suc, ◌+◌, ◌<◌, ◌≤◌, List, [], ◌∷◌, ◌++◌, length, map, take, drop, Some, slice_get, sym, ap, subst, ◌∙◌, arith, append_assoc, append-nil, take-append-drop}
use Rattle.std.specs.Prelude.{Option, OnOk, OnErr, Result, Ok, Err}
use Rattle.std.specs.List.{All}
use Rattle.std.proofs.lemmas.List.{map_push, map-append}
use Rattle.std.proofs.lemmas.List.Elements.{All-nil, All-cons, All-append}
use Rattle.std.proofs.lemmas.Option.{same_Some}
use mathlib.Core.List.{IsPrefix}
use Rattle.edges.specs.Line.{line_end, unlines}
use Rattle.edges.specs.Told.{Appends, AppendsPrefix}
use Rattle.criteria_model.specs.Criteria.{Criteria}
use Rattle.pair_enumeration.specs.Listed.{Listed}
use Rattle.survey_core.specs.declared.events.Event.{Event}
use Rattle.survey_core.specs.Histories.{item_at}
use Rattle.survey_core.specs.Legal.{IsLegal}
use Rattle.survey_core.proofs.ListSteps.{take_next, take-take, slice_get_inside}
use Rattle.survey_replies.proofs.CallLemmas.{prefix_get}
use Rattle.result_file.specs.Events.{NamesClass}
use Rattle.result_file.specs.Files.{IsOut}
use Rattle.result_file.specs.Numbers.{HasNumbers}
use Rattle.result_file.specs.declared.entries.Format.TheVariants.{Two}
use Rattle.result_file.specs.declared.kinds.Kind.TheVariants as kinds
use Rattle.result_file.specs.Texts.{heading, model_line, end_line}
use Rattle.result_file.proofs.EventOnce.{names_class}
use Rattle.result_file.proofs.OutLemmas.{out_begun, out_more, out_sent, out_failed, unlines-append}

pub on_ok : {A E : Type 0} (result : Result A E) (P Q : Type 0) → (P → Q) → OnOk result P → OnOk result Q
on_ok (Ok a) P Q f h = f h
on_ok (Err e) P Q f h = h

pub on_ok_any : {A E : Type 0} (result : Result A E) (P : Type 0) → P → OnOk result P
on_ok_any (Ok a) P h = h
on_ok_any (Err e) P h = tt

pub on_err : {A E : Type 0} (result : Result A E) (P Q : Type 0) → (P → Q) → OnErr result P → OnErr result Q
on_err (Ok a) P Q f h = h
on_err (Err e) P Q f h = f h

pub on_err_any : {A E : Type 0} (result : Result A E) (P : Type 0) → P → OnErr result P
on_err_any (Ok a) P h = tt
on_err_any (Err e) P h = h

plus_one : (k : ℕ) → k + 1 ≡ suc k
plus_one k = omega arith

-- the lines of the first events
abbrev pub lines_text : (Event → List ℕ) → ℕ → List Event → List ℕ
lines_text line count journal = unlines (map line (take count journal))

lines_more : (line : Event → List ℕ) (journal : List Event) (k : ℕ) (event : Event) → slice_get journal k ≡ Some event
    → lines_text line (suc k) journal ≡ lines_text line k journal ++ (line event ++ line_end ∷ [])
lines_more line journal k event at =
    ap (λ (events : List Event). unlines (map line events)) (take_next journal k event at)
    ∙ ap unlines (map_push line (take k journal) event)
    ∙ unlines-append (map line (take k journal)) (line event ∷ [])

-- the first lines and the others
lines_rest : (line : Event → List ℕ) (journal : List Event) (k n : ℕ) → k ≤ n
    → lines_text line n journal ≡ lines_text line k journal ++ unlines (map line (drop k (take n journal)))
lines_rest line journal k n within =
    let parts : take n journal ≡ take k journal ++ drop k (take n journal) =
    sym (take-append-drop k (take n journal)) ∙ ap (λ (front : List Event). front ++ drop k (take n journal)) (take-take k n journal within) in
    ap (λ (events : List Event). unlines (map line events)) parts
    ∙ ap unlines (map-append line (take k journal) (drop k (take n journal)))
    ∙ unlines-append (map line (take k journal)) (map line (drop k (take n journal)))

line_step_at : (line : Event → List ℕ) (first seen : List Event) (k : ℕ) (before now : Option (List ℕ)) (old bytes new : List ℕ) → IsPrefix first seen
    → k < length first → IsOut before now bytes (old ++ lines_text line k first)
    → ((event : Event) → item_at seen (suc k) ≡ Some event → new ≡ bytes ++ (line event ++ line_end ∷ []))
    → IsOut before now new (old ++ lines_text line (suc k) first)
line_step_at line first seen k before now old bytes new longer within out written =
    let found : (event : Event) × (slice_get first k ≡ Some event) = slice_get_inside first k within in
    let more : List ℕ = line found.0 ++ line_end ∷ [] in
    let is : new ≡ bytes ++ more = written found.0 (prefix_get first seen k found.0 longer found.1) in
    let text : old ++ lines_text line (suc k) first ≡ (old ++ lines_text line k first) ++ more =
    ap (λ (lines : List ℕ). old ++ lines) (lines_more line first k found.0 found.1) ∙ sym (append_assoc old (lines_text line k first) more) in
    rw (is, text) (out_more before now bytes (old ++ lines_text line k first) more out)

-- the line of one event more was put into the buffer
pub line_step : (line : Event → List ℕ) (first seen : List Event) (k : ℕ) (before now : Option (List ℕ)) (old bytes new : List ℕ) → IsPrefix first seen
    → k < length first → IsOut before now bytes (old ++ lines_text line k first)
    → ((event : Event) → item_at seen (k + 1) ≡ Some event → new ≡ bytes ++ (line event ++ line_end ∷ []))
    → IsOut before now new (old ++ lines_text line (k + 1) first)
line_step line first seen k before now old bytes new longer within out =
    rw (plus_one k) (line_step_at line first seen k before now old bytes new longer within out)

numbers_step_at : (first seen : List Event) (k : ℕ) → IsPrefix first seen → k < length first → All HasNumbers (take k first)
    → ((event : Event) → item_at seen (suc k) ≡ Some event → HasNumbers event) → All HasNumbers (take (suc k) first)
numbers_step_at first seen k longer within numbers more =
    let found : (event : Event) × (slice_get first k ≡ Some event) = slice_get_inside first k within in
    let last : HasNumbers found.0 = more found.0 (prefix_get first seen k found.0 longer found.1) in
    subst (λ (events : List Event). All HasNumbers events) (sym (take_next first k found.0 found.1))
    (All-append HasNumbers (take k first) (found.0 ∷ []) numbers (All-cons HasNumbers found.0 [] last (All-nil HasNumbers)))

pub numbers_step : (first seen : List Event) (k : ℕ) → IsPrefix first seen → k < length first → All HasNumbers (take k first)
    → ((event : Event) → item_at seen (k + 1) ≡ Some event → HasNumbers event) → All HasNumbers (take (k + 1) first)
numbers_step first seen k longer within numbers = rw (plus_one k) (numbers_step_at first seen k longer within numbers)

names_at : (listed : Listed) (first seen : List Event) (k : ℕ) → IsLegal listed first → IsPrefix first seen → k < length first
    → (event : Event) → item_at seen (suc k) ≡ Some event → NamesClass listed event
names_at listed first seen k legal longer within event at =
    let found : (other : Event) × (slice_get first k ≡ Some other) = slice_get_inside first k within in
    let there : slice_get seen k ≡ Some found.0 = prefix_get first seen k found.0 longer found.1 in
    let same : found.0 ≡ event = same_Some found.0 event (sym there ∙ at) in
    subst (λ (e : Event). NamesClass listed e) same (names_class listed (take k first) found.0 (legal k found.0 found.1).1)

-- each event of a legal journal names its class
pub legal_names : (listed : Listed) (first seen : List Event) (k : ℕ) → IsLegal listed first → IsPrefix first seen → k < length first
    → (event : Event) → item_at seen (k + 1) ≡ Some event → NamesClass listed event
legal_names listed first seen k legal longer within = rw (plus_one k) (names_at listed first seen k legal longer within)

-- the sink failed before the lines
pub failed_first : (line : Event → List ℕ) (journal : List Event) (n : ℕ) (before now : Option (List ℕ)) (old : List ℕ) → AppendsPrefix before now old
    → AppendsPrefix before now (old ++ lines_text line n journal)
failed_first line journal n before now old failed = out_failed before before now old old (lines_text line n journal) (out_begun before old) failed

-- the sink failed after the lines of the first k events
pub failed_step : (line : Event → List ℕ) (journal : List Event) (k n : ℕ) (before mid now : Option (List ℕ)) (old bytes : List ℕ) → k ≤ n
    → IsOut before mid bytes (old ++ lines_text line k journal) → AppendsPrefix mid now bytes → AppendsPrefix before now (old ++ lines_text line n journal)
failed_step line journal k n before mid now old bytes within out failed =
    let rest : List ℕ = unlines (map line (drop k (take n journal))) in
    let text : old ++ lines_text line n journal ≡ (old ++ lines_text line k journal) ++ rest =
    ap (λ (lines : List ℕ). old ++ lines) (lines_rest line journal k n within) ∙ sym (append_assoc old (lines_text line k journal) rest) in
    rw text (out_failed before mid now bytes (old ++ lines_text line k journal) rest out failed)

-- the end line after all others
pub with_end : (front body : List (List ℕ)) → (unlines front ++ unlines body) ++ unlines (end_line ∷ []) ≡ unlines ((front ++ body) ++ end_line ∷ [])
with_end front body =
    ap (λ (lines : List ℕ). lines ++ unlines (end_line ∷ [])) (sym (unlines-append front body)) ∙ sym (unlines-append (front ++ body) (end_line ∷ []))

-- ---- the whole file

pub file_out : (front body : List (List ℕ)) (before mid now : Option (List ℕ)) (head bytes added : List ℕ) → head ≡ unlines front
    → IsOut before mid bytes (head ++ unlines body) → added ≡ bytes ++ unlines (end_line ∷ []) → Appends mid now added
    → Appends before now (unlines ((front ++ body) ++ end_line ∷ []))
file_out front body before mid now head bytes added is out ended sent =
    let all : IsOut before mid (bytes ++ unlines (end_line ∷ [])) ((head ++ unlines body) ++ unlines (end_line ∷ [])) =
    out_more before mid bytes (head ++ unlines body) (unlines (end_line ∷ [])) out in
    rw (sym (with_end front body)) (rw is at (out_sent before mid now (bytes ++ unlines (end_line ∷ [])) _ all (rw ended at sent)))

pub file_failed : (front body : List (List ℕ)) (before mid now : Option (List ℕ)) (head bytes added : List ℕ) → head ≡ unlines front
    → IsOut before mid bytes (head ++ unlines body) → added ≡ bytes ++ unlines (end_line ∷ []) → AppendsPrefix mid now added
    → AppendsPrefix before now (unlines ((front ++ body) ++ end_line ∷ []))
file_failed front body before mid now head bytes added is out ended failed =
    let whole : List ℕ = (head ++ unlines body) ++ unlines (end_line ∷ []) in
    let all : IsOut before mid (bytes ++ unlines (end_line ∷ [])) whole = out_more before mid bytes (head ++ unlines body) (unlines (end_line ∷ [])) out in
    let more : AppendsPrefix before now (whole ++ []) =
    out_failed before mid now (bytes ++ unlines (end_line ∷ [])) whole [] all (rw ended at failed) in
    let text : whole ++ [] ≡ unlines ((front ++ body) ++ end_line ∷ []) =
    append-nil whole ∙ ap (λ (begun : List ℕ). (begun ++ unlines body) ++ unlines (end_line ∷ [])) is ∙ with_end front body in
    subst (λ (bytes : List ℕ). AppendsPrefix before now bytes) text more

pub file_failed_early : (front body : List (List ℕ)) (before now : Option (List ℕ)) (head : List ℕ) → head ≡ unlines front
    → AppendsPrefix before now (head ++ unlines body) → AppendsPrefix before now (unlines ((front ++ body) ++ end_line ∷ []))
file_failed_early front body before now head is failed =
    let begun : List ℕ = head ++ unlines body in
    let more : AppendsPrefix before now (begun ++ unlines (end_line ∷ [])) =
    out_failed before before now begun begun (unlines (end_line ∷ [])) (out_begun before begun) failed in
    let text : begun ++ unlines (end_line ∷ []) ≡ unlines ((front ++ body) ++ end_line ∷ []) =
    ap (λ (first : List ℕ). (first ++ unlines body) ++ unlines (end_line ∷ [])) is ∙ with_end front body in
    subst (λ (bytes : List ℕ). AppendsPrefix before now bytes) text more

-- the heading, in a text that was empty
pub head_is : (old bytes : List ℕ) (model criteria : Criteria) → old ≡ [] → model ≡ criteria
    → bytes ≡ old ++ unlines (heading (kinds.Result Two) ∷ model_line model ∷ []) → bytes ≡ unlines (heading (kinds.Result Two) ∷ model_line criteria ∷ [])
head_is old bytes model criteria empty same written =
    written ∙ ap (λ (begun : List ℕ). begun ++ unlines (heading (kinds.Result Two) ∷ model_line model ∷ [])) empty
    ∙ ap (λ (m : Criteria). unlines (heading (kinds.Result Two) ∷ model_line m ∷ [])) same
