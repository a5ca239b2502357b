-- Each text deserves a verdict: the right lines at its front can be taken one by one, and what stops there is a verdict. Nothing
-- is decided: where none stopped, and none went on, there would be a contradiction.
use Rattle.std.proofs.Common.{◌≡◌, ℕ, zero, suc, ◌+◌, ◌<◌, ◌≤◌, Bool, true, false, List, [], ◌∷◌, ◌++◌, length, map, refl, sym, ap, ◌∙◌, inl, inr, arith, if◌then◌else◌, ◌==◌, nat_lt, ◌||◌, length-append}
use Rattle.std.specs.Prelude.{Option, Some, None, All}
use Rattle.std.proofs.lemmas.Bool.{cases_Bool, cases_lt, ltb-false}
use Rattle.std.proofs.lemmas.List.{map_push}
use Rattle.std.proofs.lemmas.List.Elements.{All-nil, All-cons, All-append}
use Rattle.edges.specs.Line.{HasNoLineEnd, Splits, first_line, line_end, unlines}
use Rattle.edges.proofs.LineLaws.{first_line-line, first_line-piece, unlines-push}
use Rattle.edges.proofs.SplitLaws.{first_split}
use Rattle.criteria_model.specs.declared.faults.ModelFault.TheVariants.{NoCriteria, Levels, Increments, Degree, Classes}
use Rattle.criteria_model.specs.Counts.{class_count}
use Rattle.criteria_model.specs.Criteria.{Criteria, IsModel}
use Rattle.criteria_model.specs.Worth.{increments}
use Rattle.criteria_model.specs.Faults.{model_fault, first_low}
use Rattle.pair_enumeration.specs.Listed.{Listed}
use Rattle.pair_enumeration.proofs.ListLemmas.{listed_is_list}
use Rattle.pair_enumeration.specs.Walks.{listed_classes}
use Rattle.pair_enumeration.proofs.SearchLemmas.{contains_stands}
use Rattle.pair_enumeration.specs.Places.{class_at}
use Rattle.criteria_model.specs.Classes.{IsClass}
use Rattle.criteria_model.specs.declared.pairs.Pair.{Pair}
use Rattle.farkas_check.specs.declared.flaws.Flaw.{Flaw}
use Rattle.farkas_check.specs.declared.flaws.Flaw.TheVariants as flaws
use Rattle.farkas_check.specs.Flaws.{IsFirstFlaw}
use Rattle.survey_core.specs.declared.events.Event.{Event}
use Rattle.survey_core.specs.Recorded.{Recorded}
use Rattle.survey_core.specs.Legal.{MayFollow}
use Rattle.survey_core.specs.declared.events.Event.TheVariants as events
use Rattle.survey_core.proofs.NextKept.{legal_push}
use Rattle.survey_core.specs.declared.limits.TheConstants.{MAX_EVENTS}
use Rattle.result_file.specs.declared.limits.TheConstants.{MAX_LINE}
use Rattle.result_file.specs.declared.eliminations.Elimination.{Elimination}
use Rattle.result_file.specs.declared.entries.Entry.{Entry}
use Rattle.result_file.specs.declared.entries.Entry.TheVariants.{Eliminate, Issue, Commit, Close, Withdraw}
use Rattle.result_file.specs.declared.entries.Format.{Format}
use Rattle.result_file.specs.declared.kinds.Kind.{Kind}
use Rattle.result_file.specs.declared.kinds.Kind.TheVariants as kinds
use Rattle.result_file.specs.declared.verdicts.Part.{Part}
use Rattle.result_file.specs.declared.verdicts.Part.TheVariants.{Form, Model, Limit, Class, Scale, Increment, Cite, Weight, Sum, Strict}
use Rattle.result_file.specs.declared.verdicts.Checked.{Checked}
use Rattle.result_file.specs.declared.verdicts.Checked.TheVariants.{Valid, ValidComplete, Invalid, Unfinished}
use Rattle.result_file.specs.Checked.{Stage, blank, headed, begun, ended, Says, Fails, NextFails, IsChecked}
use Rattle.result_file.specs.Claims.{Claim, answered, eliminated, pair_of, answers_of}
use Rattle.result_file.specs.Contents.{Content, of_claims, of_events, lines_of, IsRightContent}
use Rattle.result_file.specs.Entries.{HasEntryForm}
use Rattle.result_file.specs.Events.{as_entry, event_line, Tells}
use Rattle.result_file.specs.Laws.{IsOnText, EachHasVerdict}
use Rattle.result_file.specs.Parts.{part_of}
use Rattle.result_file.specs.Progress.{EndsAs}
use Rattle.result_file.specs.RightClaims.{HasForm, Holds, IsRight, AreClaims}
use Rattle.result_file.specs.RightEvents.{AreEvents}
use Rattle.result_file.specs.Texts.{heading, end_line, model_line, claim_line, entry_line}
use Rattle.result_file.proofs.ContentLaws.{more_claims, no_claims}
use Rattle.result_file.proofs.FirstParts.{some_flaw, some_part}
use Rattle.result_file.proofs.EventLaws.{is_event, not_allowed, stands_read, stands_within}
use Rattle.result_file.proofs.StepLaws.{lines_push}
use Rattle.result_file.proofs.VerdictLaws.{one_unbroken, ends_checked}

-- ---- a model without a fault

not_that : {X : Type 0} (b : Bool) (x : X) (rest : Option X) → (if b then Some x else rest) ≡ None → (b ≡ false) × (rest ≡ None)
not_that true x rest h = absurd cc
not_that false x rest h = (refl, h)

neither : (a b : Bool) → (a || b) ≡ false → (a ≡ false) × (b ≡ false)
neither true b h = absurd cc
neither false b h = (refl, h)

none_low : (levels : List ℕ) → length levels ≤ first_low levels → All (λ n. 2 ≤ n) levels
none_low [] h = All-nil (λ n. 2 ≤ n)
none_low (n ∷ levels) h =
    elim (cases_Bool (nat_lt n 2)) [
      | inl low ↦ (let first : first_low (n ∷ levels) ≡ 0 = rw low refl in absurd (omega (arith, h, first)))
      | inr high ↦
          (let later : first_low (n ∷ levels) ≡ 1 + first_low levels = rw high refl in
          All-cons (λ n. 2 ≤ n) n levels (ltb-false n 2 high) (none_low levels (omega (arith, h, later))))
    ]

some_level : (levels : List ℕ) → (length levels == 0) ≡ false → 1 ≤ length levels
some_level [] h = absurd cc
some_level (n ∷ levels) h = omega arith

is_model : (criteria : Criteria) → model_fault criteria.levels criteria.degree ≡ None → IsModel criteria
is_model criteria h =
    let levels : List ℕ = criteria.levels in
    let some = not_that (length levels == 0) NoCriteria _ h in
    let two = not_that (nat_lt (first_low levels) (length levels)) (Levels (first_low levels + 1)) _ some.1 in
    let few = not_that (nat_lt 24 (increments levels)) (Increments (increments levels)) _ two.1 in
    let degree = not_that (nat_lt criteria.degree 1 || nat_lt (length levels) criteria.degree) Degree _ few.1 in
    let classes = not_that (nat_lt 16384 (class_count levels criteria.degree)) (Classes (class_count levels criteria.degree)) None degree.1 in
    let bounds = neither (nat_lt criteria.degree 1) (nat_lt (length levels) criteria.degree) degree.0 in
    record {
      some = some_level levels some.0;
      two_levels = none_low levels (ltb-false _ _ two.0);
      few_increments = ltb-false _ _ few.0;
      degree_from_one = ltb-false _ _ bounds.0;
      degree_within = ltb-false _ _ bounds.1;
      few_classes = ltb-false _ _ classes.0;
    }

-- ---- a line after a stage

-- no stage follows with the line, and no part of it is wrong
record Stops (lines : List (List ℕ)) (stage : Stage) (line : List ℕ) : Type 0 where
  goes : (next : Stage) → ¬ Says (lines ++ line ∷ []) next
  fails : (part : Part) → ¬ Fails stage line part

push_one : (lines : List (List ℕ)) (one line other : List ℕ) → lines ≡ one ∷ [] → line ≡ other → lines ++ line ∷ [] ≡ one ∷ other ∷ []
push_one lines one line other e f = rw (e, f) refl

-- a right content of this kind and model that has no line yet
record Starts (kind : Kind) (criteria : Criteria) : Type 0 where
  content : Content
  right : IsRightContent content
  lines : lines_of content ≡ heading kind ∷ model_line criteria ∷ []

starts : (kind : Kind) (criteria : Criteria) → IsModel criteria → Starts kind criteria
starts kinds.Claims criteria m = record { content = of_claims criteria []; right = no_claims criteria m; lines = refl }
starts (kinds.Result format) criteria m =
    let listed : Listed = record { criteria = criteria; classes = listed_classes criteria.levels criteria.degree } in
    record {
      content = of_events format (record { listed = listed; history = [] });
      right = record { listed = listed_is_list criteria m; legal = λ k event at. absurd cc; forms = All-nil _ };
      lines = refl;
    }

-- a claim of a right form
claim_stops : (criteria : Criteria) (claims : List Claim) (lines : List (List ℕ)) (line : List ℕ) (claim : Claim) → AreClaims criteria claims
    → lines ≡ lines_of (of_claims criteria claims) → Stops lines (begun (of_claims criteria claims)) line → HasForm criteria claim → line ≡ claim_line claim → ⊥
claim_stops criteria claims lines line claim right whole stops form spelled =
    elim (cases_lt (length claims) MAX_EVENTS) [
      | inr many ↦ stops.fails Limit (claim, form, spelled, many)
      | inl room ↦ stops.fails Class (claim, form, spelled, (room, λ class. judged claim form spelled room class))
    ]
  where
    adds : (claim : Claim) → HasForm criteria claim → line ≡ claim_line claim → length claims < MAX_EVENTS → IsClass criteria (pair_of claim)
        → Holds criteria claims claim → ⊥
    adds claim form spelled room class holds =
        let is_right : IsRight criteria claims claim = record { form = form; room = room; class = class; proof = holds } in
        let pushed : lines_of (of_claims criteria (claims ++ claim ∷ [])) ≡ lines_of (of_claims criteria claims) ++ line ∷ [] =
        lines_push kinds.Claims criteria _ _ line (map_push claim_line claims claim ∙ ap (λ (l : List ℕ). map claim_line claims ++ l ∷ []) (sym spelled)) in
        stops.goes (begun (of_claims criteria (claims ++ claim ∷ [])))
        (more_claims criteria claims claim right is_right, ap (λ (ls : List (List ℕ)). ls ++ line ∷ []) whole ∙ sym pushed)

    wrong : (e : Elimination) → HasForm criteria (eliminated e) → line ≡ claim_line (eliminated e) → length claims < MAX_EVENTS → IsClass criteria e.pair
        → (flaw : Flaw) → ¬ IsFirstFlaw criteria.levels (answers_of claims) e.combination e.pair e.verdict (Some flaw)
    wrong e form spelled room class flaws.Scale h = stops.fails Scale (eliminated e, form, spelled, (room, class, (flaws.Scale, refl, h)))
    wrong e form spelled room class flaws.Increment h = stops.fails Increment (eliminated e, form, spelled, (room, class, (flaws.Increment, refl, h)))
    wrong e form spelled room class flaws.Cite h = stops.fails Cite (eliminated e, form, spelled, (room, class, (flaws.Cite, refl, h)))
    wrong e form spelled room class flaws.Weight h = stops.fails Weight (eliminated e, form, spelled, (room, class, (flaws.Weight, refl, h)))
    wrong e form spelled room class flaws.Sum h = stops.fails Sum (eliminated e, form, spelled, (room, class, (flaws.Sum, refl, h)))
    wrong e form spelled room class flaws.Strict h = stops.fails Strict (eliminated e, form, spelled, (room, class, (flaws.Strict, refl, h)))

    judged : (claim : Claim) → HasForm criteria claim → line ≡ claim_line claim → length claims < MAX_EVENTS → IsClass criteria (pair_of claim) → ⊥
    judged (answered answer) form spelled room class = adds (answered answer) form spelled room class tt
    judged (eliminated e) form spelled room class =
        some_flaw criteria.levels (answers_of claims) e.combination e.pair e.verdict form.combination.len (wrong e form spelled room class)
        (λ proved. adds (eliminated e) form spelled room class proved)

-- an entry of a right form
entry_stops : (format : Format) (survey : Recorded) (lines : List (List ℕ)) (line : List ℕ) (entry : Entry) → AreEvents format survey
    → lines ≡ lines_of (of_events format survey) → Stops lines (begun (of_events format survey)) line
    → HasEntryForm format survey.listed.criteria entry → line ≡ entry_line entry → ⊥
entry_stops format survey lines line entry right whole stops form spelled =
    elim (cases_lt (length survey.history) MAX_EVENTS) [
      | inr many ↦ stops.fails Limit (entry, form, spelled, many)
      | inl room ↦ named room entry form spelled
    ]
  where
    adds : (event : Event) (entry : Entry) → length survey.history < MAX_EVENTS → HasEntryForm format survey.listed.criteria entry → line ≡ entry_line entry
        → Tells survey.listed entry event → MayFollow survey.listed survey.history event → ⊥
    adds event entry room form spelled tells may =
        let more : Recorded = record { listed = survey.listed; history = survey.history ++ event ∷ [] } in
        let P : Event → Type 0 = λ e. HasEntryForm format survey.listed.criteria (as_entry survey.listed.classes e) in
        let written : Event → List ℕ = event_line survey.listed.classes in
        let line_is : line ≡ written event = spelled ∙ ap entry_line tells.told in
        let pushed : lines_of (of_events format more) ≡ lines_of (of_events format survey) ++ line ∷ [] =
        lines_push (kinds.Result format) survey.listed.criteria _ _ line (map_push written survey.history event ∙ ap (λ (l : List ℕ). map written survey.history ++ l ∷ []) (sym line_is)) in
        let right_more : AreEvents format more = record {
          listed = right.listed;
          legal = legal_push survey.listed survey.history event right.legal (is_event format survey.listed entry event form tells) may;
          forms = All-append P survey.history (event ∷ []) right.forms (All-cons P event [] (rw tells.told at form) (All-nil P));
        } in
        stops.goes (begun (of_events format more)) (right_more, ap (λ (ls : List (List ℕ)). ls ++ line ∷ []) whole ∙ sym pushed)

    judged : (event : Event) (entry : Entry) → length survey.history < MAX_EVENTS → HasEntryForm format survey.listed.criteria entry → line ≡ entry_line entry
        → Tells survey.listed entry event → ⊥
    judged event entry room form spelled tells =
        some_part survey.listed survey.history event (is_event format survey.listed entry event form tells)
        (λ lacked h. stops.fails (part_of lacked) (not_allowed lacked (part_of lacked) format survey line entry event form spelled room tells h refl))
        (λ may. adds event entry room form spelled tells may)

    there : (pair : Pair) → IsClass survey.listed.criteria pair → (place : ℕ) × (class_at survey.listed.classes place ≡ Some pair)
    there pair class = contains_stands survey.listed.classes pair ((right.listed.list.members pair).1 class)

    named : length survey.history < MAX_EVENTS → (entry : Entry) → HasEntryForm format survey.listed.criteria entry → line ≡ entry_line entry → ⊥
    named room (Eliminate e) form spelled =
        stops.fails Class (
          Eliminate e,
          form,
          spelled,
          (
            room,
            λ class.
                let at = there e.pair class in
                judged (events.Eliminate e.worker at.0 e.verdict e.combination) (Eliminate e) room form spelled
                (record {
                  class = stands_within survey.listed.classes at.0 e.pair at.1;
                  told = ap (λ (pair : Pair). Eliminate (record { worker = e.worker; pair = pair; verdict = e.verdict; combination = e.combination })) (sym (stands_read survey.listed.classes at.0 e.pair at.1));
                }),
          ),
        )
    named room (Issue desk pair plus minus) form spelled =
        stops.fails Class (
          Issue desk pair plus minus,
          form,
          spelled,
          (
            room,
            λ class.
                let at = there pair class in
                judged (events.Issue desk at.0 plus minus) (Issue desk pair plus minus) room form spelled
                (record {
                  class = stands_within survey.listed.classes at.0 pair at.1;
                  told = ap (λ (p : Pair). Issue desk p plus minus) (sym (stands_read survey.listed.classes at.0 pair at.1));
                }),
          ),
        )
    named room (Commit desk question side plus minus point) form spelled =
        judged (events.Commit desk question side plus minus point) _ room form spelled (record { class = tt; told = refl })
    named room (Close desk question) form spelled = judged (events.Close desk question) _ room form spelled (record { class = tt; told = refl })
    named room (Withdraw desk answer) form spelled = judged (events.Withdraw desk answer) _ room form spelled (record { class = tt; told = refl })

-- no line stops a stage that can go on
line_stops : (stage : Stage) (lines : List (List ℕ)) (line : List ℕ) → Says lines stage → ¬ Stops lines stage line
line_stops blank lines line says stops =
    stops.fails Form (λ kind same. stops.goes (headed kind) (rw (says, same) refl))
line_stops (headed kind) lines line says stops =
    stops.fails Form (λ criteria form same. stops.fails Model (
      criteria,
      form,
      same,
      λ none.
          let start : Starts kind criteria = starts kind criteria (is_model criteria none) in
          stops.goes (begun start.content) (start.right, push_one lines (heading kind) line (model_line criteria) says same ∙ sym start.lines),
    ))
line_stops (begun (of_claims criteria claims)) lines line says stops =
    stops.fails Form (
      λ same. stops.goes (ended (of_claims criteria claims)) (says.0, rw same (ap (λ (ls : List (List ℕ)). ls ++ end_line ∷ []) says.1)),
      λ claim form same. claim_stops criteria claims lines line claim says.0 says.1 stops form same,
    )
line_stops (begun (of_events format survey)) lines line says stops =
    stops.fails Form (
      λ same. stops.goes (ended (of_events format survey)) (says.0, rw same (ap (λ (ls : List (List ℕ)). ls ++ end_line ∷ []) says.1)),
      λ entry form same. entry_stops format survey lines line entry says.0 says.1 stops form same,
    )
line_stops (ended content) lines line says stops = stops.fails Form tt

-- ---- the end of the text

-- a text that deserves no verdict
abbrev HasNone : List ℕ → Type 0
HasNone text = (verdict : Checked) → IsOnText verdict → ¬ IsChecked text verdict

-- a piece that ends after a stage is of some verdict
piece_ends : (stage : Stage) (piece : List ℕ) (number : ℕ) → ((verdict : Checked) → IsOnText verdict → ¬ EndsAs stage piece number verdict) → ⊥
piece_ends blank piece number none = none (Unfinished number) tt (tt, refl)
piece_ends (headed kind) piece number none = none (Unfinished number) tt (tt, refl)
piece_ends (begun content) piece number none =
    none (Unfinished number) tt (λ same. none Valid tt (same, λ complete. none ValidComplete tt (same, complete)), refl)
piece_ends (ended content) [] number none = none Valid tt (refl, λ complete. none ValidComplete tt (refl, complete))
piece_ends (ended content) (byte ∷ piece) number none = none (Invalid number Form) tt (tt, λ same. cc, refl, refl)

-- ---- all lines

-- right lines came of a text, and this rest is left
record HasCome (text : List ℕ) (lines : List (List ℕ)) (stage : Stage) (rest : List ℕ) : Type 0 where
  split : Splits text lines rest
  says : Says lines stage

-- what comes next fails
next_wrong : (text : List ℕ) (lines : List (List ℕ)) (stage : Stage) (rest : List ℕ) (part : Part) → HasCome text lines stage rest
    → NextFails stage rest part → HasNone text → ⊥
next_wrong text lines stage rest part come wrong none =
    none (Invalid (length lines + 1) part) tt (record {
      lines = lines;
      rest = rest;
      stage = stage;
      split = come.split;
      says = come.says;
      number = refl;
      next = wrong;
    })

too_long : (text : List ℕ) (lines : List (List ℕ)) (stage : Stage) (rest first : List ℕ) → HasCome text lines stage rest → first_line rest ≡ first
    → MAX_LINE < length first → HasNone text → ⊥
too_long text lines stage rest first come is long none = next_wrong text lines stage rest Form come (inl (rw is long, refl)) none

-- the next line, where each shorter rest has some verdict
line_next : (text : List ℕ) (lines : List (List ℕ)) (stage : Stage) (rest line after : List ℕ) → HasNoLineEnd line → rest ≡ line ++ line_end ∷ after
    → ((more : List (List ℕ)) (next : Stage) → length after < length rest → ¬ HasCome text more next after)
    → HasCome text lines stage rest → HasNone text → ⊥
line_next text lines stage rest line after unbroken is later come none = elim (cases_lt MAX_LINE (length line)) [
  | inl long ↦ too_long text lines stage rest line come (ap first_line is ∙ first_line-line line after unbroken) long none
  | inr fits ↦ line_stops stage lines line come.says (record {
    goes = λ next says. later (lines ++ line ∷ []) next (omega (arith, ap length is, length-append line (line_end ∷ after))) (record {
      split = record {
        whole = come.split.whole ∙ ap (λ (bytes : List ℕ). unlines lines ++ bytes) is ∙ sym (unlines-push lines line after);
        unbroken = All-append HasNoLineEnd lines (line ∷ []) come.split.unbroken (one_unbroken line unbroken);
      };
      says = says;
    });
    fails = λ part h. next_wrong text lines stage rest part come (inr (inr (record {
      line = line;
      after = after;
      split = record { whole = is ∙ sym (unlines-push [] line after); unbroken = one_unbroken line unbroken };
      fits = fits;
      fails = h;
    }))) none;
  })
]

some_verdict : (fuel : ℕ) (text : List ℕ) (lines : List (List ℕ)) (stage : Stage) (rest : List ℕ) → length rest < fuel
    → HasCome text lines stage rest → HasNone text → ⊥
some_verdict zero text lines stage rest short come none = absurd (omega arith)
some_verdict (suc fuel) text lines stage rest short come none = elim (first_split rest) [
  | inl unbroken ↦ elim (cases_lt MAX_LINE (length rest)) [
    | inl long ↦ too_long text lines stage rest rest come (first_line-piece rest unbroken) long none
    | inr fits ↦ piece_ends stage rest (length lines + 1) (λ verdict on_text ends.
        none verdict on_text (ends_checked verdict text rest lines stage (length lines + 1) come.split.whole come.split.unbroken unbroken fits come.says refl ends))
  ]
  | inr first ↦ line_next text lines stage rest first.0 first.1 first.2 first.3
      (λ more next shorter came. some_verdict fuel text more next first.1 (omega (arith, short, shorter)) came none) come none
]

pub each_has_verdict_lem : EachHasVerdict
each_has_verdict_lem text none =
    some_verdict (suc (length text)) text [] blank text (omega arith) (record { split = record { whole = refl; unbroken = All-nil HasNoLineEnd }; says = refl }) none
