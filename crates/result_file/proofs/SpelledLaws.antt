-- A line spells one value.
use Rattle.std.proofs.Common.{◌≡◌, ◌≢◌, ℕ, ◌≤◌, List, length, get_or, refl, sym, ap, ap₂, ◌∙◌, arith, Option, Some, None}
use Rattle.std.proofs.lemmas.Option.{none-some}
use Rattle.text_fields.proofs.NumberLaws.{some_is}
use Rattle.criteria_model.specs.declared.pairs.Answer.{Answer}
use Rattle.criteria_model.specs.Criteria.{Criteria, IsModel}
use Rattle.criteria_model.specs.Worth.{increments}
use Rattle.result_file.specs.declared.eliminations.Elimination.{Elimination}
use Rattle.result_file.specs.declared.entries.Entry.{Entry}
use Rattle.result_file.specs.declared.entries.Entry.TheVariants.{Eliminate}
use Rattle.result_file.specs.declared.entries.Format.{Format}
use Rattle.result_file.specs.declared.entries.Format.TheVariants.{One, Two}
use Rattle.result_file.specs.declared.kinds.Kind.{Kind}
use Rattle.result_file.specs.declared.kinds.Kind.TheVariants.{Claims, Result}
use Rattle.result_file.specs.Claims.{Claim, answered, eliminated}
use Rattle.result_file.specs.Entries.{HasEntryForm}
use Rattle.result_file.specs.Forms.{HasModelForm}
use Rattle.result_file.specs.RightClaims.{HasForm}
use Rattle.result_file.specs.Reading.{read_model, read_answer, read_elimination}
use Rattle.result_file.specs.Texts.{heading, end_line, model_line, answer_line, elimination_line, claim_line, entry_line}
use Rattle.result_file.proofs.LineLaws.{model_again}
use Rattle.result_file.proofs.ClaimLaws.{answer_line_again, elimination_line_again}
use Rattle.result_file.proofs.EntryLaws.{IsStep, read_no_elimination, reads_elimination, reads_step}

-- two texts that differ at a place are two
differ : (place : ℕ) (text other : List ℕ) → get_or text place 0 ≢ get_or other place 0 → text ≢ other
differ place text other apart same = apart (ap (λ (t : List ℕ). get_or t place 0) same)

-- ---- headings

pub heading_once : (one other : Kind) → heading one ≡ heading other → one ≡ other
heading_once Claims Claims same = refl
heading_once Claims (Result One) same = absurd (differ 8 (heading Claims) (heading (Result One)) (λ e. omega (arith, e)) same)
heading_once Claims (Result Two) same = absurd (differ 8 (heading Claims) (heading (Result Two)) (λ e. omega (arith, e)) same)
heading_once (Result One) Claims same = absurd (differ 8 (heading (Result One)) (heading Claims) (λ e. omega (arith, e)) same)
heading_once (Result One) (Result One) same = refl
heading_once (Result One) (Result Two) same = absurd (differ 15 (heading (Result One)) (heading (Result Two)) (λ e. omega (arith, e)) same)
heading_once (Result Two) Claims same = absurd (differ 8 (heading (Result Two)) (heading Claims) (λ e. omega (arith, e)) same)
heading_once (Result Two) (Result One) same = absurd (differ 15 (heading (Result Two)) (heading (Result One)) (λ e. omega (arith, e)) same)
heading_once (Result Two) (Result Two) same = refl

pub heading_fits : (kind : Kind) → length (heading kind) ≤ 4096
heading_fits Claims = omega arith
heading_fits (Result One) = omega arith
heading_fits (Result Two) = omega arith

-- ---- model lines

-- a model line of at most the longest length spells one pair of level counts and degree limit
pub model_line_once : (one other : Criteria) → HasModelForm one → HasModelForm other → length (model_line one) ≤ 4096
    → model_line one ≡ model_line other → one ≡ other
model_line_once one other h k fits same =
    let first : read_model (model_line one) ≡ Some (one.levels, one.degree) = model_again one h fits in
    let other_fits : length (model_line other) ≤ 4096 = omega (arith, fits, ap length same) in
    let second : read_model (model_line other) ≡ Some (other.levels, other.degree) = model_again other k other_fits in
    let numbers = some_is (one.levels, one.degree) (other.levels, other.degree) (sym first ∙ ap read_model same ∙ second) in
    ap₂ (λ (levels : List ℕ) (degree : ℕ). let criteria : Criteria = record { levels = levels; degree = degree } in criteria)
    (ap (λ (p : List ℕ × ℕ). p.0) numbers) (ap (λ (p : List ℕ × ℕ). p.1) numbers)

-- ---- claims

pub claim_line_once : (criteria : Criteria) (one other : Claim) → IsModel criteria → HasForm criteria one → HasForm criteria other
    → claim_line one ≡ claim_line other → one ≡ other
claim_line_once criteria (answered a) (answered b) m h k same =
    let read : List ℕ → Option Answer = read_answer (length criteria.levels) in
    ap answered (some_is a b (sym (answer_line_again criteria a m h) ∙ ap read same ∙ answer_line_again criteria b m k))
claim_line_once criteria (answered a) (eliminated e) m h k same = absurd (differ 0 (answer_line a) (elimination_line e) (λ e. omega (arith, e)) same)
claim_line_once criteria (eliminated e) (answered a) m h k same = absurd (differ 0 (elimination_line e) (answer_line a) (λ e. omega (arith, e)) same)
claim_line_once criteria (eliminated d) (eliminated e) m h k same =
    let read : List ℕ → Option Elimination = read_elimination (length criteria.levels) (increments criteria.levels) in
    ap eliminated (some_is d e (sym (elimination_line_again criteria d m h) ∙ ap read same ∙ elimination_line_again criteria e m k))

pub claim_line-is_not_end : (claim : Claim) → claim_line claim ≢ end_line
claim_line-is_not_end (answered a) = differ 0 (answer_line a) end_line (λ e. omega (arith, e))
claim_line-is_not_end (eliminated e) = differ 1 (elimination_line e) end_line (λ e. omega (arith, e))

-- ---- entries

step_once : (format : Format) (criteria : Criteria) (one other : Entry) → IsModel criteria → IsStep one → HasEntryForm format criteria one
    → HasEntryForm format criteria other → entry_line one ≡ entry_line other → one ≡ other
step_once format criteria one other m step h k same =
    let none : read_elimination (length criteria.levels) (increments criteria.levels) (entry_line one) ≡ None =
    read_no_elimination (length criteria.levels) (increments criteria.levels) one step in
    let reads = reads_step format criteria (entry_line one) m (λ e read. absurd (none-some e (sym none ∙ read))) in
    some_is one other (sym (reads.complete one refl h) ∙ reads.complete other same k)

pub entry_line_once : (format : Format) (criteria : Criteria) (one other : Entry) → IsModel criteria → HasEntryForm format criteria one
    → HasEntryForm format criteria other → entry_line one ≡ entry_line other → one ≡ other
entry_line_once format criteria (Eliminate e) other m h k same =
    some_is (Eliminate e) other
    ((reads_elimination format criteria (elimination_line e) e m (elimination_line_again criteria e m h) h.combination.cites).complete other same k)
entry_line_once format criteria one other m h k same = step_once format criteria one other m tt h k same
