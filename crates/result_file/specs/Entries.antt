-- Which lines a result may have, in each of its two formats, and what their reader answers.
use Rattle.std.specs.Prelude.{◌≡◌, ℕ, ◌≤◌, List, All, Option, Some, IfSome, ℤ}
use Rattle.text_fields.specs.Spelling.{IsCertificate}
use Rattle.criteria_model.specs.Criteria.{Criteria}
use Rattle.criteria_model.specs.Worth.{IsValueVector}
use Rattle.survey_core.specs.declared.limits.TheConstants.{MAX_DESKS, MAX_EVENTS}
use Rattle.result_file.specs.declared.entries.Entry.{Entry}
use Rattle.result_file.specs.declared.entries.Entry.TheVariants.{Eliminate, Issue, Commit, Close, Withdraw}
use Rattle.result_file.specs.declared.entries.Format.{Format}
use Rattle.result_file.specs.declared.entries.Format.TheVariants.{One, Two}
use Rattle.result_file.specs.Forms.{HasPairForm, HasEliminationForm}
use Rattle.result_file.specs.Texts.{entry_line}

-- a desk from 1 to 4
abbrev pub HasDeskForm : ℕ → Type 0
HasDeskForm desk = (1 ≤ desk) × (desk ≤ MAX_DESKS)

-- the number of a question or of an answer, from 1 to 131,072
abbrev pub HasNumberForm : ℕ → Type 0
HasNumberForm number = (1 ≤ number) × (number ≤ MAX_EVENTS)

-- a value vector, each number of it below 2^96
pub record HasVectorForm (criteria : Criteria) (vector : List ℤ) : Type 0 where
  pub values : IsValueVector criteria.levels vector
  pub numbers : All IsCertificate vector

-- an entry that a line of this format may have, in a file of this model; the first format has no withdrawals
abbrev pub HasEntryForm : Format → Criteria → Entry → Type 0
HasEntryForm format criteria (Eliminate elimination) = HasEliminationForm criteria elimination
HasEntryForm format criteria (Issue desk pair plus minus) =
    HasDeskForm desk × HasPairForm criteria pair × HasVectorForm criteria plus × HasVectorForm criteria minus
HasEntryForm format criteria (Commit desk question side plus minus point) =
    HasDeskForm desk × HasNumberForm question × HasVectorForm criteria plus × HasVectorForm criteria minus × HasVectorForm criteria point
HasEntryForm format criteria (Close desk question) = HasDeskForm desk × HasNumberForm question
HasEntryForm One criteria (Withdraw desk answer) = ⊥
HasEntryForm Two criteria (Withdraw desk answer) = HasDeskForm desk × HasNumberForm answer

-- what is read of a line is spelled so and has the form; and what is spelled so and has the form is read
pub record ReadsEntry (format : Format) (criteria : Criteria) (line : List ℕ) (read : Option Entry) : Type 0 where
  pub sound : IfSome read (λ entry. (line ≡ entry_line entry) × HasEntryForm format criteria entry)
  pub complete : (entry : Entry) → line ≡ entry_line entry → HasEntryForm format criteria entry → read ≡ Some entry
