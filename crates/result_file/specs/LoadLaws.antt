-- What is read of a text, and what its check says.
use Rattle.std.specs.Prelude.{◌≡◌, ℕ, List, [], Some}
use Rattle.result_file.specs.declared.verdicts.Checked.{Checked}
use Rattle.result_file.specs.Checked.{IsChecked}
use Rattle.result_file.specs.Laws.{IsOnText}
use Rattle.result_file.specs.Loaded.{IsNoResult, IsAtFront}
use Rattle.result_file.specs.LoadedResults.{LoadedResult}
use Rattle.result_file.specs.Migrated.{BeginsClaims, IsResultFile}

-- a text has one result at its front at most, and what follows it is one text; such a text isn't refused
pub record OneLoading : Type 0 where
  pub one_result : (text one_rest other_rest : List ℕ) (skipped : ℕ) (one other : LoadedResult) → IsAtFront (Some text) (Some one_rest) skipped one
      → IsAtFront (Some text) (Some other_rest) skipped other → (one ≡ other) × (one_rest ≡ other_rest)
  pub not_refused : (text rest : List ℕ) (skipped : ℕ) (file : LoadedResult) (verdict : Checked) → IsAtFront (Some text) (Some rest) skipped file
      → IsOnText verdict → ¬ IsNoResult text verdict

-- a result that its check finds valid is read whole; and where no result is read, and the text isn't one of claims, its check says the same
pub record LoadsAsChecked : Type 0 where
  pub valid : (text : List ℕ) → IsResultFile text → (file : LoadedResult) × IsAtFront (Some text) (Some []) 0 file
  pub refused : (text : List ℕ) (verdict : Checked) → IsNoResult text verdict → ¬ BeginsClaims text → IsChecked text verdict
