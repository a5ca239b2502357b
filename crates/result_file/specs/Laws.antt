-- What a text can be.
use Rattle.std.specs.Prelude.{◌≡◌, ℕ, List}
use Rattle.result_file.specs.declared.verdicts.Checked.{Checked}
use Rattle.result_file.specs.declared.verdicts.Checked.TheVariants.{ReadFault, NoMemory}
use Rattle.result_file.specs.Checked.{IsFileOf, IsChecked}
use Rattle.result_file.specs.Contents.{Content}
use Rattle.result_file.specs.Worth.{IsWorth}

-- a text is the file of one content at most
abbrev pub OneContent : Type 0
OneContent = (text : List ℕ) (one other : Content) → IsFileOf one text → IsFileOf other text → one ≡ other

-- a verdict on the text itself: neither a read fault nor lack of memory
abbrev pub IsOnText : Checked → Type 0
IsOnText ReadFault = ⊥
IsOnText NoMemory = ⊥
IsOnText _ = Unit {0}

-- a text deserves one such verdict at most
abbrev pub OneVerdict : Type 0
OneVerdict =
    (text : List ℕ) (one other : Checked) → IsOnText one → IsOnText other → IsChecked text one → IsChecked text other → one ≡ other

-- each text deserves such a verdict: there is none that deserves none
abbrev pub EachHasVerdict : Type 0
EachHasVerdict = (text : List ℕ) → ¬ ((verdict : Checked) → IsOnText verdict → ¬ IsChecked text verdict)

-- a text is worth each verdict that it deserves
abbrev pub CheckedIsWorth : Type 0
CheckedIsWorth = (text : List ℕ) (verdict : Checked) → IsChecked text verdict → IsWorth text verdict
