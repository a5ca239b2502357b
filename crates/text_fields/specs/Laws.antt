-- Laws of reading: what is read is spelled so, each byte of it, and what is spelled so is read.
use Rattle.std.specs.Prelude.{◌≡◌, ℕ, ◌<◌, ◌≤◌, List, ◌++◌, Option, Some}
use Rattle.std.specs.Fmt.{decimal, signed_decimal}
use Rattle.text_fields.specs.declared.limits.TheConstants.{CERTIFICATE_BOUND}
use Rattle.text_fields.specs.Spelling.{EndsNumber, EndsList, listed, IsCertificate, IsList}
use Rattle.text_fields.specs.Reading.{read_word, read_number, read_certificate, read_list}

-- What `item` reads is such a value and is spelled so. Such a value that is spelled at the front is read, where it ends there.
pub record IsField {X : Type 0} (item : List ℕ → Option (X × List ℕ)) (spell : X → List ℕ) (P : X → Type 0) (Ends : List ℕ → Type 0) : Type 0 where
  pub takes : (text : List ℕ) (x : X) (rest : List ℕ) → item text ≡ Some (x, rest) → (text ≡ spell x ++ rest) × P x
  pub again : (x : X) (rest : List ℕ) → P x → Ends rest → item (spell x ++ rest) ≡ Some (x, rest)

-- a word is read where it stands
abbrev pub WordIsField : Type 0
WordIsField = (word : List ℕ) → IsField (read_word word) (λ _. word) (λ _. Unit {0}) (λ _. Unit {0})

-- a number up to a limit is read where `{}` wrote it
abbrev pub NumberIsField : Type 0
NumberIsField = (most : ℕ) → most < CERTIFICATE_BOUND → IsField (read_number most) decimal (λ n. n ≤ most) EndsNumber

-- a certificate number is read where `{}` wrote it
abbrev pub CertificateIsField : Type 0
CertificateIsField = IsField read_certificate signed_decimal IsCertificate EndsNumber

-- a list of numbers up to a limit is read where they are joined by commas
abbrev pub NumbersAreField : Type 0
NumbersAreField = (most room : ℕ) → most < CERTIFICATE_BOUND → IsField (read_list (read_number most) room) (listed decimal) (IsList (λ n. n ≤ most) room) EndsList

-- a list of certificate numbers is read where they are joined by commas
abbrev pub CertificatesAreField : Type 0
CertificatesAreField = (room : ℕ) → IsField (read_list read_certificate room) (listed signed_decimal) (IsList IsCertificate room) EndsList
