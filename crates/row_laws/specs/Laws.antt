-- Laws of rows, each proved as the contract of a public function.
use Rattle.std.specs.Prelude.{◌≡◌, ℕ, List, ◌++◌, length, ℤ, pos, ◌+ℤ◌, ◌-ℤ◌, ◌*ℤ◌}
use Rattle.row_laws.specs.Rows.{entry, dot, plus, minus, times}
use Rattle.row_laws.specs.Padded.{padded}

-- a sum of rows has at each place the sum of what they have
abbrev pub EntryOfSum : Type 0
EntryOfSum = (a b : List ℤ) (place : ℕ) → entry (plus a b) place ≡ entry a place +ℤ entry b place

-- a difference of rows has at each place the difference of what they have
abbrev pub EntryOfDifference : Type 0
EntryOfDifference = (a b : List ℤ) (place : ℕ) → entry (minus a b) place ≡ entry a place -ℤ entry b place

-- a multiple of a row has at each place the multiple of what it has
abbrev pub EntryOfMultiple : Type 0
EntryOfMultiple = (k : ℤ) (row : List ℤ) (place : ℕ) → entry (times k row) place ≡ k *ℤ entry row place

-- the product with a sum is the sum of the products
abbrev pub DotOfSum : Type 0
DotOfSum = (row a b : List ℤ) → dot row (plus a b) ≡ dot row a +ℤ dot row b

-- the product with a difference is the difference of the products
abbrev pub DotOfDifference : Type 0
DotOfDifference = (row a b : List ℤ) → dot row (minus a b) ≡ dot row a -ℤ dot row b

-- the product with a multiple is the multiple of the product
abbrev pub DotOfMultiple : Type 0
DotOfMultiple = (k : ℤ) (row a : List ℤ) → dot row (times k a) ≡ k *ℤ dot row a

-- rows may change places in a product
abbrev pub DotOfExchanged : Type 0
DotOfExchanged = (a b : List ℤ) → dot a b ≡ dot b a

-- the product of rows put together is the sum of the parts' products
abbrev pub DotOfJoined : Type 0
DotOfJoined = (a b c d : List ℤ) → length a ≡ length c → dot (a ++ b) (c ++ d) ≡ dot a c +ℤ dot b d

-- zeros after a row change no product
abbrev pub DotOfPadded : Type 0
DotOfPadded = (size : ℕ) (row a : List ℤ) → dot row (padded size (pos 0) a) ≡ dot row a
