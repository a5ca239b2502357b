-- Bytes of an end of the program that clauses may know: `Some` of them, or `None` where nothing is known.
use Rattle.std.specs.Prelude.{◌≡◌, ℕ, List, [], ◌∷◌, take, Option, Some, IfSome, option_map}
use Rattle.std.specs.Io.KnownBytes.{prepend_known, append_known}

-- the known bytes before are bs and then those known now: bs was taken from the front
abbrev pub Takes : Option (List ℕ) → Option (List ℕ) → List ℕ → Type 0
Takes before now bs = before ≡ prepend_known bs now

-- where bytes are known now, they are those known before, with bs appended
abbrev pub Appends : Option (List ℕ) → Option (List ℕ) → List ℕ → Type 0
Appends before now bs = IfSome now (λ whole. append_known before bs ≡ Some whole)

-- where bytes are known now, they are those known before, with some first bytes of bs appended
abbrev pub AppendsPrefix : Option (List ℕ) → Option (List ℕ) → List ℕ → Type 0
AppendsPrefix before now bs = (n : ℕ) × Appends before now (take n bs)

-- where it is known what is left, nothing is left
abbrev pub IsAtEnd : Option (List ℕ) → Type 0
IsAtEnd left = IfSome left (λ bytes. bytes ≡ [])

-- the known items before are x and then those known now: x was the first of them
abbrev pub TakesNext : {X : Type 0} → Option (List X) → Option (List X) → X → Type 0
TakesNext before now x = before ≡ option_map (λ rest. x ∷ rest) now
