-- Two lists, of which the second is read from its end.
use Rattle.std.specs.Prelude.{◌≡◌, List, [], ◌∷◌, ◌++◌}

-- the first element stands beside the last one, and so on
abbrev pub AllStacked : {X Y : Type 0} → (X → Y → Type 0) → List X → List Y → Type 0
AllStacked R [] ys = ys ≡ []
AllStacked {X} {Y} R (x ∷ xs) ys = (front : List Y) × (last : Y) × (ys ≡ front ++ last ∷ []) × R x last × AllStacked R xs front
