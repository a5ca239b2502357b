-- Determinants that were computed elsewhere, by elimination over fractions.
use Rattle.std.proofs.Common.{◌≡◌, pos, negsuc, [], ◌∷◌, refl}
use Rattle.minors.specs.Minor.{expansion, minor_at, minor}

two_rows : minor ((pos 2 ∷ negsuc 0 ∷ []) ∷ (pos 3 ∷ pos 4 ∷ []) ∷ []) ≡ pos 11
unfolding minor minor_at expansion
two_rows = refl

three_rows : minor ((pos 0 ∷ pos 2 ∷ pos 1 ∷ []) ∷ (pos 1 ∷ pos 3 ∷ negsuc 0 ∷ []) ∷ (pos 2 ∷ pos 5 ∷ pos 4 ∷ []) ∷ []) ≡ negsuc 12
unfolding minor minor_at expansion
three_rows = refl

four_rows : minor ((pos 1 ∷ pos 0 ∷ negsuc 0 ∷ pos 7 ∷ []) ∷ (pos 0 ∷ pos 1 ∷ pos 1 ∷ negsuc 2 ∷ []) ∷ (negsuc 0 ∷ pos 1 ∷ pos 0 ∷ pos 25 ∷ []) ∷ (pos 1 ∷ pos 1 ∷ pos 1 ∷ pos 2 ∷ []) ∷ []) ≡ negsuc 30
unfolding minor minor_at expansion
four_rows = refl
