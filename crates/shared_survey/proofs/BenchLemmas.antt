-- A list of one bench, and what it brings back.
use Rattle.std.proofs.Common.{◌≡◌, suc, ◌+◌, List, [], ◌∷◌, ◌++◌, length, length-append, ap, subst, arith}
use Rattle.std.specs.List.{AllZip}

-- what stands beside the one element of a list
pub zip_last : {X : Type 0} (R : X → X → Type 0) (x : X) (ys rest : List X) (last : X) → AllZip R (x ∷ []) ys → ys ≡ rest ++ last ∷ [] → R x last
zip_last R x [] rest last p e = absurd p
zip_last R x (y ∷ []) [] last p e = let same : y ≡ last = cc (e) in subst (R x) same p.0
zip_last R x (y ∷ []) (r ∷ rs) last p e =
    let long : 1 ≡ suc (length (rs ++ last ∷ [])) = ap length e in
    let more : length (rs ++ last ∷ []) ≡ length rs + 1 = length-append rs (last ∷ []) in
    absurd (omega (arith, long, more))
zip_last R x (y ∷ z ∷ zs) rest last p e = absurd p.1
