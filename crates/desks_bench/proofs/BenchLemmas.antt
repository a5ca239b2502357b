-- A list of one bench, and what it brings back.
use Rattle.std.proofs.Common.{◌≡◌, ℕ, suc, ◌+◌, List, [], ◌∷◌, ◌++◌, length, length-append, All, ap, subst, arith}
use Rattle.std.specs.List.{AllZip}
use Rattle.pair_enumeration.specs.Listed.{Listed}
use Rattle.survey_core.proofs.ListSteps.{Each-All, All-Each}
use Rattle.survey_replies.specs.Calls.{Seen}
use Rattle.eliminators.specs.Work.{Stays}

pub zip_last : {X : Type 0} (R : X → X → Type 0) (x : X) (ys rest : List X) (last : X) → AllZip R (x ∷ []) ys → ys ≡ rest ++ last ∷ [] → R x last
zip_last R x [] rest last p e = absurd p
zip_last R x (y ∷ []) [] last p e = let same : y ≡ last = cc (e) in subst (R x) same p.0
zip_last R x (y ∷ []) (r ∷ rs) last p e =
    let long : 1 ≡ suc (length (rs ++ last ∷ [])) = ap length e in
    let more : length (rs ++ last ∷ []) ≡ length rs + 1 = length-append rs (last ∷ []) in
    absurd (omega (arith, long, more))
zip_last R x (y ∷ z ∷ zs) rest last p e = absurd p.1

pub first_rest : {X : Type 0} (P : X → Type 0) (all : List X) (x : X) (rest : List X) → all ≡ x ∷ rest → All P all → P x × All P rest
first_rest P all x rest same hs =
    let each = All-Each P (x ∷ rest) (subst (λ (l : List _). All P l) same hs) in
    (each.0, Each-All P rest each.1)

pub stays_last : {B A : Type 0} (about : B → A) (listed : A → Listed) (worker : A → ℕ) (seen : B → Seen) (x : B) (ys rest : List B) (last : B)
    → AllZip (Stays about listed worker seen) (x ∷ []) ys → ys ≡ rest ++ last ∷ [] → about last ≡ about x
stays_last about listed worker seen x ys rest last zip same = (zip_last (Stays about listed worker seen) x ys rest last zip same).0
