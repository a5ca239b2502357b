-- Bytes that an end may show.
use Rattle.std.proofs.Common.{◌≡◌, ℕ, ◌+◌, List, [], ◌++◌, ◌-◌, length, take, drop, sym, ap, subst, ◌∙◌, refl, append_assoc}
use Rattle.std.specs.Prelude.{Option, Some, None}
use Rattle.std.specs.Io.KnownBytes.{prepend_known}
use Rattle.std.proofs.lemmas.List.{append-nil, take_rest}
use Rattle.edges.specs.Told.{Appends}
use Rattle.edges.proofs.PartLemmas.{take-add}

-- bytes before shown bytes, in two parts
pub prepend_known-append : (xs ys : List ℕ) (told : Option (List ℕ)) → prepend_known (xs ++ ys) told ≡ prepend_known xs (prepend_known ys told)
prepend_known-append xs ys None = refl
prepend_known-append xs ys (Some zs) = ap Some (append_assoc xs ys zs)

-- no bytes before shown bytes
pub prepend_known-nil : (told : Option (List ℕ)) → prepend_known [] told ≡ told
prepend_known-nil None = refl
prepend_known-nil (Some zs) = refl

-- nothing was appended
pub Appends-nil : (told : Option (List ℕ)) → Appends told told []
Appends-nil None = tt
Appends-nil (Some zs) = ap Some (append-nil zs)

-- xs was appended and then ys
pub Appends-append : (before mid now : Option (List ℕ)) (xs ys : List ℕ) → Appends before mid xs → Appends mid now ys → Appends before now (xs ++ ys)
Appends-append before mid None xs ys first then' = tt
Appends-append before None (Some zs) xs ys first then' = cc
Appends-append None (Some ws) (Some zs) xs ys first then' = cc
Appends-append (Some vs) (Some ws) (Some zs) xs ys first then' =
    let e : vs ++ xs ≡ ws = cc in
    ap Some (sym (append_assoc vs xs ys)) ∙ ap (λ us. Some (us ++ ys)) e ∙ then'

-- the first bytes are out, and then n more of the rest
pub Appends-more : (before mid now : Option (List ℕ)) (bytes : List ℕ) (done n : ℕ)
    → Appends before mid (take done bytes)
    → Appends mid now (take n (take (length bytes - done) (drop done bytes)))
    → Appends before now (take (done + n) bytes)
Appends-more before mid now bytes done n first then' =
    let P : List ℕ → Type 0 = λ xs. Appends before now xs in
    let rest : List ℕ = take (length bytes - done) (drop done bytes) in
    let all : take (done + n) bytes ≡ take done bytes ++ take n rest =
    take-add bytes done n ∙ ap (λ xs. take done bytes ++ take n xs) (sym (take_rest bytes done)) in
    subst P (sym all) (Appends-append before mid now (take done bytes) (take n rest) first then')
