-- Lists of words.
use Rattle.std.proofs.Common.{◌≡◌, ℕ, suc, ◌+◌, ◌-◌, ◌≤◌, ◌<◌, List, ◌∷◌, length, map, take, drop, length-drop, ap, sym, ◌∙◌, arith, slice_index_or, drop-cons}
use Rattle.std.proofs.lemmas.List.{take_all}

-- the text of the word at a place, and those after it
pub text_ahead : {X : Type 0} (text : X → List ℕ) (words : List X) (place : ℕ) (word : X) (bytes : List ℕ) → place < length words
    → word ≡ slice_index_or words place word → bytes ≡ text word → map text (drop place words) ≡ bytes ∷ map text (drop (place + 1) words)
text_ahead text words place word bytes lt at is =
    let next : place + 1 ≡ suc place = omega arith in
    ap (map text) (drop-cons words place word lt) ∙ ap (λ x. text x ∷ map text (drop (suc place) words)) (sym at)
    ∙ ap (λ b. b ∷ map text (drop (suc place) words)) (sym is) ∙ ap (λ k. bytes ∷ map text (drop k words)) (sym next)

-- what a slice to the end has
pub to_end : {X : Type 0} (xs : List X) (n : ℕ) → take (length xs - n) (drop n xs) ≡ drop n xs
to_end xs n = let within : length (drop n xs) ≤ length xs - n = omega (arith, length-drop n xs) in take_all (length xs - n) (drop n xs) within
