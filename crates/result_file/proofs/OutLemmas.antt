-- A text that goes to a sink through a buffer.
use Rattle.std.proofs.Common.{◌≡◌, ℕ, List, [], ◌∷◌, ◌++◌, length, take, drop, refl, sym, ap, subst, ◌∙◌, append_assoc, append-nil, take-append-drop}
use Rattle.std.specs.Prelude.{Option}
use Rattle.std.proofs.Math.Seq.{take-append_seam}
use Rattle.edges.specs.Line.{line_end, unlines}
use Rattle.edges.specs.Told.{Appends, AppendsPrefix}
use Rattle.edges.proofs.ToldLemmas.{Appends-nil, Appends-append}
use Rattle.result_file.specs.Files.{IsOut}

-- nothing was sent yet
pub out_begun : (now : Option (List ℕ)) (buffered : List ℕ) → IsOut now now buffered buffered
out_begun now buffered = record { sent = []; out = Appends-nil now; whole = refl }

-- more was put into the buffer
pub out_more : (before now : Option (List ℕ)) (buffered text more : List ℕ) → IsOut before now buffered text → IsOut before now (buffered ++ more) (text ++ more)
out_more before now buffered text more h = record {
  sent = h.sent;
  out = h.out;
  whole = sym (append_assoc h.sent buffered more) ∙ ap (λ (front : List ℕ). front ++ more) h.whole;
}

-- the buffer was sent on
pub out_sent : (before mid now : Option (List ℕ)) (buffered text : List ℕ) → IsOut before mid buffered text → Appends mid now buffered → Appends before now text
out_sent before mid now buffered text h sent =
    subst (λ (bytes : List ℕ). Appends before now bytes) h.whole (Appends-append before mid now h.sent buffered h.out sent)

pub out_emptied : (before now : Option (List ℕ)) (text : List ℕ) → Appends before now text → IsOut before now [] text
out_emptied before now text h = record { sent = text; out = h; whole = append-nil text }

pub sends_all : (mid now : Option (List ℕ)) (buffered left : List ℕ) → left ≡ [] → Appends mid now buffered
    → (before : Option (List ℕ)) (text : List ℕ) → IsOut before mid buffered text → IsOut before now left text
sends_all mid now buffered left empty sent before text h = rw empty (out_emptied before now text (out_sent before mid now buffered text h sent))

-- the sink failed: some first bytes of the text are out
pub out_failed : (before mid now : Option (List ℕ)) (buffered text more : List ℕ) → IsOut before mid buffered text → AppendsPrefix mid now buffered
    → AppendsPrefix before now (text ++ more)
out_failed before mid now buffered text more h failed =
    let part : List ℕ = take failed.0 buffered in
    let out : List ℕ = h.sent ++ part in
    let appended : Appends before now out = Appends-append before mid now h.sent part h.out failed.1 in
    let rest : List ℕ = drop failed.0 buffered ++ more in
    let all : text ++ more ≡ out ++ rest =
    ap (λ (front : List ℕ). front ++ more) (sym h.whole)
    ∙ ap (λ (behind : List ℕ). (h.sent ++ behind) ++ more) (sym (take-append-drop failed.0 buffered))
    ∙ simp (append_assoc) refl in
    let front : take (length out) (text ++ more) ≡ out = ap (λ (bytes : List ℕ). take (length out) bytes) all ∙ take-append_seam out rest in
    (length out, subst (λ (bytes : List ℕ). Appends before now bytes) (sym front) appended)

-- lines and then others
pub unlines-append : (lines others : List (List ℕ)) → unlines (lines ++ others) ≡ unlines lines ++ unlines others
unlines-append [] others = refl
unlines-append (line ∷ lines) others =
    ap (λ (rest : List ℕ). line ++ line_end ∷ rest) (unlines-append lines others) ∙ sym (append_assoc line (line_end ∷ unlines lines) (unlines others))
