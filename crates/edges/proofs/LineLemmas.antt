-- Line ends by their places, and the lines of a text.
use Rattle.std.proofs.Common.{◌≡◌, ◌≢◌, ℕ, ◌+◌, ◌-◌, ◌<◌, ◌≤◌, List, length, take, drop, min, slice_range, slice_index, sym, ap, ◌∙◌, arith, inl, inr, eqb-true, eq-eqb}
use Rattle.std.specs.Prelude.{Some, None}
use Rattle.std.proofs.lemmas.List.{get_or-take, get_or-drop, length-take, length-drop}
use Rattle.std.proofs.lemmas.List.Elements.{All-from_get_or, All-get_or}
use Rattle.std.proofs.lemmas.Bool.Decides.{leb_tells}
use Rattle.memchr.specs.Find.{IsFirstByte, Nowhere, Passes, is_byte}
use Rattle.edges.specs.Line.{HasNoLineEnd, line_end}
use Rattle.edges.specs.Lines.{IsFirstLineEnd}

-- no line end stands at a place below n
abbrev pub NoneBelow : List ℕ → ℕ → Type 0
NoneBelow text n = (i : ℕ) → i < n → i < length text → slice_index text i ≢ line_end

pub HasNoLineEnd-take : (text : List ℕ) (n : ℕ) → NoneBelow text n → HasNoLineEnd (take n text)
HasNoLineEnd-take text n none =
    All-from_get_or (λ byte. byte ≢ line_end) (take n text) 0
    (λ i lt. let below : i < n = omega (arith, length-take n text) in
    let within : i < length text = omega (arith, length-take n text) in
    rw get_or-take (none i below within))

pub NoneBelow-take : (text : List ℕ) (n : ℕ) → HasNoLineEnd (take n text) → NoneBelow text n
NoneBelow-take text n none i below within =
    let lt : i < length (take n text) = omega (arith, length-take n text) in
    rw get_or-take at (All-get_or (λ byte. byte ≢ line_end) (take n text) i 0 lt none)

-- a place of a part is a place of the whole
part-at : (text : List ℕ) (start end k : ℕ) → k < end - start → slice_index (slice_range text start end) k ≡ slice_index text (start + k)
part-at text start end k lt = get_or-take (end - start) (drop start text) k 0 lt ∙ get_or-drop start text k 0

-- no line end stands in the bytes searched before, nor in the first bytes of the part after them
none_between : (text : List ℕ) (searched end stop : ℕ)
    → HasNoLineEnd (take searched text) → searched + stop ≤ end
    → Nowhere (Passes (is_byte line_end) (slice_range text searched end)) 0 stop
    → NoneBelow text (searched + stop)
none_between text searched end stop none le nowhere i below within =
    elim (leb_tells searched i) [
      | inl p ↦ λ e.
          let k : ℕ = i - searched in
          let lt : k < end - searched = omega (arith, p.1) in
          let place : searched + k ≡ i = omega (arith, p.1) in
          nowhere k (omega arith) (omega (arith, p.1))
          (eq-eqb _ _ (part-at text searched end k lt ∙ ap (slice_index text) place ∙ e))
      | inr p ↦ NoneBelow-take text searched none i p.1 within
    ]

-- the search of a part that follows bytes without a line end found none
pub none_found : (text : List ℕ) (searched end longest : ℕ)
    → HasNoLineEnd (take searched text) → searched ≤ end → end ≡ min (length text) (longest + 1)
    → IsFirstByte (is_byte line_end) (slice_range text searched end) None
    → HasNoLineEnd (take (longest + 1) text)
none_found text searched end longest none le is nowhere =
    let stop : ℕ = length (slice_range text searched end) in
    let stops : searched + stop ≡ end =
    omega (arith, length-take (end - searched) (drop searched text), length-drop searched text) in
    let below : NoneBelow text (searched + stop) = none_between text searched end stop none (omega arith) nowhere in
    HasNoLineEnd-take text (longest + 1) (λ i lt within. below i (omega arith) within)

-- the search of a part that follows bytes without a line end found the first one
pub found_first : (text : List ℕ) (searched end longest place : ℕ)
    → HasNoLineEnd (take searched text) → searched ≤ end → end ≡ min (length text) (longest + 1)
    → IsFirstByte (is_byte line_end) (slice_range text searched end) (Some place)
    → IsFirstLineEnd text longest (searched + place)
found_first text searched end longest place none le is first =
    let stops : searched + length (slice_range text searched end) ≡ end =
    omega (arith, length-take (end - searched) (drop searched text), length-drop searched text) in
    let high : place < length (slice_range text searched end) = first.0.high in
    let lt : place < end - searched = omega arith in
    record {
      within = omega arith;
      fits = omega arith;
      ends = sym (part-at text searched end place lt) ∙ eqb-true _ _ first.1;
      unbroken = HasNoLineEnd-take text (searched + place) (none_between text searched end place none (omega arith) first.0.before);
    }
