-- A list of items that is read one by one.
use Rattle.std.proofs.Common.{◌≡◌, ℕ, zero, suc, ◌+◌, ◌-◌, ◌<◌, ◌≤◌, true, false, List, [], ◌∷◌, ◌++◌, length, take, drop, refl, sym, ◌∙◌, arith, append_assoc, append-nil, add-one, Option, Some, None}
use Rattle.std.proofs.Math.ListN.{set, length-set}
use Rattle.std.proofs.Math.Seq.{take-suc-set}
use Rattle.text_fields.specs.Spelling.{is_next}
use Rattle.text_fields.specs.Reading.{◌>>=◌, read_more, read_list}

abbrev pub with_front : {X : Type 0} → List X → Option (List X × List ℕ) → Option (List X × List ℕ)
with_front front found = found >>= λ x. Some (front ++ x.0, x.1)

with_front_push : {X : Type 0} (front : List X) (x : X) (found : Option (List X × List ℕ)) → with_front (front ++ x ∷ []) found ≡ with_front front (found >>= λ others. Some (x ∷ others.0, others.1))
with_front_push front x None = refl
with_front_push front x (Some found) = rw append_assoc refl

with_front_one : {X : Type 0} (x : X) (found : Option (List X × List ℕ)) → with_front (x ∷ []) found ≡ (found >>= λ others. Some (x ∷ others.0, others.1))
with_front_one x None = refl
with_front_one x (Some found) = refl

-- the first item
pub first_item : {X : Type 0} (item : List ℕ → Option (X × List ℕ)) (n : ℕ) (text : List ℕ) (x : X) (rest : List ℕ) → 0 < n
    → item text ≡ Some (x, rest) → with_front (x ∷ []) (read_more item (n - 1) rest) ≡ read_list item n text
unfolding read_list
first_item item zero text x rest lt e = absurd (omega arith)
first_item item (suc n) text x rest lt e =
    let p : suc n - 1 ≡ n = omega arith in
    rw (p, e) (with_front_one x (read_more item n rest))

-- no first item
pub no_first_item : {X : Type 0} (item : List ℕ → Option (X × List ℕ)) (n : ℕ) (text : List ℕ) → item text ≡ None → read_list item n text ≡ None
unfolding read_list
no_first_item item zero text e = refl
no_first_item item (suc n) text e = rw e refl

-- one item more, after a comma
pub next_item : {X : Type 0} (item : List ℕ → Option (X × List ℕ)) (n : ℕ) (text : List ℕ) (front : List X) (whole : Option (List X × List ℕ)) (x : X) (rest : List ℕ)
    → 0 < n → is_next 0x2C text ≡ true → item (drop 1 text) ≡ Some (x, rest) → with_front front (read_more item n text) ≡ whole
    → with_front (front ++ x ∷ []) (read_more item (n - 1) rest) ≡ whole
unfolding read_more
next_item item zero text front whole x rest lt comma e same = absurd (omega arith)
next_item item (suc n) text front whole x rest lt comma e same =
    let p : suc n - 1 ≡ n = omega arith in
    rw p (with_front_push front x (read_more item n rest) ∙ rw (comma, e) at same)

-- a comma with no item after it
pub no_next_item : {X : Type 0} (item : List ℕ → Option (X × List ℕ)) (n : ℕ) (text : List ℕ) (front : List X) (whole : Option (List X × List ℕ))
    → 0 < n → is_next 0x2C text ≡ true → item (drop 1 text) ≡ None → with_front front (read_more item n text) ≡ whole → whole ≡ None
unfolding read_more
no_next_item item zero text front whole lt comma e same = absurd (omega arith)
no_next_item item (suc n) text front whole lt comma e same = sym (rw (comma, e) at same)

-- no comma
pub last_item : {X : Type 0} (item : List ℕ → Option (X × List ℕ)) (n : ℕ) (text : List ℕ) (front : List X) (whole : Option (List X × List ℕ))
    → (0 < n → is_next 0x2C text ≡ false) → with_front front (read_more item n text) ≡ whole → whole ≡ Some (front, text)
unfolding read_more
last_item item zero text front whole h same = sym same ∙ rw append-nil refl
last_item item (suc n) text front whole h same =
    let none : is_next 0x2C text ≡ false = h (omega arith) in
    sym (rw none at same) ∙ rw append-nil refl

-- what a loop over cells keeps: the items in the first `count` of `total` cells are the front of the list at `start`
pub record IsFront {X : Type 0} (item : List ℕ → Option (X × List ℕ)) (total : ℕ) (start : List ℕ) (cells : List X) (count : ℕ) (text : List ℕ) : Type 0 where
  pub room : length cells ≡ total
  pub within : count ≤ total
  pub same : with_front (take count cells) (read_more item (total - count) text) ≡ read_list item total start

-- the first item
pub first_cell : {X : Type 0} (item : List ℕ → Option (X × List ℕ)) (cells : List X) (text : List ℕ) (x : X) (rest : List ℕ) → 0 < length cells
    → item text ≡ Some (x, rest) → IsFront item (length cells) text (set cells 0 x) 1 rest
first_cell item cells text x rest lt e =
    let front : take 1 (set cells 0 x) ≡ x ∷ [] = take-suc-set cells 0 x lt in
    record {
      room = length-set cells 0 x;
      within = omega arith;
      same = rw front (first_item item (length cells) text x rest lt e);
    }

-- one item more
pub next_cell : {X : Type 0} (item : List ℕ → Option (X × List ℕ)) (total : ℕ) (start : List ℕ) (cells : List X) (count : ℕ) (text : List ℕ) (x : X) (rest : List ℕ)
    → IsFront item total start cells count text → count < length cells → is_next 0x2C text ≡ true → item (drop 1 text) ≡ Some (x, rest)
    → IsFront item total start (set cells count x) (count + 1) rest
next_cell item total start cells count text x rest h lt comma e =
    let front : take (count + 1) (set cells count x) ≡ take count cells ++ x ∷ [] = rw add-one (take-suc-set cells count x lt) in
    let fewer : total - (count + 1) ≡ total - count - 1 = omega arith in
    record {
      room = length-set cells count x ∙ h.room;
      within = omega (arith, h.room);
      same = rw (front, fewer) (next_item item (total - count) text (take count cells) (read_list item total start) x rest (omega (arith, h.room)) comma e h.same);
    }

-- a comma with no item after it
pub no_next_cell : {X : Type 0} (item : List ℕ → Option (X × List ℕ)) (total : ℕ) (start : List ℕ) (cells : List X) (count : ℕ) (text : List ℕ)
    → IsFront item total start cells count text → count < length cells → is_next 0x2C text ≡ true → item (drop 1 text) ≡ None
    → read_list item total start ≡ None
no_next_cell item total start cells count text h lt comma none =
    no_next_item item (total - count) text (take count cells) (read_list item total start) (omega (arith, h.room)) comma none h.same

-- no comma, or no cell for an item after it
pub last_cell : {X : Type 0} (item : List ℕ → Option (X × List ℕ)) (total : ℕ) (start : List ℕ) (cells : List X) (count : ℕ) (text : List ℕ)
    → IsFront item total start cells count text → (count < length cells → is_next 0x2C text ≡ false)
    → read_list item total start ≡ Some (take count cells, text)
last_cell item total start cells count text h none =
    last_item item (total - count) text (take count cells) (read_list item total start) (λ lt. none (omega (arith, h.room))) h.same
