-- Level counts that were read so far, and those that are left.
use Rattle.std.proofs.Common.{◌≡◌, ℕ, suc, ◌-◌, ◌<◌, ◌≤◌, List, [], ◌∷◌, ◌++◌, length, drop, Option, Some, None, option_map, arith, refl, ap, sym, ◌∙◌, append_assoc, length-append, true, false}
use Rattle.std.specs.List.{All}
use Rattle.std.proofs.lemmas.List.Elements.{All-nil, All-push}
use Rattle.text_fields.specs.Spelling.{is_next}
use Rattle.text_fields.specs.Reading.{◌>>=◌, read_number}
use Rattle.survey_words.specs.declared.limits.TheConstants.{MAX_SHAPE_COUNTS, MAX_SHAPE_NUMBER}
use Rattle.survey_words.specs.Shapes.{AreCounts, read_counts}

-- counts read before, and those that stand at the front
abbrev pub following : List ℕ → Option (List ℕ × List ℕ) → Option (List ℕ × List ℕ)
following front found = option_map (λ f. (front ++ f.0, f.1)) found

-- the counts are those read so far, and as many more as there is room for
pub record IsFront (most : ℕ) (start : List ℕ) (items : List ℕ) (left : List ℕ) : Type 0 where
  pub within : length items ≤ most
  pub each : All (λ count. count ≤ MAX_SHAPE_NUMBER) items
  pub front : read_counts most start ≡ following items (read_counts (most - length items) left)

following_none : (o : Option (List ℕ × List ℕ)) → o ≡ following [] o
following_none None = refl
following_none (Some f) = refl

following-append : (front : List ℕ) (n : ℕ) (o : Option (List ℕ × List ℕ)) → following front (following (n ∷ []) o) ≡ following (front ++ n ∷ []) o
following-append front n None = refl
following-append front n (Some f) = ap (λ (items : List ℕ). Some (items, f.1)) (sym (append_assoc front (n ∷ []) f.0))

pub front_at_start : (most : ℕ) (text : List ℕ) → IsFront most text [] text
front_at_start most text =
    let all : most - 0 ≡ most = omega arith in
    record { within = omega arith; each = All-nil (λ count. count ≤ MAX_SHAPE_NUMBER); front = rw all (following_none (read_counts most text)) }

one_more : (room : ℕ) (text : List ℕ) (n : ℕ) (rest : List ℕ) → read_number MAX_SHAPE_NUMBER text ≡ Some (n, rest) → is_next 120 rest ≡ true
    → read_counts (suc room) text ≡ following (n ∷ []) (read_counts room (drop 1 rest))
unfolding read_counts
one_more room text n rest read next = rw (read, next) (go (read_counts room (drop 1 rest)))
  where
    go : (o : Option (List ℕ × List ℕ)) → (o >>= λ others. Some (n ∷ others.0, others.1)) ≡ following (n ∷ []) o
    go None = refl
    go (Some f) = refl

last_one : (room : ℕ) (text : List ℕ) (n : ℕ) (rest : List ℕ) → read_number MAX_SHAPE_NUMBER text ≡ Some (n, rest) → is_next 120 rest ≡ false
    → read_counts (suc room) text ≡ Some (n ∷ [], rest)
unfolding read_counts
last_one room text n rest read next = rw (read, next) refl

no_one : (room : ℕ) (text : List ℕ) → read_number MAX_SHAPE_NUMBER text ≡ None → read_counts (suc room) text ≡ None
unfolding read_counts
no_one room text read = rw read refl

no_room : (text : List ℕ) → read_counts 0 text ≡ None
unfolding read_counts
no_room text = refl

module _ (most : ℕ) (start items left : List ℕ) (h : IsFront most start items left) where
  pub none_left : most ≤ length items → read_counts most start ≡ None
  none_left full =
      let none : most - length items ≡ 0 = omega arith in
      h.front ∙ rw (none, no_room left) refl

  module _ (lt : length items < most) where
    room_left : most - length items ≡ suc (most - suc (length items))
    room_left = omega arith

    pub none_read : read_number MAX_SHAPE_NUMBER left ≡ None → read_counts most start ≡ None
    none_read read = h.front ∙ rw (room_left, no_one (most - suc (length items)) left read) refl

    module _ (n : ℕ) (rest : List ℕ) (read : read_number MAX_SHAPE_NUMBER left ≡ Some (n, rest)) where
      pub last_read : is_next 120 rest ≡ false → read_counts most start ≡ Some (items ++ n ∷ [], rest)
      last_read next = h.front ∙ rw (room_left, last_one (most - suc (length items)) left n rest read next) refl

      pub next_read : n ≤ MAX_SHAPE_NUMBER → is_next 120 rest ≡ true → IsFront most start (items ++ n ∷ []) (drop 1 rest)
      next_read small next =
          let longer : length (items ++ n ∷ []) ≡ suc (length items) = simp length-append (omega arith) in
          record {
            within = rw longer (omega arith);
            each = All-push (λ count. count ≤ MAX_SHAPE_NUMBER) items n h.each small;
            front = h.front ∙ rw (room_left, one_more (most - suc (length items)) left n rest read next, following-append items n (read_counts (most - suc (length items)) (drop 1 rest)), longer) refl;
          }

-- one count more than there were is within the limits
pub one_more_counts : (items : List ℕ) (n : ℕ) → length items < MAX_SHAPE_COUNTS → All (λ count. count ≤ MAX_SHAPE_NUMBER) items → n ≤ MAX_SHAPE_NUMBER
    → AreCounts (items ++ n ∷ [])
one_more_counts items n lt each small =
    let longer : length (items ++ n ∷ []) ≡ suc (length items) = simp length-append (omega arith) in
    record { some = rw longer (omega arith); most = rw longer (omega arith); each = All-push (λ count. count ≤ MAX_SHAPE_NUMBER) items n each small }
