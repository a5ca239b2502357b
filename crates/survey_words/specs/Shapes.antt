-- The shape of a sample survey that a word is: level counts joined by `x`, then `:` and the degree.
use Rattle.std.specs.Prelude.{ℕ, ◌≤◌, length, zero, suc, List, [], ◌∷◌, drop, codes, Option, Some, None, if◌then◌else◌}
use Rattle.std.specs.List.{All}
use Rattle.text_fields.specs.Spelling.{is_next}
use Rattle.text_fields.specs.Reading.{◌>>=◌, read_word, read_number}
use Rattle.survey_words.specs.declared.limits.TheConstants.{MAX_SHAPE_COUNTS, MAX_SHAPE_NUMBER}
use Rattle.survey_words.specs.declared.shapes.Shape.{Shape}
use Rattle.survey_words.specs.Numbers.{whole_text}

-- level counts joined by `x`, at least one and at most `room`, and the text after them
unfoldable pub read_counts : ℕ → List ℕ → Option (List ℕ × List ℕ)
read_counts zero text = None
read_counts (suc room) text = read_number MAX_SHAPE_NUMBER text >>= λ first.
    if is_next 120 first.1
    then (read_counts room (drop 1 first.1) >>= λ others. Some (first.0 ∷ others.0, others.1))
    else Some (first.0 ∷ [], first.1)

-- a colon and a degree, and the text after them
abbrev pub read_degree : List ℕ → Option (ℕ × List ℕ)
read_degree text = read_word (codes ":") text >>= λ colon. read_number MAX_SHAPE_NUMBER colon.1

-- a shape, and the text after it
abbrev pub read_shape : List ℕ → Option (Shape × List ℕ)
read_shape text = read_counts MAX_SHAPE_COUNTS text >>= λ counts. read_degree counts.1 >>= λ degree.
    Some (record { counts = counts.0; degree = degree.0 }, degree.1)

-- the shape that a word is
abbrev pub shape_of : List ℕ → Option Shape
shape_of word = whole_text (read_shape word)

-- level counts within the limits
pub record AreCounts (counts : List ℕ) : Type 0 where
  pub some : 1 ≤ length counts
  pub most : length counts ≤ MAX_SHAPE_COUNTS
  pub each : All (λ count. count ≤ MAX_SHAPE_NUMBER) counts

-- a shape within the limits, which needn't be that of a model
abbrev pub IsShape : Shape → Type 0
IsShape shape = AreCounts shape.counts × (shape.degree ≤ MAX_SHAPE_NUMBER)
