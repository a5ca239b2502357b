-- Which vectors meet the rows of rankings and of answers.
use Rattle.std.proofs.Common.{◌≡◌, ◌<◌, ℕ, length, get_or, List, [], ◌∷◌, ◌++◌, ℤ, pos, ◌-ℤ◌, ◌*ℤ◌, ◌≤ℤ◌, sym, ap, subst, ◌∙◌, arith, append-nil}
use Rattle.std.specs.Prelude.{All, Some, slice_get}
use Rattle.std.proofs.lemmas.Option.{get_or_from_slice_get, slice_get_within, slice_get-get_or}
use Rattle.std.proofs.lemmas.Int.{ints}
use Rattle.std.proofs.lemmas.Grind.{flat_map-append}
use Rattle.std.proofs.lemmas.List.Elements.{All-nil, All-cons, All-head, All-tail, All-append, All-push, All-weaker, All-from_get_or}
use Rattle.criteria_model.specs.declared.pairs.Pair.{Pair}
use Rattle.criteria_model.specs.declared.pairs.Answer.{Answer}
use Rattle.criteria_model.specs.declared.pairs.Side.{Side}
use Rattle.criteria_model.specs.declared.pairs.Side.TheVariants.{Left, Right, Equal}
use Rattle.row_laws.specs.Rows.{dot, minus, times}
use Rattle.criteria_model.specs.Worth.{has, increments, IsValueVector}
use Rattle.criteria_model.specs.Answers.{Ranks, Meets, MeetsAll, gain}
use Rattle.row_laws.proofs.Signs.{positive_from_multiple, zero_from_multiple}
use Rattle.criteria_model.proofs.GainLemmas.{Favours, ranks_favours, favours_ranks}
use Rattle.row_laws.proofs.RowLemmas.{dot_comm, dot-minus, dot-times, length-times}
use Rattle.fraction_free.specs.declared.loaded.LoadedRow.{LoadedRow}
use Rattle.fraction_free.specs.Dictionary.{DictionaryView, no_row}
use Rattle.simplex.specs.Rows.{MeetsRows, IsCoprime}
use Rattle.decider.specs.Standing.{rows_of, rows_of_answers, StandsFor}

-- ---- rows one by one

-- the coefficients times the vector are at least the least
abbrev pub MeetsRow : List ℤ → LoadedRow → Type 0
MeetsRow vector row = row.least ≤ℤ dot row.coefficients vector

pub each_row : (columns : ℕ) (loaded : List LoadedRow) (vector : List ℤ) → MeetsRows columns loaded vector → All (MeetsRow vector) loaded
each_row columns loaded vector meets = All-from_get_or (MeetsRow vector) loaded no_row meets.each

pub from_each_row : (levels : List ℕ) (loaded : List LoadedRow) (values : List ℤ) → IsValueVector levels values → All (MeetsRow values) loaded → MeetsRows (increments levels) loaded values
from_each_row levels loaded values vector each = record { len = vector.len; positive = vector.positive; each = λ row lt. each row no_row lt }

pub rows_vector : (levels : List ℕ) (loaded : List LoadedRow) (values : List ℤ) → MeetsRows (increments levels) loaded values → IsValueVector levels values
rows_vector levels loaded values meets = record { len = meets.len; positive = meets.positive }

pub All-first : {X : Type 0} (P : X → Type 0) (xs ys : List X) → All P (xs ++ ys) → All P xs
All-first P [] ys all = All-nil P
All-first P (x ∷ xs) ys all = All-cons P x xs (All-head P x (xs ++ ys) all) (All-first P xs ys (All-tail P x (xs ++ ys) all))

pub All-later : {X : Type 0} (P : X → Type 0) (xs ys : List X) → All P (xs ++ ys) → All P ys
All-later P [] ys all = all
All-later P (x ∷ xs) ys all = All-later P xs ys (All-tail P x (xs ++ ys) all)

-- an answer that is read from the list
pub listed_at : (answers listed : List Answer) (place : ℕ) (read default : Answer) → listed ≡ answers → place < length answers → read ≡ get_or listed place default → slice_get answers place ≡ Some read
listed_at answers listed place read default same lt is =
    slice_get-get_or answers place default lt ∙ ap (λ (l : List Answer). Some (get_or l place default)) (sym same) ∙ ap (λ (a : Answer). Some a) (sym is)

pub All-found : {X : Type 0} (P : X → Type 0) (xs : List X) (k : ℕ) (x : X) → All P xs → slice_get xs k ≡ Some x → P x
All-found P xs k x all is = subst P (get_or_from_slice_get xs k x x is) (all k x (slice_get_within xs k x is))

-- ---- rows after rows

pub meets_both : (columns : ℕ) (some more : List LoadedRow) (vector : List ℤ) → MeetsRows columns some vector → MeetsRows columns more vector → MeetsRows columns (some ++ more) vector
meets_both columns some more vector meets also = record {
  len = meets.len;
  positive = meets.positive;
  each = λ row lt. All-append (MeetsRow vector) some more (each_row columns some vector meets) (each_row columns more vector also) row no_row lt;
}

pub meets_first : (columns : ℕ) (some more : List LoadedRow) (vector : List ℤ) → MeetsRows columns (some ++ more) vector → MeetsRows columns some vector
meets_first columns some more vector meets = record {
  len = meets.len;
  positive = meets.positive;
  each = λ row lt. All-first (MeetsRow vector) some more (each_row columns (some ++ more) vector meets) row no_row lt;
}

pub meets_later : (columns : ℕ) (some more : List LoadedRow) (vector : List ℤ) → MeetsRows columns (some ++ more) vector → MeetsRows columns more vector
meets_later columns some more vector meets = record {
  len = meets.len;
  positive = meets.positive;
  each = λ row lt. All-later (MeetsRow vector) some more (each_row columns (some ++ more) vector meets) row no_row lt;
}

-- ---- the rows of a ranking

-- the product with the difference of what two alternatives have
apart : (levels high low : List ℕ) (values : List ℤ) → dot (minus (has levels high) (has levels low)) values ≡ dot values (has levels high) -ℤ dot values (has levels low)
apart levels high low values = dot_comm (minus (has levels high) (has levels low)) values ∙ dot-minus values (has levels high) (has levels low)

ranks_each : (levels : List ℕ) (values : List ℤ) (pair : Pair) (side : Side) → Ranks levels values pair side → All (MeetsRow values) (rows_of levels pair side)
ranks_each levels values pair Left ranks =
    All-cons (MeetsRow values) (record { coefficients = gain levels pair Left; least = pos 1 }) [] (omega (arith, ints, ranks, apart levels pair.left pair.right values)) (All-nil (MeetsRow values))
ranks_each levels values pair Right ranks =
    All-cons (MeetsRow values) (record { coefficients = gain levels pair Right; least = pos 1 }) [] (omega (arith, ints, ranks, apart levels pair.right pair.left values)) (All-nil (MeetsRow values))
ranks_each levels values pair Equal ranks =
    let left : LoadedRow = record { coefficients = gain levels pair Left; least = pos 0 } in
    let right : LoadedRow = record { coefficients = gain levels pair Right; least = pos 0 } in
    All-cons (MeetsRow values) left (right ∷ []) (omega (arith, ints, ranks, apart levels pair.left pair.right values))
    (All-cons (MeetsRow values) right [] (omega (arith, ints, ranks, apart levels pair.right pair.left values)) (All-nil (MeetsRow values)))

each_ranks : (levels : List ℕ) (values : List ℤ) (pair : Pair) (side : Side) → All (MeetsRow values) (rows_of levels pair side) → Ranks levels values pair side
each_ranks levels values pair Left each =
    let first = All-head (MeetsRow values) (record { coefficients = gain levels pair Left; least = pos 1 }) [] each in
    omega (arith, ints, first, apart levels pair.left pair.right values)
each_ranks levels values pair Right each =
    let first = All-head (MeetsRow values) (record { coefficients = gain levels pair Right; least = pos 1 }) [] each in
    omega (arith, ints, first, apart levels pair.right pair.left values)
each_ranks levels values pair Equal each =
    let left : LoadedRow = record { coefficients = gain levels pair Left; least = pos 0 } in
    let right : LoadedRow = record { coefficients = gain levels pair Right; least = pos 0 } in
    let first = All-head (MeetsRow values) left (right ∷ []) each in
    let second = All-head (MeetsRow values) right [] (All-tail (MeetsRow values) left (right ∷ []) each) in
    omega (arith, ints, first, second, apart levels pair.left pair.right values, apart levels pair.right pair.left values)

-- a value vector meets the rows of a ranking exactly where it ranks the pair so
pub ranks_meets : (levels : List ℕ) (values : List ℤ) (pair : Pair) (side : Side) → IsValueVector levels values → Ranks levels values pair side
    → MeetsRows (increments levels) (rows_of levels pair side) values
ranks_meets levels values pair side vector ranks = from_each_row levels (rows_of levels pair side) values vector (ranks_each levels values pair side ranks)

pub meets_ranks : (levels : List ℕ) (values : List ℤ) (pair : Pair) (side : Side) → MeetsRows (increments levels) (rows_of levels pair side) values → Ranks levels values pair side
meets_ranks levels values pair side meets = each_ranks levels values pair side (each_row (increments levels) (rows_of levels pair side) values meets)

-- ---- the rows of answers

answers_each : (levels : List ℕ) (values : List ℤ) (answers : List Answer) → All (Meets levels values) answers → All (MeetsRow values) (rows_of_answers levels answers)
answers_each levels values [] all = All-nil (MeetsRow values)
answers_each levels values (answer ∷ answers) all =
    All-append (MeetsRow values) (rows_of levels answer.pair answer.side) (rows_of_answers levels answers)
    (ranks_each levels values answer.pair answer.side (All-head (Meets levels values) answer answers all))
    (answers_each levels values answers (All-tail (Meets levels values) answer answers all))

each_answers : (levels : List ℕ) (values : List ℤ) (answers : List Answer) → All (MeetsRow values) (rows_of_answers levels answers) → All (Meets levels values) answers
each_answers levels values [] all = All-nil (Meets levels values)
each_answers levels values (answer ∷ answers) all =
    All-cons (Meets levels values) answer answers
    (each_ranks levels values answer.pair answer.side (All-first (MeetsRow values) (rows_of levels answer.pair answer.side) (rows_of_answers levels answers) all))
    (each_answers levels values answers (All-later (MeetsRow values) (rows_of levels answer.pair answer.side) (rows_of_answers levels answers) all))

-- a vector meets the rows of answers exactly where it is a value vector that meets them all
pub all_meets_rows : (levels : List ℕ) (answers : List Answer) (values : List ℤ) → MeetsAll levels answers values → MeetsRows (increments levels) (rows_of_answers levels answers) values
all_meets_rows levels answers values meets = from_each_row levels (rows_of_answers levels answers) values meets.vector (answers_each levels values answers meets.each)

pub rows_meet_all : (levels : List ℕ) (answers : List Answer) (values : List ℤ) → MeetsRows (increments levels) (rows_of_answers levels answers) values → MeetsAll levels answers values
rows_meet_all levels answers values meets = record {
  vector = rows_vector levels (rows_of_answers levels answers) values meets;
  each = each_answers levels values answers (each_row (increments levels) (rows_of_answers levels answers) values meets);
}

-- ---- more answers

pub rows_append : (levels : List ℕ) (answers more : List Answer) → rows_of_answers levels (answers ++ more) ≡ rows_of_answers levels answers ++ rows_of_answers levels more
rows_append levels answers more = flat_map-append (λ (answer : Answer). rows_of levels answer.pair answer.side) answers more

pub rows_push : (levels : List ℕ) (answers : List Answer) (answer : Answer)
    → rows_of_answers levels (answers ++ answer ∷ []) ≡ rows_of_answers levels answers ++ rows_of levels answer.pair answer.side
rows_push levels answers answer =
    rows_append levels answers (answer ∷ []) ∙ ap (λ (l : List LoadedRow). rows_of_answers levels answers ++ l) (append-nil (rows_of levels answer.pair answer.side))

-- a vector meets the rows of the answers and those of a ranking exactly where it meets the answers and ranks the pair so
pub meets_tried : (levels : List ℕ) (answers : List Answer) (values : List ℤ) (pair : Pair) (side : Side) → MeetsAll levels answers values → Ranks levels values pair side
    → MeetsRows (increments levels) (rows_of_answers levels answers ++ rows_of levels pair side) values
meets_tried levels answers values pair side meets ranks =
    meets_both (increments levels) (rows_of_answers levels answers) (rows_of levels pair side) values (all_meets_rows levels answers values meets)
    (ranks_meets levels values pair side meets.vector ranks)

pub tried_meets : (levels : List ℕ) (answers : List Answer) (values : List ℤ) (pair : Pair) (side : Side)
    → MeetsRows (increments levels) (rows_of_answers levels answers ++ rows_of levels pair side) values
    → MeetsAll levels answers values × Ranks levels values pair side
tried_meets levels answers values pair side meets = (
  rows_meet_all levels answers values (meets_first (increments levels) (rows_of_answers levels answers) (rows_of levels pair side) values meets),
  meets_ranks levels values pair side (meets_later (increments levels) (rows_of_answers levels answers) (rows_of levels pair side) values meets),
)

-- so it meets the answers with this one more
pub meets_more : (levels : List ℕ) (answers : List Answer) (values : List ℤ) (answer : Answer) → MeetsAll levels answers values → Meets levels values answer
    → MeetsAll levels (answers ++ answer ∷ []) values
meets_more levels answers values answer meets also = record { vector = meets.vector; each = All-push (Meets levels values) answers answer meets.each also }

-- ---- a vector without a factor ranks as the one with it

dot-scaled : (factor : ℤ) (values row : List ℤ) → dot (times factor values) row ≡ factor *ℤ dot values row
dot-scaled factor values row = dot_comm (times factor values) row ∙ dot-times factor row values ∙ ap (λ (z : ℤ). factor *ℤ z) (dot_comm row values)

favours_scaled : (side : Side) (factor x : ℤ) → pos 1 ≤ℤ factor → Favours side (factor *ℤ x) → Favours side x
favours_scaled Left factor x low favours = positive_from_multiple factor x low favours
favours_scaled Right factor x low favours = positive_from_multiple factor x low favours
favours_scaled Equal factor x low favours = zero_from_multiple factor x low favours

pub ranks_scaled : (levels : List ℕ) (factor : ℤ) (values : List ℤ) (pair : Pair) (side : Side) → pos 1 ≤ℤ factor → Ranks levels (times factor values) pair side → Ranks levels values pair side
ranks_scaled levels factor values pair side low ranks =
    favours_ranks levels values pair side
    (favours_scaled side factor (dot values (gain levels pair side)) low
    (subst (Favours side) (dot-scaled factor values (gain levels pair side)) (ranks_favours levels (times factor values) pair side ranks)))

pub meets_scaled : (levels : List ℕ) (answers : List Answer) (factor : ℤ) (values : List ℤ) → pos 1 ≤ℤ factor → All (λ x. pos 1 ≤ℤ x) values
    → MeetsAll levels answers (times factor values) → MeetsAll levels answers values
meets_scaled levels answers factor values low positive meets = record {
  vector = record { len = sym (length-times factor values) ∙ meets.vector.len; positive = positive };
  each = All-weaker (Meets levels (times factor values)) (Meets levels values) (λ answer ranks. ranks_scaled levels factor values answer.pair answer.side low ranks) answers meets.each;
}

-- a vector without its common divisor, as `reduced` gives it
pub record IsReduced (vector given kept : List ℤ) : Type 0 where
  pub value : given ≡ vector
  pub multiple : (factor : ℤ) × (pos 1 ≤ℤ factor) × (given ≡ times factor kept)
  pub positive : All (λ x. pos 1 ≤ℤ x) kept
  pub reduced : IsCoprime kept

pub without_factor : (levels : List ℕ) (answers : List Answer) (pair : Pair) (side : Side) (vector given kept : List ℤ) → IsReduced vector given kept
    → MeetsAll levels answers vector → Ranks levels vector pair side → MeetsAll levels answers kept × Ranks levels kept pair side
without_factor levels answers pair side vector given kept r meets ranks =
    let e : vector ≡ times r.multiple.0 kept = sym r.value ∙ r.multiple.2 in (
      meets_scaled levels answers r.multiple.0 kept r.multiple.1 r.positive (subst (MeetsAll levels answers) e meets),
      ranks_scaled levels r.multiple.0 kept pair side r.multiple.1 (subst (λ (v : List ℤ). Ranks levels v pair side) e ranks),
    )

-- ---- the rows of a dictionary that stands for answers, and of a ranking that is tried

pub standing_meets : (levels : List ℕ) (answers : List Answer) (d : DictionaryView) (values : List ℤ) (pair : Pair) (side : Side) → StandsFor levels answers d
    → MeetsAll levels answers values → Ranks levels values pair side
    → MeetsRows d.columns (d.loaded ++ rows_of levels pair side) values
standing_meets levels answers d values pair side stands meets ranks =
    subst (λ (n : ℕ). MeetsRows n (d.loaded ++ rows_of levels pair side) values) (sym stands.columns)
    (subst (λ (l : List LoadedRow). MeetsRows (increments levels) (l ++ rows_of levels pair side) values) (sym stands.loaded) (meets_tried levels answers values pair side meets ranks))

pub meets_standing : (levels : List ℕ) (answers : List Answer) (d : DictionaryView) (values : List ℤ) (pair : Pair) (side : Side) → StandsFor levels answers d
    → MeetsRows d.columns (d.loaded ++ rows_of levels pair side) values
    → MeetsAll levels answers values × Ranks levels values pair side
meets_standing levels answers d values pair side stands meets =
    tried_meets levels answers values pair side
    (subst (λ (l : List LoadedRow). MeetsRows (increments levels) (l ++ rows_of levels pair side) values) stands.loaded
    (subst (λ (n : ℕ). MeetsRows n (d.loaded ++ rows_of levels pair side) values) stands.columns meets))
