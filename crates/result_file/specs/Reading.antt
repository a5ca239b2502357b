-- What a line reads as: the numbers, the claim or the entry that it spells, or none.
use Rattle.std.specs.Prelude.{ℕ, ◌==◌, nat_le, int_le, Bool, List, [], ◌∷◌, length, drop, codes, Option, Some, None, if◌then◌else◌, ℤ, pos}
use Rattle.std.specs.List.{list_all}
use Rattle.text_fields.specs.Spelling.{is_next}
use Rattle.text_fields.specs.Reading.{◌>>=◌, read_word, read_number, read_certificate, read_list}
use Rattle.criteria_model.specs.declared.pairs.Pair.{Pair}
use Rattle.criteria_model.specs.declared.pairs.Answer.{Answer}
use Rattle.criteria_model.specs.declared.pairs.Side.{Side}
use Rattle.criteria_model.specs.declared.pairs.Side.TheVariants.{Left, Right, Equal}
use Rattle.farkas_check.specs.declared.cites.Cite.{Cite}
use Rattle.farkas_check.specs.declared.combination.Combination.{Combination}
use Rattle.survey_core.specs.declared.limits.TheConstants.{MAX_EVENTS}
use Rattle.result_file.specs.declared.limits.TheConstants.{MAX_MODEL_NUMBER}
use Rattle.result_file.specs.declared.eliminations.Elimination.{Elimination}
use Rattle.result_file.specs.declared.entries.Entry.{Entry}
use Rattle.result_file.specs.declared.entries.Entry.TheVariants.{Issue, Commit, Close, Withdraw}
use Rattle.result_file.specs.declared.entries.Format.{Format}
use Rattle.result_file.specs.declared.entries.Format.TheVariants.{One, Two}

-- the value, where nothing is left
abbrev pub at_end : {X : Type 0} → X → List ℕ → Option X
at_end x [] = Some x
at_end x (byte ∷ text) = None

-- the first reading, or else the second
abbrev pub or_else : {X : Type 0} → Option X → Option X → Option X
or_else None other = other
or_else (Some x) other = Some x

-- a list of exactly this number of items
abbrev pub exactly : {X : Type 0} → ℕ → Option (List X × List ℕ) → Option (List X × List ℕ)
exactly count read = read >>= λ found. if length found.0 == count then Some found else None

-- the levels and the degree of a model line
unfoldable pub read_model : List ℕ → Option (List ℕ × ℕ)
read_model line =
    read_word (codes "model ") line >>= λ word.
    read_list (read_number MAX_MODEL_NUMBER) 2048 word.1 >>= λ levels.
    read_word (codes " degree ") levels.1 >>= λ blank.
    read_number MAX_MODEL_NUMBER blank.1 >>= λ degree.
    at_end (levels.0, degree.0) degree.1

-- the levels of one side of a pair, for this number of criteria
unfoldable pub read_tuple : ℕ → List ℕ → Option (List ℕ × List ℕ)
read_tuple criteria text = exactly criteria (read_list (read_number 25) 24 text)

-- a pair
unfoldable pub read_pair : ℕ → List ℕ → Option (Pair × List ℕ)
read_pair criteria text =
    read_tuple criteria text >>= λ left.
    read_word (codes "/") left.1 >>= λ slash.
    read_tuple criteria slash.1 >>= λ right.
    Some (record { left = left.0; right = right.0 }, right.1)

-- a side after its word
abbrev pub side_behind : Side → List ℕ → List ℕ → Option (Side × List ℕ)
side_behind side word text = read_word word text >>= λ found. Some (side, found.1)

-- a side
unfoldable pub read_side : List ℕ → Option (Side × List ℕ)
read_side text =
    or_else (side_behind Left (codes "left") text)
    (or_else (side_behind Right (codes "right") text) (side_behind Equal (codes "equal") text))

-- a pair and a side of it
unfoldable pub read_ranking : ℕ → List ℕ → Option (Answer × List ℕ)
read_ranking criteria text =
    read_pair criteria text >>= λ pair.
    read_word (codes " ") pair.1 >>= λ blank.
    read_side blank.1 >>= λ side.
    Some (record { pair = pair.0; side = side.0 }, side.1)

-- an answer line
unfoldable pub read_answer : ℕ → List ℕ → Option Answer
read_answer criteria line =
    read_word (codes "answer ") line >>= λ word.
    read_ranking criteria word.1 >>= λ ranking.
    at_end ranking.0 ranking.1

-- the increments' weights, for this number of increments
unfoldable pub read_weights : ℕ → List ℕ → Option (List ℤ × List ℕ)
read_weights increments text = exactly increments (read_list read_certificate 24 text)

-- a cited answer and its weight
unfoldable pub read_cite : List ℕ → Option (Cite × List ℕ)
read_cite text =
    read_number MAX_EVENTS text >>= λ answer.
    read_word (codes ":") answer.1 >>= λ colon.
    read_certificate colon.1 >>= λ weight.
    Some (record { answer = answer.0; weight = weight.0 }, weight.1)

-- the cited answers, whatever their order, or a dash for none
unfoldable pub read_cites : List ℕ → Option (List Cite × List ℕ)
read_cites text = if is_next 45 text then Some ([], drop 1 text) else read_list read_cite 24 text

-- a combination
unfoldable pub read_combination : ℕ → List ℕ → Option (Combination × List ℕ)
read_combination increments text =
    read_certificate text >>= λ scale.
    read_word (codes " ") scale.1 >>= λ blank.
    read_weights increments blank.1 >>= λ weights.
    read_word (codes " ") weights.1 >>= λ second.
    read_cites second.1 >>= λ cites.
    Some (record { scale = scale.0; increments = weights.0; answers = cites.0 }, cites.1)

-- an eliminate line
unfoldable pub read_elimination : ℕ → ℕ → List ℕ → Option Elimination
read_elimination criteria increments line =
    read_word (codes "eliminate ") line >>= λ word.
    read_number 16 word.1 >>= λ worker.
    read_word (codes " ") worker.1 >>= λ blank.
    read_ranking criteria blank.1 >>= λ ranking.
    read_word (codes " ") ranking.1 >>= λ second.
    read_combination increments second.1 >>= λ combination.
    at_end (record { worker = worker.0; pair = ranking.0.pair; verdict = ranking.0.side; combination = combination.0 }) combination.1

-- what was read, where it passes a test
abbrev pub passing : {X : Type 0} → (X → Bool) → Option (X × List ℕ) → Option (X × List ℕ)
passing test read = read >>= λ found. if test found.0 then Some found else None

-- a number from 1 on
abbrev pub read_counted : ℕ → List ℕ → Option (ℕ × List ℕ)
read_counted most text = passing (nat_le 1) (read_number most text)

-- a desk
unfoldable pub read_desk : List ℕ → Option (ℕ × List ℕ)
read_desk text = read_counted 4 text

-- a desk, and the number of a question or of an answer
unfoldable pub read_numbers : List ℕ → Option ((ℕ × ℕ) × List ℕ)
read_numbers text =
    read_desk text >>= λ desk.
    read_word (codes " ") desk.1 >>= λ blank.
    read_counted MAX_EVENTS blank.1 >>= λ number.
    Some ((desk.0, number.0), number.1)

-- a vector with a positive number for each of this number of increments
unfoldable pub read_vector : ℕ → List ℕ → Option (List ℤ × List ℕ)
read_vector increments text = passing (list_all (int_le (pos 1))) (read_weights increments text)

-- the two vectors that open a pair
unfoldable pub read_vectors : ℕ → List ℕ → Option ((List ℤ × List ℤ) × List ℕ)
read_vectors increments text =
    read_vector increments text >>= λ plus.
    read_word (codes " ") plus.1 >>= λ blank.
    read_vector increments blank.1 >>= λ minus.
    Some ((plus.0, minus.0), minus.1)

-- an issue line
unfoldable pub read_issue : ℕ → ℕ → List ℕ → Option Entry
read_issue criteria increments line =
    read_word (codes "issue ") line >>= λ word.
    read_desk word.1 >>= λ desk.
    read_word (codes " ") desk.1 >>= λ blank.
    read_pair criteria blank.1 >>= λ pair.
    read_word (codes " ") pair.1 >>= λ second.
    read_vectors increments second.1 >>= λ vectors.
    at_end (Issue desk.0 pair.0 vectors.0.0 vectors.0.1) vectors.1

-- a commit line
unfoldable pub read_commit : ℕ → List ℕ → Option Entry
read_commit increments line =
    read_word (codes "commit ") line >>= λ word.
    read_numbers word.1 >>= λ numbers.
    read_word (codes " ") numbers.1 >>= λ blank.
    read_side blank.1 >>= λ side.
    read_word (codes " ") side.1 >>= λ second.
    read_vectors increments second.1 >>= λ vectors.
    read_word (codes " ") vectors.1 >>= λ third.
    read_vector increments third.1 >>= λ point.
    at_end (Commit numbers.0.0 numbers.0.1 side.0 vectors.0.0 vectors.0.1 point.0) point.1

-- a close line
unfoldable pub read_close : List ℕ → Option Entry
read_close line =
    read_word (codes "close ") line >>= λ word.
    read_numbers word.1 >>= λ numbers.
    at_end (Close numbers.0.0 numbers.0.1) numbers.1

-- a withdraw line
unfoldable pub read_withdraw : List ℕ → Option Entry
read_withdraw line =
    read_word (codes "withdraw ") line >>= λ word.
    read_numbers word.1 >>= λ numbers.
    at_end (Withdraw numbers.0.0 numbers.0.1) numbers.1

-- a withdraw line, where the format has them
abbrev pub withdrawal_in : Format → List ℕ → Option Entry
withdrawal_in One line = None
withdrawal_in Two line = read_withdraw line

-- a line of a result that is no elimination
unfoldable pub read_step : Format → ℕ → ℕ → List ℕ → Option Entry
read_step format criteria increments line =
    or_else (read_issue criteria increments line)
    (or_else (read_commit increments line)
    (or_else (read_close line) (withdrawal_in format line)))
