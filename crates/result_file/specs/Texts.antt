-- How the lines of a checked file are written, each without its line end.
use Rattle.std.specs.Prelude.{ℕ, List, [], ◌∷◌, ◌++◌, codes, ℤ}
use Rattle.std.specs.Fmt.{decimal, signed_decimal}
use Rattle.text_fields.specs.Spelling.{listed}
use Rattle.criteria_model.specs.declared.pairs.Pair.{Pair}
use Rattle.criteria_model.specs.declared.pairs.Answer.{Answer}
use Rattle.criteria_model.specs.declared.pairs.Side.{Side}
use Rattle.criteria_model.specs.declared.pairs.Side.TheVariants.{Left, Right, Equal}
use Rattle.criteria_model.specs.Criteria.{Criteria}
use Rattle.farkas_check.specs.declared.cites.Cite.{Cite}
use Rattle.farkas_check.specs.declared.combination.Combination.{Combination}
use Rattle.result_file.specs.declared.eliminations.Elimination.{Elimination}
use Rattle.result_file.specs.declared.entries.Entry.{Entry}
use Rattle.result_file.specs.declared.entries.Entry.TheVariants.{Eliminate, Issue, Commit, Close, Withdraw}
use Rattle.result_file.specs.declared.entries.Format.TheVariants.{One, Two}
use Rattle.result_file.specs.declared.kinds.Kind.{Kind}
use Rattle.result_file.specs.declared.kinds.Kind.TheVariants.{Claims, Result}
use Rattle.result_file.specs.Claims.{Claim, answered, eliminated}

-- the first line of a file of this kind
abbrev pub heading : Kind → List ℕ
heading Claims = codes "paprika claims 1"
heading (Result One) = codes "paprika result 1"
heading (Result Two) = codes "paprika result 2"

-- the last line
abbrev pub end_line : List ℕ
end_line = codes "end"

-- the second line
abbrev pub model_line : Criteria → List ℕ
model_line criteria = codes "model " ++ listed decimal criteria.levels ++ codes " degree " ++ decimal criteria.degree

-- a pair: its two lists of levels
abbrev pub pair_text : Pair → List ℕ
pair_text pair = listed decimal pair.left ++ codes "/" ++ listed decimal pair.right

-- a side
abbrev pub side_text : Side → List ℕ
side_text Left = codes "left"
side_text Right = codes "right"
side_text Equal = codes "equal"

-- a pair and a side of it
abbrev pub ranking_text : Answer → List ℕ
ranking_text ranking = pair_text ranking.pair ++ codes " " ++ side_text ranking.side

-- a cited answer and its weight
abbrev pub cite_text : Cite → List ℕ
cite_text cite = decimal cite.answer ++ codes ":" ++ signed_decimal cite.weight

-- the cited answers, or a dash for none
abbrev pub cites_text : List Cite → List ℕ
cites_text [] = codes "-"
cites_text (cite ∷ cites) = listed cite_text (cite ∷ cites)

-- a combination: the scale, the increments' weights and the cited answers
abbrev pub combination_text : Combination → List ℕ
combination_text combination =
    signed_decimal combination.scale ++ codes " " ++ listed signed_decimal combination.increments
    ++ codes " " ++ cites_text combination.answers

-- an answer line
abbrev pub answer_line : Answer → List ℕ
answer_line answer = codes "answer " ++ ranking_text answer

-- an eliminate line
abbrev pub elimination_line : Elimination → List ℕ
elimination_line elimination =
    codes "eliminate " ++ decimal elimination.worker ++ codes " "
    ++ ranking_text (record { pair = elimination.pair; side = elimination.verdict })
    ++ codes " " ++ combination_text elimination.combination

-- the line of a claim
abbrev pub claim_line : Claim → List ℕ
claim_line (answered answer) = answer_line answer
claim_line (eliminated elimination) = elimination_line elimination

-- a vector
abbrev pub vector_text : List ℤ → List ℕ
vector_text vector = listed signed_decimal vector

-- the two vectors that open a pair
abbrev pub vectors_text : List ℤ → List ℤ → List ℕ
vectors_text plus minus = vector_text plus ++ codes " " ++ vector_text minus

-- a desk, and the number of a question or of an answer
abbrev pub numbers_text : ℕ → ℕ → List ℕ
numbers_text desk number = decimal desk ++ codes " " ++ decimal number

-- an issue line
abbrev pub issue_line : ℕ → Pair → List ℤ → List ℤ → List ℕ
issue_line desk pair plus minus =
    codes "issue " ++ decimal desk ++ codes " " ++ pair_text pair ++ codes " " ++ vectors_text plus minus

-- a commit line
abbrev pub commit_line : ℕ → ℕ → Side → List ℤ → List ℤ → List ℤ → List ℕ
commit_line desk question side plus minus point =
    codes "commit " ++ numbers_text desk question ++ codes " " ++ side_text side
    ++ codes " " ++ vectors_text plus minus ++ codes " " ++ vector_text point

-- a close line
abbrev pub close_line : ℕ → ℕ → List ℕ
close_line desk question = codes "close " ++ numbers_text desk question

-- a withdraw line
abbrev pub withdraw_line : ℕ → ℕ → List ℕ
withdraw_line desk answer = codes "withdraw " ++ numbers_text desk answer

-- the line of an entry
abbrev pub entry_line : Entry → List ℕ
entry_line (Eliminate elimination) = elimination_line elimination
entry_line (Issue desk pair plus minus) = issue_line desk pair plus minus
entry_line (Commit desk question side plus minus point) = commit_line desk question side plus minus point
entry_line (Close desk question) = close_line desk question
entry_line (Withdraw desk answer) = withdraw_line desk answer
