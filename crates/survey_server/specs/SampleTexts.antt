-- The line of a sample survey.
use Rattle.std.specs.Prelude.{ℕ, List, [], ◌∷◌, ◌++◌, codes}
use Rattle.std.specs.Fmt.{decimal}
use Rattle.std.specs.List.{flat_map}
use Rattle.survey_words.specs.declared.shapes.Shape.{Shape}
use Rattle.sample_survey.specs.declared.summary.Summary.{Summary}

-- level counts joined by `x`
abbrev pub counts_text : List ℕ → List ℕ
counts_text [] = []
counts_text (first ∷ counts) = decimal first ++ flat_map (λ count. codes "x" ++ decimal count) counts

-- a shape as the words have it
abbrev pub shape_text : Shape → List ℕ
shape_text shape = counts_text shape.counts ++ codes ":" ++ decimal shape.degree

-- the line of a summary
abbrev pub sample_line : ℕ → Shape → Summary → List ℕ
sample_line seed shape summary =
    codes "sample " ++ decimal seed ++ codes " " ++ shape_text shape
    ++ codes " classes " ++ decimal summary.classes ++ codes " questions " ++ decimal summary.questions
    ++ codes " left " ++ decimal summary.left ++ codes " right " ++ decimal summary.right ++ codes " equal " ++ decimal summary.equal
    ++ codes " eliminated " ++ decimal summary.eliminated ++ codes " trace " ++ decimal summary.trace ++ codes " complete\n"
