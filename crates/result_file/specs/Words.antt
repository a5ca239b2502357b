-- The words of the parts of a line.
use Rattle.std.specs.Prelude.{ℕ, List, codes}
use Rattle.result_file.specs.declared.verdicts.Part.{Part}
use Rattle.result_file.specs.declared.verdicts.Part.TheVariants.{Form, Model, Limit, Class, Ranked, Asked, Full, Earlier, Vectors, Question, Point, Unranked, Nothing, Spent, Scale, Increment, Cite, Weight, Sum, Strict}

-- the word of a part
abbrev pub part_text : Part → List ℕ
part_text Form = codes "form"
part_text Model = codes "model"
part_text Limit = codes "limit"
part_text Class = codes "class"
part_text Ranked = codes "ranked"
part_text Asked = codes "asked"
part_text Full = codes "full"
part_text Earlier = codes "earlier"
part_text Vectors = codes "vectors"
part_text Question = codes "question"
part_text Point = codes "point"
part_text Unranked = codes "unranked"
part_text Nothing = codes "nothing"
part_text Spent = codes "spent"
part_text Scale = codes "scale"
part_text Increment = codes "increment"
part_text Cite = codes "cite"
part_text Weight = codes "weight"
part_text Sum = codes "sum"
part_text Strict = codes "strict"
