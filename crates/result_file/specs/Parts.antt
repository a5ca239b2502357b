-- The part of a line that an event lacks.
use Rattle.farkas_check.specs.declared.flaws.Flaw.TheVariants as flaws
use Rattle.survey_core.specs.declared.broken.Broken.{Broken}
use Rattle.survey_core.specs.declared.broken.Broken.TheVariants as broken
use Rattle.result_file.specs.declared.verdicts.Part.{Part}
use Rattle.result_file.specs.declared.verdicts.Part.TheVariants.{Class, Ranked, Asked, Full, Earlier, Vectors, Question, Point, Unranked, Nothing, Spent, Scale, Increment, Cite, Weight, Sum, Strict}

-- the part of a line that an event lacks; a flaw of its combination is a part of its own
abbrev pub part_of : Broken → Part
part_of broken.Class = Class
part_of broken.Ranked = Ranked
part_of (broken.Flaw flaws.Scale) = Scale
part_of (broken.Flaw flaws.Increment) = Increment
part_of (broken.Flaw flaws.Cite) = Cite
part_of (broken.Flaw flaws.Weight) = Weight
part_of (broken.Flaw flaws.Sum) = Sum
part_of (broken.Flaw flaws.Strict) = Strict
part_of broken.Asked = Asked
part_of broken.Full = Full
part_of broken.Earlier = Earlier
part_of broken.Vectors = Vectors
part_of broken.Question = Question
part_of broken.Point = Point
part_of broken.Unranked = Unranked
part_of broken.Nothing = Nothing
part_of broken.Spent = Spent
