-- What is known of a reply.
use Rattle.std.specs.Prelude.{ℕ, List}
use Rattle.criteria_model.specs.Pairs.{IsFit}
use Rattle.json_forms.specs.declared.replies.Reply.{Reply}
use Rattle.json_forms.specs.declared.replies.Reply.TheVariants.{Next}
use Rattle.json_forms.specs.Replies.{IsWritable}
use Rattle.survey_replies.specs.declared.replies.NextReply.TheVariants.{Question}

-- the pair of a question fits the model
abbrev pub HasFitPair : List ℕ → Reply → Type 0
HasFitPair levels (Next (Question at number place pair)) = IsFit levels pair
HasFitPair levels _ = Unit {0}

-- the reply can be written, and its question answered
pub record IsUsable (levels : List ℕ) (reply : Reply) : Type 0 where
  pub writable : IsWritable levels reply
  pub fits : HasFitPair levels reply
