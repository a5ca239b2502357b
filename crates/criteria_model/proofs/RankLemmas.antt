-- Values rank a pair in one way, so answers that two vectors open it by rank it in none.
use Rattle.std.proofs.Common.{◌≡◌, ℕ, List, ℤ, refl, arith}
use Rattle.std.proofs.lemmas.Int.{ints}
use Rattle.criteria_model.specs.declared.pairs.Pair.{Pair}
use Rattle.criteria_model.specs.declared.pairs.Answer.{Answer}
use Rattle.criteria_model.specs.declared.pairs.Side.{Side}
use Rattle.criteria_model.specs.declared.pairs.Side.TheVariants.{Left, Right, Equal}
use Rattle.criteria_model.specs.Answers.{Ranks, IsOpen, Opens}

pub ranks_once : (levels : List ℕ) (values : List ℤ) (pair : Pair) (one other : Side) → Ranks levels values pair one → Ranks levels values pair other → one ≡ other
ranks_once levels values pair Left Left h k = refl
ranks_once levels values pair Left Right h k = absurd (omega (arith, ints, h, k))
ranks_once levels values pair Left Equal h k = absurd (omega (arith, ints, h, k))
ranks_once levels values pair Right Left h k = absurd (omega (arith, ints, h, k))
ranks_once levels values pair Right Right h k = refl
ranks_once levels values pair Right Equal h k = absurd (omega (arith, ints, h, k))
ranks_once levels values pair Equal Left h k = absurd (omega (arith, ints, h, k))
ranks_once levels values pair Equal Right h k = absurd (omega (arith, ints, h, k))
ranks_once levels values pair Equal Equal h k = refl

pub opened_is_open : (levels : List ℕ) (answers : List Answer) (pair : Pair) (plus minus : List ℤ) → Opens levels answers pair plus minus → IsOpen levels answers pair
opened_is_open levels answers pair plus minus opens Left ranked = omega (arith, ints, ranked minus opens.minus_meets, opens.less)
opened_is_open levels answers pair plus minus opens Right ranked = omega (arith, ints, ranked plus opens.plus_meets, opens.more)
opened_is_open levels answers pair plus minus opens Equal ranked = omega (arith, ints, ranked plus opens.plus_meets, opens.more)
