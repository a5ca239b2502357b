use Rattle.std.proofs.Common.{◌≡◌, ◌+◌, List, [], ◌∷◌, ◌++◌, length, length-append, ap, ◌∙◌, arith}
use Rattle.criteria_model.specs.declared.pairs.Answer.{Answer}
use Rattle.result_file.specs.Claims.{answered}
use Rattle.result_file.specs.Kept.{KeptClaims}
use Rattle.result_file.proofs.ClaimLaws.{refuses, accepts_answer, fits_more}
use Rattle.result_file.proofs.claims.Claims.add_answer.Goals as goal

pub returns-in-Err-clause-failed : goal.returns-in-Err-clause-failed
returns-in-Err-clause-failed c = refuses c.args.self.now (answered c.args.answer) c.in-Err.part c.in-Err.ensures.failed

pub invariant_of-self-2 : goal.invariant_of-self-2
invariant_of-self-2 c =
    let model : c.self.inside.model ≡ c.args.self.now.model = ap (λ (k : KeptClaims). k.model) c.self.view_is in
    let count : c.self.inside.count ≡ c.args.self.now.count = ap (λ (k : KeptClaims). k.count) c.self.view_is in
    let answers : c.push.new.self.answers ≡ c.self.inside.answers.answers ++ c.args.answer ∷ [] =
    c.push.ensures.answers ∙ ap (λ (xs : List Answer). xs ++ c.args.answer ∷ []) c.grow.ensures.answers in
    let class = c.in_default.ensures.class in
    record {
      model = c.self.invariant.model;
      criteria = c.self.invariant.criteria;
      increments = c.self.invariant.increments;
      answers = omega (arith, ap length answers, length-append c.self.inside.answers.answers (c.args.answer ∷ []), c.self.invariant.answers);
      few = omega (arith, c.in_default.ensures.room, count);
      fit = fits_more _ _ _ c.args.answer answers c.self.invariant.fit (rw (← model) at class.fits);
    }

pub returns-clause-added : goal.returns-clause-added
returns-clause-added c =
    let answers : c.push.new.self.answers ≡ c.args.self.now.answers ++ c.args.answer ∷ [] =
    c.push.ensures.answers ∙ ap (λ (xs : List Answer). xs ++ c.args.answer ∷ []) (c.grow.ensures.answers ∙ ap (λ (k : KeptClaims). k.answers) c.self.view_is) in
    accepts_answer c.args.self.now _ c.args.answer c.in_default.ensures.room c.in_default.ensures.class (ap (λ (k : KeptClaims). k.model) c.self.view_is) (ap (λ (k : KeptClaims). k.count + 1) c.self.view_is) answers
