use Rattle.std.proofs.Common.{◌+◌, Some, subst, ap}
use Rattle.farkas_check.specs.Flaws.{IsFirstFlaw}
use Rattle.farkas_check.specs.Proof.{Proves}
use Rattle.result_file.specs.Claims.{eliminated}
use Rattle.result_file.specs.Kept.{KeptClaims}
use Rattle.result_file.proofs.ClaimLaws.{refuses, accepts_elimination, flawed}
use Rattle.result_file.proofs.claims.Claims.add_elimination.Goals as goal

pub returns-in-Err-clause-failed : goal.returns-in-Err-clause-failed
returns-in-Err-clause-failed c = refuses c.args.self.now (eliminated c.args.elimination.now) c.in-Err.part c.in-Err.ensures.failed

pub returns-in-Some-clause-failed : goal.returns-in-Some-clause-failed
returns-in-Some-clause-failed c =
    flawed c.args.self.now c.args.elimination.now c.in-Some.flaw c.from.result c.in_default.ensures.room c.in_default.ensures.class (subst (λ (k : KeptClaims). IsFirstFlaw k.model.levels k.answers c.args.elimination.now.combination c.args.elimination.now.pair c.args.elimination.now.verdict (Some c.in-Some.flaw)) c.self.view_is c.in-Some.ensures) c.from.ensures

pub returns-clause-added : goal.returns-clause-added
returns-clause-added c =
    accepts_elimination c.args.self.now _ c.args.elimination.now c.in_default.ensures.room c.in_default.ensures.class (subst (λ (k : KeptClaims). Proves k.model.levels k.answers c.args.elimination.now.combination c.args.elimination.now.pair c.args.elimination.now.verdict) c.self.view_is c.in_default-flaw.ensures) (ap (λ (k : KeptClaims). k.model) c.self.view_is) (ap (λ (k : KeptClaims). k.count + 1) c.self.view_is) (ap (λ (k : KeptClaims). k.answers) c.self.view_is)
