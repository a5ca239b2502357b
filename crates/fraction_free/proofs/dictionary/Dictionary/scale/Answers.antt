use Rattle.std.proofs.Common.{subst}
use Rattle.fraction_free.specs.Dictionary.{IsDictionary}
use Rattle.fraction_free.proofs.Kept.{dictionary_from_kept}
use Rattle.fraction_free.proofs.dictionary.Dictionary.scale.Goals as goal

pub returns-clause-dictionary : goal.returns-clause-dictionary
returns-clause-dictionary c = subst IsDictionary c.self.view_is (dictionary_from_kept _ _ _ _ _ _ _ _ _ _ _ c.self.invariant)
