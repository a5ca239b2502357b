use Rattle.std.proofs.Common.{◌≡◌, ◌∙◌, ap, ap₂, refl, subst₂, arith, leb-true, le-leb}
use Rattle.criteria_model.specs.Alternatives.{IsUndominated, degree}
use Rattle.criteria_model.specs.Pairs.{IsCancelled, IsLeftFirst}
use Rattle.criteria_model.proofs.DominanceLemmas.{written, written_turned, higher_filled}
use Rattle.criteria_model.proofs.models.Model.is_class.Goals as goal

pub returns : goal.returns
returns c =
    let l = c.as_slice-left.ensures.value in
    let r = c.as_slice-right.ensures.value in
    let fits = c.if-not-fits.ensures.0 refl in
    let apart = subst₂ IsUndominated l r (c.if-not-is_undominated.ensures.0 refl) in
    let differ : c.degree.result ≡ degree c.args.pair.now.left c.args.pair.now.right = c.degree.ensures.value ∙ ap₂ degree l r in
    let limit : c.from.result ≡ c.args.self.now.degree = c.from.ensures ∙ ap (λ m. m.degree) c.self.view_is in (
      λ t. record {
        fits = fits;
        cancelled = subst₂ IsCancelled l r (c.if-not-is_cancelled.ensures.0 refl);
        left_first = subst₂ IsLeftFirst l r (c.if-not-is_left_first.ensures.0 refl);
        undominated = (higher_filled _ _ _ (written _ _ fits) apart.0, higher_filled _ _ _ (written_turned _ _ fits) apart.1);
        within = omega (arith, leb-true c.degree.result c.from.result t, differ, limit);
      },
      λ h. le-leb c.degree.result c.from.result (omega (arith, h.within, differ, limit)),
    )
