-- Tests on loaded rows.
use Rattle.std.proofs.Common.{◌≡◌, ℕ, ◌<◌, Bool, true, false, ◌&&◌, List, [], ◌∷◌, length, ℤ, SFits, to_z, of_z, refl, sym, ap, ◌∙◌}
use mir.Syntax.{w8}
use lib.Pointwise.{pointwise}
use Rattle.std.specs.Prelude.{IsTrue, ◌↔◌, ◌==◌}
use Rattle.std.specs.Ordering.{int_eq}
use Rattle.std.proofs.lemmas.Bool.{eqb-true, eq-eqb, true≢false, false≢true}
use Rattle.std.proofs.lemmas.Bool.Decides.{Decides-int_eq}
use Rattle.std.proofs.lemmas.Int.{to_z-of_z}
use Rattle.fraction_free.specs.declared.loaded.LoadedRow.{LoadedRow}
use Rattle.fraction_free.specs.Dictionary.{loaded_at}
use Rattle.decider.specs.Standing.{HasRow}

pub same_int : (x y : ℤ) → int_eq x y ≡ true → x ≡ y
same_int x y e = (Decides-int_eq x y).0 e

pub int_same : (x : ℤ) → int_eq x x ≡ true
int_same x = (Decides-int_eq x x).1 refl

and_parts : (a b : Bool) → (a && b) ≡ true → (a ≡ true) × (b ≡ true)
and_parts true b h = (refl, h)
and_parts false b h = absurd (false≢true h)

both_parts : (a b : Bool) → a ≡ true → b ≡ true → (a && b) ≡ true
both_parts true b h k = k
both_parts false b h k = absurd (false≢true h)

pub same_list : (xs ys : List ℤ) → pointwise int_eq xs ys ≡ true → xs ≡ ys
same_list [] [] e = refl
same_list [] (y ∷ ys) e = absurd (false≢true e)
same_list (x ∷ xs) [] e = absurd (false≢true e)
same_list (x ∷ xs) (y ∷ ys) e =
    let p : (int_eq x y ≡ true) × (pointwise int_eq xs ys ≡ true) = and_parts (int_eq x y) (pointwise int_eq xs ys) e in
    ap (λ (z : ℤ). z ∷ xs) (same_int x y p.0) ∙ ap (λ (l : List ℤ). y ∷ l) (same_list xs ys p.1)

pub list_same : (xs : List ℤ) → pointwise int_eq xs xs ≡ true
list_same [] = refl
list_same (x ∷ xs) = both_parts (int_eq x x) (pointwise int_eq xs xs) (int_same x) (list_same xs)

same_bits : (x y : ℤ) → SFits w8 x → SFits w8 y → of_z w8 x ≡ of_z w8 y → x ≡ y
same_bits x y p q e = sym (to_z-of_z w8 x p) ∙ ap (to_z w8) e ∙ to_z-of_z w8 y q

abbrev pub RowIs : List LoadedRow → ℕ → List ℤ → ℤ → Type 0
RowIs loaded before coefficients least = HasRow loaded before (record { coefficients = coefficients; least = least })

-- the least is tested where the coefficients are the same
pub least_tested : (loaded : List LoadedRow) (before place : ℕ) (coefficients held : List ℤ) (least bound : ℤ) → before < length loaded → place ≡ before
    → held ≡ (loaded_at loaded place).coefficients → bound ≡ (loaded_at loaded place).least → held ≡ coefficients → SFits w8 bound → SFits w8 least
    → IsTrue (of_z w8 bound == of_z w8 least) ↔ RowIs loaded before coefficients least
least_tested loaded before place coefficients held least bound lt e hc hb same fb fl = (
  λ t. record { within = lt; is = made (same_bits bound least fb fl (eqb-true (of_z w8 bound) (of_z w8 least) t)) },
  λ row. eq-eqb (of_z w8 bound) (of_z w8 least) (ap (of_z w8) (hb ∙ ap (λ (n : ℕ). (loaded_at loaded n).least) e ∙ ap (λ (r : LoadedRow). r.least) row.is)),
)
  where
    made : bound ≡ least → loaded_at loaded before ≡ record { coefficients = coefficients; least = least }
    made f =
        ap (λ (n : ℕ). loaded_at loaded n) (sym e)
        ∙ ap (λ (l : List ℤ). record { coefficients = l; least = (loaded_at loaded place).least }) (sym hc ∙ same)
        ∙ ap (λ (z : ℤ). record { coefficients = coefficients; least = z }) (sym hb ∙ f)

-- other coefficients
pub other_row : (loaded : List LoadedRow) (before place : ℕ) (coefficients held : List ℤ) (least : ℤ) (tested : Bool) → place ≡ before
    → held ≡ (loaded_at loaded place).coefficients → tested ≡ false → (held ≡ coefficients → tested ≡ true)
    → IsTrue tested ↔ RowIs loaded before coefficients least
other_row loaded before place coefficients held least tested e hc no_ yes_ = (
  λ t. absurd (true≢false (sym t ∙ no_)),
  λ row. absurd (true≢false (sym (yes_ (hc ∙ ap (λ (n : ℕ). (loaded_at loaded n).coefficients) e ∙ ap (λ (r : LoadedRow). r.coefficients) row.is)) ∙ no_)),
)
