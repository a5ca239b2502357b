-- What the steps on words and the steps on seats share.
use Rattle.std.proofs.Common.{◌≡◌, ◌≢◌, ◌⊎◌, ℕ, ◌+◌, ◌≤◌, ◌==◌, true, cond, Option, Some, None, List}
use Rattle.std.proofs.Common.{get_or, set, refl, ap, sym, subst, ◌∙◌, ⊎_elim, arith}
use Rattle.std.proofs.lemmas.Bool.Decides.{nat_tests}
use mathlib.Core.Option.{Option as Maybe, none, some}
use lib.ListN.{get_elem?}
use lib.Seq.{set-get_or}
use Rattle.atomic_table.specs.Table.{State}
use Rattle.atomic_table.proofs.Lists.{at_set}
use Rattle.turn_lock.specs.declared.rule.View.{View}
use Rattle.turn_lock.specs.declared.rule.Stage.{Stage}
use Rattle.turn_lock.specs.declared.rule.Stage.TheVariants.{Outside, Waiting, Served}
use Rattle.turn_lock.specs.declared.limits.TheConstants.{MAX_SEATS}
use Rattle.turn_lock.specs.Rule.{sum_over, is_out, is_served, has_ticket, Knows, spent, IsSeated, out, served}
use Rattle.turn_lock.specs.Rule.{with_ticket, owners, weight_of_all, is_home, HoldsState, ObeysRule}
use Rattle.turn_lock.specs.Steps.{ticket_of, log_of, is_inside}
use Rattle.turn_lock.proofs.Totals.{sum_over_set, sum_over_le}

module _ {V : Type 0} where
  -- what holds of the changed view and of each other one holds of all
  pub set_each : (P : V → Type 0) (vs : List V) (id : ℕ) (w : V) → P w
      → ((j : ℕ) (d : V) → j ≢ id → get_elem? vs j ≡ some d → P d)
      → (j : ℕ) (d : V) → get_elem? (set vs id w) j ≡ some d → P d
  set_each P vs id w mine others j d e = ⊎_elim
      (λ (t : (j ≡ id) × (w ≡ d)). subst P t.1 mine)
      (λ (t : (j ≢ id) × (get_elem? vs j ≡ some d)). others j d t.0 t.1)
      (at_set vs id j w d e)

  pub sum_over_same : (f : V → ℕ) (vs : List V) (id : ℕ) (v w : V) → get_elem? vs id ≡ some v → f w ≡ f v → sum_over f (set vs id w) ≡ sum_over f vs
  sum_over_same f vs id v w at e = let t = sum_over_set f vs id v w at in omega arith

module _ {E : Type 0} where
  pub knows_unserved : (serving : ℕ) (log : List E) (st : Stage E) → is_served st ≡ 0 → Knows serving log st
  knows_unserved serving log Outside e = tt
  knows_unserved serving log (Waiting n) e = tt
  knows_unserved serving log (Served n l) e = absurd (omega arith)

  pub served_has_ticket : (serving : ℕ) (log : List E) (st : Stage E) → Knows serving log st → is_served st ≤ has_ticket serving st
  served_has_ticket serving log Outside k = omega arith
  served_has_ticket serving log (Waiting n) k = grind (arith, nat_tests)
  served_has_ticket serving log (Served n l) k = let e = k.0 in grind (arith, nat_tests)

  pub out_le : (st : Stage E) → is_out st ≤ 1
  out_le Outside = omega arith
  out_le (Waiting n) = omega arith
  out_le (Served n l) = omega arith

  -- a seat inside is served, with the ticket that is served, and knows the list
  pub inside_knows : (serving : ℕ) (log : List E) (st : Stage E) → is_inside st ≡ true → Knows serving log st
      → (ticket_of st ≡ serving) × (log_of st ≡ log) × (is_served st ≡ 1) × (is_out st ≡ 1) × ((n : ℕ) → has_ticket n st ≡ cond (ticket_of st == n) 1 0)
  inside_knows serving log Outside e k = absurd cc
  inside_knows serving log (Waiting n) e k = absurd cc
  inside_knows serving log (Served n l) e k = (k.0, k.1, refl, refl, λ _. refl)

module _ {S E K : Type 0} (entries : S → List E) (kind : S → K) (op : S) (seats : ℕ) where
  abbrev V : Type 0
  V = View E K

  abbrev St : Type 0
  St = State (Option S) V

  abbrev Rule : St → Type 0
  Rule = ObeysRule entries kind op seats

  -- what the rule says of each view
  abbrev pub Known : List E → ℕ → View E K → Type 0
  Known log serving v = (v ≡ spent) ⊎ IsSeated log (kind op) serving v

  -- a seat with a kind isn't spent
  pub seated : (log : List E) (serving : ℕ) (v : V) (k : K) → v.kind ≡ Some k → Known log serving v
      → IsSeated log (kind op) serving v
  seated log serving v k is known = ⊎_elim
      (λ (e : v ≡ spent). let c : v.kind ≡ None = ap (λ (u : V). u.kind) e in absurd cc)
      (λ s. s)
      known

  out_below : (log : List E) (serving : ℕ) (v : V) → Known log serving v → is_out v.stage ≤ v.weight
  out_below log serving v known =
      ⊎_elim
      (λ (e : v ≡ spent). subst (λ (u : V). is_out u.stage ≤ u.weight) (sym e) (omega arith))
      (λ (s : IsSeated log (kind op) serving v). let a = s.weight in let b = out_le v.stage in omega arith)
      known

  -- no more seats are out than the weight allows
  pub few_out : (log : List E) (serving : ℕ) (vs : List V) → ((i : ℕ) (v : V) → get_elem? vs i ≡ some v → Known log serving v)
      → weight_of_all vs ≡ seats → seats ≤ MAX_SEATS → out vs ≤ MAX_SEATS
  few_out log serving vs each all few =
      let t = sum_over_le (λ (v : V). is_out v.stage) (λ (v : V). v.weight) vs (λ i v e. out_below log serving v (each i v e)) in omega arith

  pub at_home : (log : List E) (of : K) (h : Maybe (Option S)) → is_home h ≡ 1 → HoldsState entries kind log of h
      → (x : S) × (h ≡ some (Some x)) × (entries x ≡ log) × (kind x ≡ of)
  at_home log of none e l = absurd (omega arith)
  at_home log of (some None) e l = absurd l
  at_home log of (some (Some x)) e l = (x, refl, l.0, l.1)

  -- views that count as the views before keep the rule
  pub counts_same : (s : St) (r : Rule s) (views : List V)
      → ((n : ℕ) → with_ticket n views ≡ with_ticket n s.views) → out views ≡ out s.views → served views ≡ served s.views
      → ((n : ℕ) → owners n views ≡ owners n s.views) → weight_of_all views ≡ weight_of_all s.views
      → ((i : ℕ) (v : V) → get_elem? views i ≡ some v → Known r.log r.serving v)
      → Rule record { words = s.words; homes = s.homes; views = views }
  counts_same s r views tickets outs serve own weights each = record {
    log = r.log;
    ticket = r.ticket;
    serving = r.serving;
    home = r.home;
    words = r.words;
    homes = r.homes;
    tickets = λ n. tickets n ∙ r.tickets n;
    as_many = ap (λ (n : ℕ). r.serving + n) outs ∙ r.as_many;
    at_most = subst (λ (n : ℕ). n ≤ MAX_SEATS) (sym outs) r.at_most;
    one_served = ap (λ n. n + is_home r.home) serve ∙ r.one_served;
    slot = r.slot;
    began = r.began;
    owned = λ n. own n ∙ r.owned n;
    weights = weights ∙ r.weights;
    few = r.few;
    each_seat = each;
  }

  -- a word that is read stays
  pub read_keeps : (s : St) (i : ℕ) (views : List V) → Rule record { words = s.words; homes = s.homes; views = views }
      → Rule record { words = set s.words i (get_or s.words i 0); homes = s.homes; views = views }
  read_keeps s i views r = subst (λ (ws : List ℕ). Rule record { words = ws; homes = s.homes; views = views }) (sym (set-get_or s.words i 0)) r
