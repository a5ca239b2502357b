-- A seat is split, joined with another, and is the last; and a turn begins. Each keeps the rule.
use Rattle.std.proofs.Common.{◌≡◌, ◌≢◌, ℕ, zero, suc, ◌+◌, ◌≤◌, Option, Some, List, [], ◌∷◌, ◌++◌, map, length, get_or, set}
use Rattle.std.proofs.Common.{refl, ap, sym, ◌∙◌, subst, inl, inr, ⊎_elim, arith}
use Rattle.std.proofs.lemmas.Bool.Decides.{nat_tests}
use mathlib.Core.Logic.{dite}
use mathlib.Core.Option.{Option as Maybe, none, some, some-injective, some-ne-none}
use mathlib.Core.List.{IsPrefix}
use native.Mathlib.Decide.{dec_le}
use lib.ListN.{get_elem?}
use Rattle.atomic_table.specs.Table.{State, Me, step, keeps, stepped, Allows, Splits, Joins, opening, Seen, Final}
use Rattle.atomic_table.proofs.Lists.{set_else, at_snoc}
use Rattle.turn_lock.specs.declared.rule.View.{View}
use Rattle.turn_lock.specs.declared.rule.Stage.TheVariants.{Outside}
use Rattle.turn_lock.specs.declared.limits.TheConstants.{MAX_SEATS}
use Rattle.turn_lock.specs.Rule.{sum_over, occurrences, one_between, AreAllPlaces, is_out, is_served, has_ticket, seat_outside, spent, IsSeated}
use Rattle.turn_lock.specs.Rule.{ObeysRule}
use Rattle.turn_lock.specs.Steps.{lighter, split_off, joined, with_front, met}
use Rattle.turn_lock.proofs.Prefixes.{prefix_same, prefix_of_longer}
use Rattle.turn_lock.proofs.RuleLemmas.{set_each, sum_over_same, Known, seated, at_home, counts_same, read_keeps}
use Rattle.turn_lock.proofs.Totals.{sum_over_set, sum_over_append, sum_over_member, sum_over_two, sum_over_only, occurrences_append}

module _ {V : Type 0} where
  -- the sum where the view v becomes w and a new seat has the view u
  pub sum_over_split : (f : V → ℕ) (vs : List V) (id : ℕ) (v w u : V) → get_elem? vs id ≡ some v → f v ≡ f w + f u → sum_over f (set vs id w ++ u ∷ []) ≡ sum_over f vs
  sum_over_split f vs id v w u at e = let a = sum_over_append f (set vs id w) u in let t = sum_over_set f vs id v w at in omega arith

  -- the sum where the view v takes in the view w, which becomes u
  pub sum_over_join : (f : V → ℕ) (vs : List V) (id other : ℕ) (v w b u : V) → get_elem? vs id ≡ some v → get_elem? (set vs id b) other ≡ some w → f b ≡ f v + f w → f u ≡ 0
      → sum_over f (set (set vs id b) other u) ≡ sum_over f vs
  sum_over_join f vs id other v w b u at there e z = let t = sum_over_set f vs id v b at in let q = sum_over_set f (set vs id b) other w u there in omega arith

module _ {S E K : Type 0} (entries : S → List E) (kind : S → K) (op : S) (seats : ℕ) where
  abbrev Entry : Type 0
  Entry = View E K

  abbrev Table : Type 0
  Table = State (Option S) Entry

  abbrev Obeys : Table → Type 0
  Obeys = ObeysRule entries kind op seats

  abbrev Rightly : List E → ℕ → Entry → Type 0
  Rightly = Known entries kind op seats

  pub splits : (id : ℕ) (v : Entry) (k : K) → v.kind ≡ Some k → 2 ≤ v.weight → Splits Obeys id v (lighter v) (split_off v)
  splits id v k is heavy s r at =
      let w : Entry = lighter v in let u : Entry = split_off v in
      let mine = seated entries kind op seats r.log r.serving v k is (r.each_seat id v at) in
      let split = λ (f : Entry → ℕ) (e : f v ≡ f w + f u). sum_over_split f s.views id v w u at e in
      counts_same entries kind op seats s r (set s.views id w ++ u ∷ [])
      (λ n. split (λ d. has_ticket n d.stage) (omega arith))
      (split (λ d. is_out d.stage) (omega arith))
      (split (λ d. is_served d.stage) (omega arith))
      (λ n. split (λ d. occurrences n d.own) (omega arith))
      (split (λ d. d.weight) (omega arith))
      (λ i d e. ⊎_elim
      (set_each (Rightly r.log r.serving) s.views id w
      (inr record { stage = mine.stage; weight = omega arith; front = mine.front; other = mine.other; kind = mine.kind })
      (λ j x _ p. r.each_seat j x p) i d)
      (λ (p : u ≡ d). subst (Rightly r.log r.serving) p
      (inr record { stage = tt; weight = omega arith; front = mine.front; other = (r.log, refl); kind = mine.kind }))
      (at_snoc (set s.views id w) u d i e))

  pub joins : (id : ℕ) (v : Entry) (other : ℕ) (w : Entry) (k l : K) → v.kind ≡ Some k → w.kind ≡ Some l → w.stage ≡ Outside
      → Joins Obeys id v other w (joined v w) spent
  joins id v other w k l is their outside s r at apart there =
      let b : Entry = joined v w in let vs : List Entry = set s.views id b in
      let at' : get_elem? s.views other ≡ some w = sym (set_else s.views id other b apart) ∙ there in
      let mine = seated entries kind op seats r.log r.serving v k is (r.each_seat id v at) in
      let theirs = seated entries kind op seats r.log r.serving w l their (r.each_seat other w at') in
      let join = λ (f : Entry → ℕ) (e : f b ≡ f v + f w) (z : f spent ≡ 0). sum_over_join f s.views id other v w b spent at there e z in
      counts_same entries kind op seats s r (set vs other spent)
      (λ n. join (λ d. has_ticket n d.stage) (let z : has_ticket n w.stage ≡ 0 = ap (has_ticket n) outside in omega arith) refl)
      (join (λ d. is_out d.stage) (let z : is_out w.stage ≡ 0 = ap is_out outside in omega arith) refl)
      (join (λ d. is_served d.stage) (let z : is_served w.stage ≡ 0 = ap is_served outside in omega arith) refl)
      (λ n. join (λ d. occurrences n d.own) (occurrences_append n v.own w.own) refl)
      (join (λ d. d.weight) refl refl)
      (set_each (Rightly r.log r.serving) vs other spent (inl refl) (λ j d _ p.
      set_each (Rightly r.log r.serving) s.views id b
      (inr record { stage = mine.stage; weight = let a = mine.weight in omega arith; front = mine.front; other = theirs.front; kind = mine.kind })
      (λ i x _ q. r.each_seat i x q) j d p))

  meets_at : (s : Table) (r : Obeys s) (id : ℕ) (me : Me (Option S) Entry) (front : List E) → get_elem? s.views id ≡ some me.0
      → IsSeated r.log (kind op) r.serving me.0 → IsPrefix front r.log
      → Obeys (stepped s 0 (get_or s.words 0 0) id me.1 (with_front me.0 front) keeps)
  meets_at s r id me front at mine pre =
      let v : Entry = me.0 in let w : Entry = with_front v front in
      let same = λ (f : Entry → ℕ) (e : f w ≡ f v). sum_over_same f s.views id v w at e in
      read_keeps entries kind op seats s 0 (set s.views id w)
      (counts_same entries kind op seats s r (set s.views id w)
      (λ n. same (λ d. has_ticket n d.stage) refl)
      (same (λ d. is_out d.stage) refl)
      (same (λ d. is_served d.stage) refl)
      (λ n. same (λ d. occurrences n d.own) refl)
      (same (λ d. d.weight) refl)
      (set_each (Rightly r.log r.serving) s.views id w
      (inr record { stage = mine.stage; weight = mine.weight; front = pre; other = (r.log, refl); kind = mine.kind })
      (λ j d _ p. r.each_seat j d p)))

  pub meets : (slots id : ℕ) (me : Me (Option S) Entry) (k : K) → me.0.kind ≡ Some k → Allows Obeys slots id me 0 (λ n. n) (met (step slots 0 0 0 none) me)
  meets slots id me k is s r wide at small =
      let v : Entry = me.0 in
      let mine = seated entries kind op seats r.log r.serving v k is (r.each_seat id v at) in
      let m = sum_over_member (λ (d : Entry). d.weight) s.views id v at in let all = r.weights in let few = r.few in
      let light : v.weight ≤ MAX_SEATS = omega arith in
      dite (dec_le (length v.front) (length v.other))
      (λ le. (
        with_front v v.other,
        keeps,
        tt,
        meets_at s r id me v.other at mine mine.other,
        (v.other, refl, prefix_of_longer v.front v.other r.log mine.front mine.other le, prefix_same v.other v.other refl, inr refl, light),
      ))
      (λ not. (
        with_front v v.front,
        keeps,
        tt,
        meets_at s r id me v.front at mine mine.front,
        (v.front, refl, prefix_same v.front v.front refl, prefix_of_longer v.other v.front r.log mine.other mine.front (omega arith), inl refl, light),
      ))

  starts : (i : ℕ) (v : Entry) → get_elem? (seat_outside seats (entries op) [] (Some (kind op)) ∷ []) i ≡ some v → 1 ≤ seats → Rightly (entries op) 0 v
  starts zero v e some_seat = subst (Rightly (entries op) 0) (some-injective (seat_outside seats (entries op) [] (Some (kind op))) v e)
      (inr record { stage = tt; weight = some_seat; front = prefix_same (entries op) (entries op) refl; other = (entries op, refl); kind = refl })
  starts (suc i) v e some_seat = absurd (some-ne-none v (sym e))

  pub opens : (n : ℕ) (xs : List (Option S)) → n ≡ length (entries op) → xs ≡ Some op ∷ [] → 1 ≤ seats → seats ≤ MAX_SEATS
      → Obeys (opening (n ∷ 0 ∷ 0 ∷ []) xs (seat_outside seats (entries op) [] (Some (kind op))))
  opens n xs e one some_seat few = record {
    log = entries op;
    ticket = 0;
    serving = 0;
    home = some (Some op);
    words = ap (λ (k : ℕ). k ∷ 0 ∷ 0 ∷ []) e;
    homes = ap (map some) one;
    tickets = λ k. grind (arith, nat_tests);
    as_many = refl;
    at_most = omega arith;
    one_served = refl;
    slot = (refl, refl);
    began = prefix_same (entries op) (entries op) refl;
    owned = λ k. grind (arith, nat_tests);
    weights = omega arith;
    few = few;
    each_seat = λ i v at. starts i v at some_seat;
  }

  -- a seat with the whole weight is the only one that isn't spent
  alone : (s : Table) (r : Obeys s) (id : ℕ) (v : Entry) → get_elem? s.views id ≡ some v → v.weight ≡ seats → (j : ℕ) (d : Entry) → j ≢ id
      → get_elem? s.views j ≡ some d → d ≡ spent
  alone s r id v at whole j d n e = ⊎_elim (λ (p : d ≡ spent). p)
      (λ (t : IsSeated r.log (kind op) r.serving d). let m = sum_over_two (λ (u : Entry). u.weight) s.views j id d v n e at in let all = r.weights in
      let one = t.weight in absurd (omega arith)) (r.each_seat j d e)

  all_its : (s : Table) (r : Obeys s) (id : ℕ) (v : Entry) → get_elem? s.views id ≡ some v → v.weight ≡ seats → (f : Entry → ℕ) → f spent ≡ 0 → sum_over f s.views ≡ f v
  all_its s r id v at whole f none_spent = sum_over_only f s.views id v at (λ j d n e. ap f (alone s r id v at whole j d n e) ∙ none_spent)

  -- what the last seat learns of the state
  abbrev pub Last : Entry → S → Type 0
  Last v x =
      IsPrefix v.front (entries x) × (kind x ≡ kind op) × IsPrefix (entries op) (entries x)
      × AreAllPlaces (length (entries op)) (length (entries x)) v.own

  pub closes : (id : ℕ) (v : Entry) (k : K) (ws : List ℕ) (xs : List (Option S)) (y : Option S) → v.kind ≡ Some k → v.stage ≡ Outside → v.weight ≡ seats
      → Final (Seen Obeys id v) ws xs → get_elem? xs 0 ≡ some y → (x : S) × (y ≡ Some x) × Last v x
  closes id v k ws xs y is outside whole final has =
      let s = final.0 in let r = final.1.0 in let at = final.1.1 in
      let serve = all_its s r id v at whole (λ (d : Entry). is_served d.stage) refl in
      let none_served : is_served v.stage ≡ 0 = ap is_served outside in
      let o = r.one_served in
      let h = at_home entries kind op seats r.log (kind op) r.home (omega arith) r.slot in
      let mine = seated entries kind op seats r.log r.serving v k is (r.each_seat id v at) in
      let home : get_elem? s.homes 0 ≡ some (some (Some h.0)) = ap (λ (l : List (Maybe (Option S))). get_elem? l 0) r.homes ∙ ap some h.1 in
      let same : y ≡ Some h.0 = some-injective y (Some h.0) (sym has ∙ final.4 0 (Some h.0) home) in
      let counts = λ (n : ℕ). sym (all_its s r id v at whole (λ (d : Entry). occurrences n d.own) refl) ∙ (r.owned n ∙ ap (λ (l : List E). one_between (length (entries op)) (length l) n) (sym h.2)) in
      (h.0, same, (subst (IsPrefix v.front) (sym h.2) mine.front, h.3, subst (IsPrefix (entries op)) (sym h.2) r.began, counts))

  pub closes_with : (v : Entry) (x : S) (y : Option S) → (l : S) × (y ≡ Some l) × Last v l → y ≡ Some x → Last v x
  closes_with v x y last is = let had = last.1 in let same : last.0 ≡ x = cc in subst (Last v) same last.2
