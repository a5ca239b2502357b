-- Each step on a word keeps the rule: draw, look, mark and pass on.
use Rattle.std.proofs.Common.{◌≡◌, ◌≢◌, ℕ, ◌+◌, ◌-◌, ◌%◌, ◌^◌, ◌<◌, ◌≤◌, ◌==◌, true, cond, Option, Some, List, [], ◌∷◌}
use Rattle.std.proofs.Common.{length, get_or, set, refl, ap, sym, ◌∙◌, subst, inl, inr, ⊎_elim, arith}
use Rattle.std.proofs.lemmas.Bool.Decides.{nat_tests}
use mathlib.Core.Logic.{dite}
use mathlib.Core.Option.{Option as Maybe, none, some}
use mathlib.Core.List.{IsPrefix}
use native.Mathlib.Decide.{ℕ_discrete}
use lib.ListN.{get_elem?}
use lib.Seq.{set-get_or}
use Rattle.atomic_table.specs.Table.{State, Me, step, keeps, takes, gives, put_back, rest, stepped, Allows}
use Rattle.atomic_table.proofs.Lists.{set_again, one_turn}
use Rattle.turn_lock.specs.declared.rule.View.{View}
use Rattle.turn_lock.specs.declared.rule.Stage.{Stage}
use Rattle.turn_lock.specs.declared.rule.Stage.TheVariants.{Outside, Waiting, Served}
use Rattle.turn_lock.specs.declared.limits.TheConstants.{MAX_SEATS}
use Rattle.turn_lock.specs.Rule.{occurrences, one_between, weight_of_all, is_out, is_served, has_ticket, spent, IsSeated, is_home, HoldsState, ObeysRule}
use Rattle.turn_lock.specs.Steps.{ticket_of, log_of, new_places, at_stage, with_list, back_outside, drawn, looked, marked, passed}
use Rattle.turn_lock.specs.Steps.{is_inside, holding}
use Rattle.turn_lock.proofs.Prefixes.{prefix_same, prefix_on, prefix_le}
use Rattle.turn_lock.proofs.RuleLemmas.{set_each, sum_over_same, knows_unserved, served_has_ticket, inside_knows, Known, seated, few_out, at_home}
use Rattle.turn_lock.proofs.RuleLemmas.{read_keeps}
use Rattle.turn_lock.proofs.Totals.{sum_over_set, sum_over_member, sum_over_two, sum_over_le_at, occurrences_append, occurrences_range}
use Rattle.turn_lock.proofs.Totals.{one_between_beside, one_between_le, one_between_inside}

module _ {S E K : Type 0} (entries : S → List E) (kind : S → K) (op : S) (seats : ℕ) where
  abbrev V : Type 0
  V = View E K

  abbrev St : Type 0
  St = State (Option S) V

  abbrev M : Type 0
  M = Me (Option S) V

  abbrev Rule : St → Type 0
  Rule = ObeysRule entries kind op seats

  abbrev Rightly : List E → ℕ → V → Type 0
  Rightly = Known entries kind op seats

  word : (s : St) (r : Rule s) (n : ℕ) → (ws : List ℕ) → ws ≡ length r.log ∷ r.ticket % 2 ^ 64 ∷ r.serving % 2 ^ 64 ∷ [] → get_or s.words n 0 ≡ get_or ws n 0
  word s r n ws e = ap (λ (l : List ℕ). get_or l n 0) (r.words ∙ sym e)

  next : (t : ℕ) → (t % 2 ^ 64 + 1) % 2 ^ 64 ≡ (t + 1) % 2 ^ 64
  next t = omega arith

  pub draws : (slots id : ℕ) (me : M) (k : K) → me.0.stage ≡ Outside → me.0.kind ≡ Some k → Allows Rule slots id me 1 (λ n. (n + 1) % 2 ^ 64) (drawn (step slots 1 1 0 none) me)
  draws slots id me k outside is s r wide at small =
      let v : V = me.0 in let t : ℕ = r.ticket in let w : V = at_stage v (Waiting t) in
      let mine = seated entries kind op seats r.log r.serving v k is (r.each_seat id v at) in
      let each = set_each (Rightly r.log r.serving) s.views id w
      (inr record { stage = tt; weight = mine.weight; front = mine.front; other = mine.other; kind = mine.kind }) (λ j d _ e. r.each_seat j d e) in
      let all : weight_of_all (set s.views id w) ≡ seats = sum_over_same (λ (d : V). d.weight) s.views id v w at refl ∙ r.weights in
      let was_out : is_out v.stage ≡ 0 = ap is_out outside in
      let was_served : is_served v.stage ≡ 0 = ap is_served outside in
      let o = sum_over_set (λ (d : V). is_out d.stage) s.views id v w at in
      let count = r.as_many in (
        w,
        keeps,
        tt,
        record {
          log = r.log;
          ticket = t + 1;
          serving = r.serving;
          home = r.home;
          words = ap (λ (l : List ℕ). set l 1 ((get_or l 1 0 + 1) % 2 ^ 64)) r.words ∙ ap (λ (n : ℕ). length r.log ∷ n ∷ r.serving % 2 ^ 64 ∷ []) (next t);
          homes = r.homes;
          tickets = λ n. let had : has_ticket n v.stage ≡ 0 = ap (has_ticket n) outside in
              let c = sum_over_set (λ (d : V). has_ticket n d.stage) s.views id v w at in let b = r.tickets n in grind (arith, nat_tests);
          as_many = omega arith;
          at_most = few_out entries kind op seats r.log r.serving (set s.views id w) each all r.few;
          one_served = ap (λ n. n + is_home r.home) (sum_over_same (λ (d : V). is_served d.stage) s.views id v w at (sym was_served)) ∙ r.one_served;
          slot = r.slot;
          began = r.began;
          owned = λ n. sum_over_same (λ (d : V). occurrences n d.own) s.views id v w at refl ∙ r.owned n;
          weights = all;
          few = r.few;
          each_seat = each;
        },
        (t, word s r 1 _ refl, refl),
      )

  knows_all : (s : St) (r : Rule s) (j : ℕ) (d : V) → get_elem? s.views j ≡ some d → is_served d.stage ≤ has_ticket r.serving d.stage
  knows_all s r j d e = ⊎_elim (λ (p : d ≡ spent). subst (λ (u : V). is_served u.stage ≤ has_ticket r.serving u.stage) (sym p) (omega arith))
      (λ (t : IsSeated r.log (kind op) r.serving d). served_has_ticket r.serving r.log d.stage t.stage) (r.each_seat j d e)

  -- the seat that finds its own number has the ticket that is served
  own_number : (s : St) (r : Rule s) (id : ℕ) (v : V) (t : ℕ) → get_elem? s.views id ≡ some v → has_ticket t v.stage ≡ 1 → r.serving % 2 ^ 64 ≡ t % 2 ^ 64 → r.serving ≡ t
  own_number s r id v t at has e = let m = sum_over_member (λ (d : V). has_ticket t d.stage) s.views id v at in let b = r.tickets t in
      let i = one_between_inside r.serving r.ticket t (omega arith) in let lo = i.0 in let hi = i.1 in let c = r.as_many in let a = r.at_most in
      one_turn r.serving t (2 ^ 64) lo (omega arith) e

  -- then no seat is served yet
  is_free : (s : St) (r : Rule s) (id : ℕ) (v : V) → get_elem? s.views id ≡ some v → has_ticket r.serving v.stage ≡ 1 → is_served v.stage ≡ 0 → is_home r.home ≡ 1
  is_free s r id v at has not = let m = sum_over_le_at (λ (d : V). is_served d.stage) (λ (d : V). has_ticket r.serving d.stage) s.views id v at (knows_all s r) in
      let b = r.tickets r.serving in let c = one_between_le r.serving r.ticket r.serving in let o = r.one_served in omega arith

  unchanged : (s : St) (r : Rule s) (i id : ℕ) (v : V) (c : List (ℕ × Option S)) → get_elem? s.views id ≡ some v
      → Rule (stepped s i (get_or s.words i 0) id c v keeps)
  unchanged s r i id v c at =
      read_keeps entries kind op seats s i (set s.views id v)
      (subst (λ (vs : List V). Rule record { words = s.words; homes = s.homes; views = vs }) (sym (set_again s.views id v at)) r)

  takes_slot : (s : St) (r : Rule s) (id : ℕ) (me : M) (t : ℕ) (k : K) (x : S) → me.0.stage ≡ Waiting t → me.0.kind ≡ Some k → get_elem? s.views id ≡ some me.0
      → r.serving ≡ t → r.home ≡ some (Some x) → entries x ≡ r.log
      → Rule (stepped s 2 (get_or s.words 2 0) id me.1 (at_stage me.0 (Served (ticket_of me.0.stage) (entries x))) (takes 0 (Some x)))
  takes_slot s r id me t k x waits is at e home log =
      let v : V = me.0 in let st : Stage E = Served (ticket_of v.stage) (entries x) in let w : V = at_stage v st in
      let own : ticket_of v.stage ≡ t = ap ticket_of waits in
      let mine = seated entries kind op seats r.log r.serving v k is (r.each_seat id v at) in
      let was_served : is_served v.stage ≡ 0 = ap is_served waits in
      let was_out : is_out v.stage ≡ 1 = ap is_out waits in
      let here : is_home r.home ≡ 1 = ap is_home home in
      let o = r.one_served in
      let p = sum_over_set (λ (d : V). is_served d.stage) s.views id v w at in
      record {
        log = r.log;
        ticket = r.ticket;
        serving = r.serving;
        home = none;
        words = set-get_or s.words 2 0 ∙ r.words;
        homes = ap (λ (l : List (Maybe (Option S))). set l 0 none) r.homes;
        tickets = λ n. sum_over_same (λ (d : V). has_ticket n d.stage) s.views id v w at (ap (λ (m : ℕ). cond (m == n) 1 0) own ∙ sym (ap (has_ticket n) waits)) ∙ r.tickets n;
        as_many = ap (λ (n : ℕ). r.serving + n) (sum_over_same (λ (d : V). is_out d.stage) s.views id v w at (sym was_out)) ∙ r.as_many;
        at_most = subst (λ (n : ℕ). n ≤ MAX_SEATS) (sym (sum_over_same (λ (d : V). is_out d.stage) s.views id v w at (sym was_out))) r.at_most;
        one_served = omega arith;
        slot = tt;
        began = r.began;
        owned = λ n. sum_over_same (λ (d : V). occurrences n d.own) s.views id v w at refl ∙ r.owned n;
        weights = sum_over_same (λ (d : V). d.weight) s.views id v w at refl ∙ r.weights;
        few = r.few;
        each_seat = set_each (Rightly r.log r.serving) s.views id w
            (inr record { stage = (own ∙ sym e, log); weight = mine.weight; front = mine.front; other = mine.other; kind = mine.kind }) (λ j d _ q. r.each_seat j d q);
      }

  -- the state that a seat finds with its own number
  finds : (s : St) (r : Rule s) (id : ℕ) (v : V) (t : ℕ) → v.stage ≡ Waiting t → get_elem? s.views id ≡ some v → r.serving % 2 ^ 64 ≡ t % 2 ^ 64
      → (x : S) × (r.home ≡ some (Some x)) × (entries x ≡ r.log) × (kind x ≡ kind op) × (r.serving ≡ t)
  finds s r id v t waits at same =
      let has : has_ticket t v.stage ≡ 1 = ap (has_ticket t) waits ∙ grind (arith, nat_tests) in
      let e = own_number s r id v t at has same in
      let free = is_free s r id v at (subst (λ (n : ℕ). has_ticket n v.stage ≡ 1) (sym e) has) (ap is_served waits) in
      let h = at_home entries kind op seats r.log (kind op) r.home free r.slot in (h.0, h.1, h.2, h.3, e)

  pub looks : (slots id : ℕ) (me : M) (t : ℕ) (k : K) → me.0.stage ≡ Waiting t → me.0.kind ≡ Some k
      → Allows Rule slots id me 2 (λ n. n) (looked entries kind (step slots 2 0 0 none) me)
  looks slots id me t k waits is s r wide at small =
      let v : V = me.0 in let own : ticket_of v.stage ≡ t = ap ticket_of waits in
      let found : get_or s.words 2 0 ≡ r.serving % 2 ^ 64 = word s r 2 _ refl in
      dite (ℕ_discrete (get_or s.words 2 0) (ticket_of v.stage % 2 ^ 64))
      (λ hit.
      let h = finds s r id v t waits at (sym found ∙ (hit ∙ ap (λ (n : ℕ). n % 2 ^ 64) own)) in
      let mine = seated entries kind op seats r.log r.serving v k is (r.each_seat id v at) in (
        at_stage v (Served (ticket_of v.stage) (entries h.0)),
        takes 0 (Some h.0),
        ap (λ (l : List (Maybe (Option S))). get_elem? l 0) r.homes ∙ ap some h.1,
        takes_slot s r id me t k h.0 waits is at h.4 h.1 h.2,
        ((λ _. (h.0, refl, subst (IsPrefix v.front) (sym h.2) mine.front, mine.kind ∙ ap Some (sym h.3))), λ miss. absurd (miss hit)),
      ))
      (λ miss. (v, keeps, tt, unchanged s r 2 id v me.1 at, ((λ hit. absurd (miss hit)), λ _. refl)))

  others_unserved : (s : St) (r : Rule s) (id : ℕ) (v : V) → get_elem? s.views id ≡ some v → is_served v.stage ≡ 1 → (j : ℕ) (d : V) → j ≢ id
      → get_elem? s.views j ≡ some d → is_served d.stage ≡ 0
  others_unserved s r id v at one j d n e = let t = sum_over_two (λ (u : V). is_served u.stage) s.views j id d v n e at in let o = r.one_served in omega arith

  -- while a seat is served the slot is away
  is_away : (s : St) (r : Rule s) (id : ℕ) (v : V) → get_elem? s.views id ≡ some v → is_served v.stage ≡ 1 → is_home r.home ≡ 0
  is_away s r id v at one = let t = sum_over_member (λ (u : V). is_served u.stage) s.views id v at in let o = r.one_served in omega arith

  holds_away : (log : List E) (of : K) (h : Maybe (Option S)) → is_home h ≡ 0 → HoldsState entries kind log of h
  holds_away log of none e = tt
  holds_away log of (some x) e = absurd (omega arith)

  -- a seat that is not served, where the list grows or another is served
  seated_on : (log list : List E) (serving serving' : ℕ) (d : V) → IsPrefix log list → is_served d.stage ≡ 0 → Rightly log serving d → Rightly list serving' d
  seated_on log list serving serving' d longer not known = ⊎_elim (λ (e : d ≡ spent). inl e) (λ (t : IsSeated log (kind op) serving d). inr record {
    stage = knows_unserved serving' list d.stage not;
    weight = t.weight;
    front = prefix_on d.front log list t.front longer;
    other = prefix_on d.other log list t.other longer;
    kind = t.kind;
  }) known

  pub marks : (slots id : ℕ) (me : M) (k : K) (list : List E) (fresh : ℕ) → is_inside me.0.stage ≡ true → me.0.kind ≡ Some k → IsPrefix (log_of me.0.stage) list
      → length (log_of me.0.stage) + fresh ≡ length list → length list < 2 ^ 64 → Allows Rule slots id me 0 (λ n. (n + fresh) % 2 ^ 64) (marked list (step slots 0 fresh 0 none) me)
  marks slots id me k list fresh inside is longer adds fits s r wide at small =
      let v : V = me.0 in let before : List E = log_of v.stage in let w : V = with_list v list in
      let mine = seated entries kind op seats r.log r.serving v k is (r.each_seat id v at) in
      let knows = inside_knows r.serving r.log v.stage inside mine.stage in
      let log : before ≡ r.log = knows.1 in let one : is_served v.stage ≡ 1 = knows.2 in
      let size : length before ≡ length r.log = ap length log in
      let longer' : IsPrefix r.log list = subst (λ (l : List E). IsPrefix l list) log longer in
      let count : (length r.log + fresh) % 2 ^ 64 ≡ length list = omega arith in
      let began = r.began in let start = prefix_le (entries op) r.log began in (
        w,
        keeps,
        tt,
        record {
          log = list;
          ticket = r.ticket;
          serving = r.serving;
          home = r.home;
          words = ap (λ (l : List ℕ). set l 0 ((get_or l 0 0 + fresh) % 2 ^ 64)) r.words ∙ ap (λ (n : ℕ). n ∷ r.ticket % 2 ^ 64 ∷ r.serving % 2 ^ 64 ∷ []) count;
          homes = r.homes;
          tickets = λ n. sum_over_same (λ (d : V). has_ticket n d.stage) s.views id v w at (sym (knows.4 n)) ∙ r.tickets n;
          as_many = ap (λ (n : ℕ). r.serving + n) (sum_over_same (λ (d : V). is_out d.stage) s.views id v w at (sym knows.3)) ∙ r.as_many;
          at_most = subst (λ (n : ℕ). n ≤ MAX_SEATS) (sym (sum_over_same (λ (d : V). is_out d.stage) s.views id v w at (sym knows.3))) r.at_most;
          one_served = ap (λ n. n + is_home r.home) (sum_over_same (λ (d : V). is_served d.stage) s.views id v w at (sym one)) ∙ r.one_served;
          slot = holds_away list (kind op) r.home (is_away s r id v at one);
          began = prefix_on (entries op) r.log list began longer';
          owned = λ n. let t = sum_over_set (λ (d : V). occurrences n d.own) s.views id v w at in let b = r.owned n in
              let a = occurrences_append n v.own (new_places before list) in let c = occurrences_range n (length before) (length list - length before) in
              let end : length before + (length list - length before) ≡ length list = omega arith in
              let c' : occurrences n (new_places before list) ≡ one_between (length r.log) (length list) n = c ∙ (λ i. one_between (size i) (end i) n) in
              let o = one_between_beside (length (entries op)) (length r.log) (length list) n start (omega arith) in omega arith;
          weights = sum_over_same (λ (d : V). d.weight) s.views id v w at refl ∙ r.weights;
          few = r.few;
          each_seat = set_each (Rightly list r.serving) s.views id w
              (inr record {
                stage = (knows.0, refl);
                weight = mine.weight;
                front = prefix_on v.front r.log list mine.front longer';
                other = prefix_on v.other r.log list mine.other longer';
                kind = mine.kind;
              })
              (λ j d n e. seated_on r.log list r.serving r.serving d longer' (others_unserved s r id v at one j d n e) (r.each_seat j d e));
        },
        refl,
      )

  pub passes : (slots id : ℕ) (me : M) (k : K) (x : S) → is_inside me.0.stage ≡ true → me.0.kind ≡ Some k → me.1 ≡ (0, Some x) ∷ []
      → entries x ≡ log_of me.0.stage → kind x ≡ kind op
      → Allows Rule slots id me 2 (λ n. (n + 1) % 2 ^ 64) (passed (step slots 2 1 0 none) me)
  passes slots id me k x inside is held has of s r wide at small =
      let v : V = me.0 in let w : V = back_outside v in
      let mine = seated entries kind op seats r.log r.serving v k is (r.each_seat id v at) in
      let knows = inside_knows r.serving r.log v.stage inside mine.stage in
      let log : log_of v.stage ≡ r.log = knows.1 in let one : is_served v.stage ≡ 1 = knows.2 in let was_out : is_out v.stage ≡ 1 = knows.3 in
      let o = sum_over_set (λ (d : V). is_out d.stage) s.views id v w at in let o' = sum_over_member (λ (d : V). is_out d.stage) s.views id v at in
      let p = sum_over_set (λ (d : V). is_served d.stage) s.views id v w at in
      let away = is_away s r id v at one in let count = r.as_many in let most = r.at_most in let single = r.one_served in (
        w,
        gives,
        tt,
        record {
          log = r.log;
          ticket = r.ticket;
          serving = r.serving + 1;
          home = some (Some x);
          words = ap (λ (l : List ℕ). set l 2 ((get_or l 2 0 + 1) % 2 ^ 64)) r.words ∙ ap (λ (n : ℕ). length r.log ∷ r.ticket % 2 ^ 64 ∷ n ∷ []) (next r.serving);
          homes = (λ i. put_back (r.homes i) (held i));
          tickets = λ n. let t = sum_over_set (λ (d : V). has_ticket n d.stage) s.views id v w at in
              let h : has_ticket n v.stage ≡ cond (r.serving == n) 1 0 = knows.4 n ∙ ap (λ (m : ℕ). cond (m == n) 1 0) knows.0 in
              let b = r.tickets n in grind (arith, nat_tests);
          as_many = omega arith;
          at_most = omega arith;
          one_served = omega arith;
          slot = (has ∙ log, of);
          began = r.began;
          owned = λ n. sum_over_same (λ (d : V). occurrences n d.own) s.views id v w at refl ∙ r.owned n;
          weights = sum_over_same (λ (d : V). d.weight) s.views id v w at refl ∙ r.weights;
          few = r.few;
          each_seat = set_each (Rightly r.log (r.serving + 1)) s.views id w
              (inr record { stage = tt; weight = mine.weight; front = prefix_same (log_of v.stage) r.log log; other = mine.other; kind = mine.kind })
              (λ j d n e. seated_on r.log r.log r.serving (r.serving + 1) d (prefix_same r.log r.log refl) (others_unserved s r id v at one j d n e) (r.each_seat j d e));
        },
        refl,
      )

nothing_left : {S E : Type 0} (st : Stage E) → rest (holding {S = S} st) ≡ []
nothing_left Outside = refl
nothing_left (Waiting n) = refl
nothing_left (Served n l) = refl

module _ {S E K : Type 0} where
  -- a seat that has marked the list and put the state back
  put_back_at : (m m' m'' : Me (Option S) (View E K)) (list : List E) (x : S) → m.1 ≡ holding m.0.stage → m' ≡ (with_list m.0 list, m.1) → m'' ≡ (m'.0, (0, Some x) ∷ rest m'.1)
      → m'' ≡ (with_list m.0 list, (0, Some x) ∷ [])
  put_back_at m m' m'' list x held marks put =
      put ∙ (λ i. ((marks i).0, (0, Some x) ∷ rest (marks i).1)) ∙ (λ i. (with_list m.0 list, (0, Some x) ∷ (ap rest held ∙ nothing_left m.0.stage) i))

  pub passes_back : (entries : S → List E) (kind : S → K) (op : S) (seats slots id : ℕ) (m m' m'' : Me (Option S) (View E K)) (k : K) (x : S)
      → m.1 ≡ holding m.0.stage → m.0.kind ≡ Some k
      → m' ≡ (with_list m.0 (entries x), m.1) → m'' ≡ (m'.0, (0, Some x) ∷ rest m'.1) → kind x ≡ kind op
      → Allows (ObeysRule entries kind op seats) slots id m'' 2 (λ n. (n + 1) % 2 ^ 64) (passed (step slots 2 1 0 none) m'')
  passes_back entries kind op seats slots id m m' m'' k x held is marks put of =
      let me = put_back_at m m' m'' (entries x) x held marks put in
      passes entries kind op seats slots id m'' k x (ap (λ (n : Me (Option S) (View E K)). is_inside n.0.stage) me) (ap (λ (n : Me (Option S) (View E K)). n.0.kind) me ∙ is)
      (ap (λ (n : Me (Option S) (View E K)). n.1) me) (sym (ap (λ (n : Me (Option S) (View E K)). log_of n.0.stage) me)) of

  -- a seat that took the slot can exchange what it has
  pub has_slot : (held : List (ℕ × Option S)) (m : Me (Option S) (View E K)) (w : View E K) (y : Option S) → m ≡ (w, (0, y) ∷ held) → (old : Option S) × (m.1 ≡ (0, old) ∷ rest m.1)
  has_slot held m w y is = let e = ap (λ (n : Me (Option S) (View E K)). n.1) is in (y, e ∙ (λ i. (0, y) ∷ ap rest (sym e) i))
