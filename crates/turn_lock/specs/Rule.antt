-- The rule of the table of a turn.
-- Word 0 is the count of entries, word 1 the next ticket and word 2 the ticket that is served. A number of a word is that of its ticket modulo 2^64.
use Rattle.std.specs.Prelude.{◌≡◌, ◌⊎◌, ℕ, ◌+◌, ◌%◌, ◌^◌, ◌≤◌, ◌==◌, ◌&&◌, List, [], ◌∷◌, length, count_by, Option, Some, None, cond, leb, ltb}
use mathlib.Core.Option.{Option as Maybe, none, some}
use mathlib.Core.List.{IsPrefix}
use lib.ListN.{get_elem?}
use Rattle.atomic_table.specs.Table.{State}
use Rattle.turn_lock.specs.declared.rule.View.{View}
use Rattle.turn_lock.specs.declared.rule.Stage.{Stage}
use Rattle.turn_lock.specs.declared.rule.Stage.TheVariants.{Outside, Waiting, Served}
use Rattle.turn_lock.specs.declared.limits.TheConstants.{MAX_SEATS}

-- 1 where from ≤ k < to, and else 0
abbrev pub one_between : ℕ → ℕ → ℕ → ℕ
one_between from to k = cond (leb from k && ltb k to) 1 0

-- f of each element, added up
abbrev pub sum_over : {X : Type 0} → (X → ℕ) → List X → ℕ
sum_over f [] = 0
sum_over f (x ∷ xs) = f x + sum_over f xs

-- how often the place stands in the list
abbrev pub occurrences : ℕ → List ℕ → ℕ
occurrences place places = count_by (λ other. other == place) places

-- each number from the first up to the second stands once in the list, and no other
abbrev pub AreAllPlaces : ℕ → ℕ → List ℕ → Type 0
AreAllPlaces from to places = (k : ℕ) → occurrences k places ≡ one_between from to k

module _ {E : Type 0} where
  -- 1 where the seat has drawn a ticket and not passed on
  abbrev pub is_out : Stage E → ℕ
  is_out Outside = 0
  is_out (Waiting n) = 1
  is_out (Served n log) = 1

  -- 1 where the seat is served
  abbrev pub is_served : Stage E → ℕ
  is_served Outside = 0
  is_served (Waiting n) = 0
  is_served (Served n log) = 1

  -- 1 where the seat is out with this ticket
  abbrev pub has_ticket : ℕ → Stage E → ℕ
  has_ticket k Outside = 0
  has_ticket k (Waiting n) = cond (n == k) 1 0
  has_ticket k (Served n log) = cond (n == k) 1 0

  -- the seat that is served has the ticket that is served, and knows the list
  abbrev pub Knows : ℕ → List E → Stage E → Type 0
  Knows serving log Outside = Unit {0}
  Knows serving log (Waiting n) = Unit {0}
  Knows serving log (Served n l) = (n ≡ serving) × (l ≡ log)

module _ {E K : Type 0} where
  -- a seat outside
  abbrev pub seat_outside : ℕ → List E → List ℕ → Option K → View E K
  seat_outside weight front own kind = record { stage = Outside; weight = weight; front = front; other = []; own = own; kind = kind }

  -- the view of a seat that was joined into another
  abbrev pub spent : View E K
  spent = seat_outside 0 [] [] None

  -- a seat that isn't spent: its fronts are prefixes of the list
  pub record IsSeated (log : List E) (of : K) (serving : ℕ) (v : View E K) : Type 0 where
    pub stage : Knows serving log v.stage
    pub weight : 1 ≤ v.weight
    pub front : IsPrefix v.front log
    pub other : IsPrefix v.other log
    pub kind : v.kind ≡ Some of

  -- how many seats are out
  abbrev pub out : List (View E K) → ℕ
  out views = sum_over (λ v. is_out v.stage) views

  -- how many are out with this ticket
  abbrev pub with_ticket : ℕ → List (View E K) → ℕ
  with_ticket k views = sum_over (λ v. has_ticket k v.stage) views

  -- how many are served
  abbrev pub served : List (View E K) → ℕ
  served views = sum_over (λ v. is_served v.stage) views

  -- how often the place is an own place, over all seats
  abbrev pub owners : ℕ → List (View E K) → ℕ
  owners k views = sum_over (λ v. occurrences k v.own) views

  -- the weights of all seats, added up
  abbrev pub weight_of_all : List (View E K) → ℕ
  weight_of_all views = sum_over (λ v. v.weight) views

-- 1 where the slot is at home
abbrev pub is_home : {X : Type 0} → Maybe X → ℕ
is_home none = 0
is_home (some x) = 1

module _ {S E K : Type 0} (entries : S → List E) (kind : S → K) where
  -- at home the slot has a state with this list, of this kind
  abbrev pub HoldsState : List E → K → Maybe (Option S) → Type 0
  HoldsState log of none = Unit {0}
  HoldsState log of (some None) = ⊥
  HoldsState log of (some (Some x)) = (entries x ≡ log) × (kind x ≡ of)

  -- What holds after each step, of a turn that began with the state `opening` and seats of the weight `seats`
  pub record ObeysRule (opening : S) (seats : ℕ) (s : State (Option S) (View E K)) : Type 0 where
    pub log : List E
    pub ticket : ℕ
    pub serving : ℕ
    pub home : Maybe (Option S)
    pub words : s.words ≡ length log ∷ ticket % 2 ^ 64 ∷ serving % 2 ^ 64 ∷ []
    pub homes : s.homes ≡ home ∷ []
    -- the tickets that are out are distinct, lie from serving up to ticket, and are as many, at most MAX_SEATS
    pub tickets : (k : ℕ) → with_ticket k s.views ≡ one_between serving ticket k
    pub as_many : serving + out s.views ≡ ticket
    pub at_most : out s.views ≤ MAX_SEATS
    -- at most one seat is served, and the slot is at home exactly where none is
    pub one_served : served s.views + is_home home ≡ 1
    pub slot : HoldsState log (kind opening) home
    -- the list began as the opening list, and each place past that is an own place of exactly one seat
    pub began : IsPrefix (entries opening) log
    pub owned : (k : ℕ) → owners k s.views ≡ one_between (length (entries opening)) (length log) k
    pub weights : weight_of_all s.views ≡ seats
    pub few : seats ≤ MAX_SEATS
    pub each_seat : (i : ℕ) (v : View E K) → get_elem? s.views i ≡ some v → (v ≡ spent) ⊎ IsSeated log (kind opening) serving v
