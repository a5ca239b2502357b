-- What each step lets its seat know.
use Rattle.std.specs.Prelude.{◌≡◌, ◌≢◌, ◌⊎◌, ℕ, ◌+◌, ◌-◌, ◌%◌, ◌^◌, ◌≤◌, Bool, true, false, List, [], ◌∷◌, ◌++◌, length, Option, Some, None}
use Rattle.std.specs.List.{range_with_len}
use mathlib.Core.List.{IsPrefix}
use Rattle.atomic_table.specs.Table.{Me, Step, rest}
use Rattle.turn_lock.specs.declared.rule.View.{View}
use Rattle.turn_lock.specs.declared.rule.Stage.{Stage}
use Rattle.turn_lock.specs.declared.rule.Stage.TheVariants.{Outside, Waiting, Served}
use Rattle.turn_lock.specs.declared.limits.TheConstants.{MAX_SEATS}
use Rattle.turn_lock.specs.Rule.{seat_outside}

module _ {E : Type 0} where
  -- the ticket of a seat that is out
  abbrev pub ticket_of : Stage E → ℕ
  ticket_of Outside = 0
  ticket_of (Waiting n) = n
  ticket_of (Served n log) = n

  -- the list that the served seat marked last
  abbrev pub log_of : Stage E → List E
  log_of Outside = []
  log_of (Waiting n) = []
  log_of (Served n log) = log

  -- what a seat holds of the slot between two calls
  abbrev pub holding : {S : Type 0} → Stage E → List (ℕ × Option S)
  holding Outside = []
  holding (Waiting n) = []
  holding (Served n log) = (0, None) ∷ []

  -- it has drawn a ticket and is not served yet
  abbrev pub is_waiting : Stage E → Bool
  is_waiting Outside = false
  is_waiting (Waiting n) = true
  is_waiting (Served n log) = false

  -- it is served
  abbrev pub is_inside : Stage E → Bool
  is_inside Outside = false
  is_inside (Waiting n) = false
  is_inside (Served n log) = true

-- the places from the end of one list up to the end of a longer one
abbrev pub new_places : {E : Type 0} → List E → List E → List ℕ
new_places before after = range_with_len (length before) (length after - length before)

module _ {E K : Type 0} where
  -- at another stage, with all else the same
  abbrev pub at_stage : View E K → Stage E → View E K
  at_stage v stage = record v { stage = stage }

  -- the new list is marked, and its new places are the seat's own
  abbrev pub with_list : View E K → List E → View E K
  with_list v list = record v { stage = Served (ticket_of v.stage) list; own = v.own ++ new_places (log_of v.stage) list }

  -- outside again, with the list for its front
  abbrev pub back_outside : View E K → View E K
  back_outside v = record v { stage = Outside; front = log_of v.stage }

  -- what is left of a seat after a split
  abbrev pub lighter : View E K → View E K
  lighter v = record v { weight = v.weight - 1 }

  -- the new seat of a split, with weight 1, the same front and no own places
  abbrev pub split_off : View E K → View E K
  split_off v = seat_outside 1 v.front [] v.kind

  -- both weights, both fronts and the own places of both
  abbrev pub joined : View E K → View E K → View E K
  joined v w = record v { weight = v.weight + w.weight; other = w.front; own = v.own ++ w.own }

  -- with one front, and no other to compare
  abbrev pub with_front : View E K → List E → View E K
  with_front v front = record v { front = front; other = [] }

module _ {S E K : Type 0} where
  -- the seat has a ticket, whose number was found
  abbrev pub drawn : Step (Option S) → Me (Option S) (View E K) → ℕ → Me (Option S) (View E K) → Type 0
  drawn st m found m' = (t : ℕ) × (found ≡ t % 2 ^ 64) × (m' ≡ (at_stage m.0 (Waiting t), m.1))

  -- the seat is served and has the slot, with a state that begins with the seat's front
  abbrev pub Takes : (S → List E) → (S → K) → Me (Option S) (View E K) → Me (Option S) (View E K) → Type 0
  Takes entries kind m m' = (x : S) × (m' ≡ (at_stage m.0 (Served (ticket_of m.0.stage) (entries x)), (0, Some x) ∷ m.1)) × IsPrefix m.0.front (entries x) × (m.0.kind ≡ Some (kind x))

  -- the seat takes the slot where its own number was found
  abbrev pub looked : (S → List E) → (S → K) → Step (Option S) → Me (Option S) (View E K) → ℕ → Me (Option S) (View E K) → Type 0
  looked entries kind st m found m' = (found ≡ ticket_of m.0.stage % 2 ^ 64 → Takes entries kind m m') × (found ≢ ticket_of m.0.stage % 2 ^ 64 → m' ≡ m)

  -- the list is fixed, and the slot stays with the seat
  abbrev pub marked : List E → Step (Option S) → Me (Option S) (View E K) → ℕ → Me (Option S) (View E K) → Type 0
  marked list st m found m' = m' ≡ (with_list m.0 list, m.1)

  -- the seat gave the slot back
  abbrev pub passed : Step (Option S) → Me (Option S) (View E K) → ℕ → Me (Option S) (View E K) → Type 0
  passed st m found m' = m' ≡ (back_outside m.0, rest m.1)

  -- the shorter of the two fronts is a prefix of the longer
  abbrev pub met : Step (Option S) → Me (Option S) (View E K) → ℕ → Me (Option S) (View E K) → Type 0
  met st m found m' =
      (front : List E) × (m' ≡ (with_front m.0 front, m.1)) × IsPrefix m.0.front front × IsPrefix m.0.other front × ((front ≡ m.0.front) ⊎ (front ≡ m.0.other)) × (m.0.weight ≤ MAX_SEATS)
