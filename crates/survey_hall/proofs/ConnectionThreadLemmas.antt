-- Connections beside the ends over which they are served.
use Rattle.std.proofs.Common.{◌≡◌, ℕ, zero, suc, List, [], ◌∷◌, ◌++◌, length, Option, Some, None, slice_get, refl, ap, sym, subst, ◌∙◌, arith, append_assoc, append-nil}
use Rattle.std.specs.Prelude.{option_map, slice_set}
use Rattle.std.specs.List.{AllZip}
use Rattle.json_forms.specs.DefinitionViews.{DefinitionView}
use Rattle.survey_hall.specs.declared.served.Served.{Served}
use Rattle.survey_hall.specs.declared.connection_threads.Connection.{Connection}
use Rattle.survey_hall.specs.Connections.{WasServed}
use Rattle.survey_hall.specs.ConnectionThreads.{ServesFor}
use Rattle.survey_hall.specs.Serving.{ServedEach, ServesEach, TakesFirst}
use Rattle.survey_hall.proofs.StackLemmas.{zip_push}

pub empty_of : {X : Type 0} (xs : List X) → length xs ≡ 0 → xs ≡ []
empty_of [] none = refl
empty_of (x ∷ xs) none = absurd (omega (arith, none))

-- one more was taken
pub takes_one_more : {X : Type 0} (before middle after : Option (List X)) (taken : List X) (x : X) → TakesFirst before middle taken
    → middle ≡ option_map (λ rest. x ∷ rest) after → TakesFirst before after (taken ++ x ∷ [])
takes_one_more before middle None taken x first next = first ∙ ap (λ o. option_map (λ rest. taken ++ rest) o) next
takes_one_more {X} before middle (Some rest) taken x first next =
    first ∙ ap (λ o. option_map (λ (l : List X). taken ++ l) o) next ∙ ap (λ (l : List X). Some l) (sym (append_assoc taken (x ∷ []) rest))

-- an element of the second list is changed
pub zip_set_second : {X Y : Type 0} (R : X → Y → Type 0) (xs : List X) (ys : List Y) (k : ℕ) (y new : Y) → slice_get ys k ≡ Some y
    → ((x : X) → R x y → R x new) → AllZip R xs ys → AllZip R xs (slice_set ys k new)
zip_set_second R [] [] k y new at along zipped = tt
zip_set_second R [] (z ∷ ys) k y new at along zipped = absurd zipped
zip_set_second R (x ∷ xs) [] k y new at along zipped = absurd zipped
zip_set_second R (x ∷ xs) (z ∷ ys) zero y new at along zipped =
    let e : z ≡ y = cc (at) in
    (along x (subst (λ l. R x l) e zipped.0), zipped.1)
zip_set_second R (x ∷ xs) (z ∷ ys) (suc k) y new at along zipped = (zipped.0, zip_set_second R xs ys k y new at along zipped.1)

module _ {I O : Type 0} (left : I → Option (List ℕ)) (read_faults : I → ℕ) (written : O → Option (List ℕ)) (write_faults : O → ℕ) where
  -- of these connections the first were served, and the others are being served or were
  pub record IsServedSoFar (definition : DefinitionView) (accepted : List (I × O)) (served : List Served) (rest : List (Connection I O)) : Type 0 where
    pub first : List (I × O)
    pub others : List (I × O)
    pub whole : accepted ≡ first ++ others
    pub done : ServedEach left read_faults written write_faults definition first served
    pub serves : ServesEach left read_faults written write_faults definition others rest

  module _ (definition : DefinitionView) (accepted : List (I × O)) where
    one_more_of : (first others : List (I × O)) (served : List Served) (one : Connection I O) (rest : List (Connection I O)) (result : Served)
        → accepted ≡ first ++ others → ServedEach left read_faults written write_faults definition first served
        → ServesEach left read_faults written write_faults definition others (one ∷ rest)
        → ((source : I) (sink : O) → ServesFor left read_faults written write_faults definition source sink one → WasServed left read_faults written write_faults definition source sink result)
        → IsServedSoFar definition accepted (served ++ result ∷ []) rest
    one_more_of first [] served one rest result whole done serves finishes = absurd serves
    one_more_of first (ends ∷ others) served one rest result whole done serves finishes = record {
      first = first ++ ends ∷ [];
      others = others;
      whole = whole ∙ sym (append_assoc first (ends ∷ []) others);
      done = zip_push (λ (e : I × O) (s : Served). WasServed left read_faults written write_faults definition e.0 e.1 s) first served ends result done (finishes ends.0 ends.1 serves.0);
      serves = serves.1;
    }

    pub one_more_served : (served : List Served) (one : Connection I O) (rest : List (Connection I O)) (result : Served)
        → IsServedSoFar definition accepted served (one ∷ rest)
        → ((source : I) (sink : O) → ServesFor left read_faults written write_faults definition source sink one → WasServed left read_faults written write_faults definition source sink result)
        → IsServedSoFar definition accepted (served ++ result ∷ []) rest
    one_more_served served one rest result so_far finishes =
        one_more_of so_far.first so_far.others served one rest result so_far.whole so_far.done so_far.serves finishes

    all_of : (first others : List (I × O)) (served : List Served) → accepted ≡ first ++ others
        → ServedEach left read_faults written write_faults definition first served
        → ServesEach left read_faults written write_faults definition others [] → ServedEach left read_faults written write_faults definition accepted served
    all_of first [] served whole done serves =
        subst (λ (l : List (I × O)). ServedEach left read_faults written write_faults definition l served) (sym (whole ∙ append-nil first)) done
    all_of first (ends ∷ others) served whole done serves = absurd serves

    pub all_served : (served : List Served) → IsServedSoFar definition accepted served [] → ServedEach left read_faults written write_faults definition accepted served
    all_served served so_far = all_of so_far.first so_far.others served so_far.whole so_far.done so_far.serves
