-- How many events may follow a legal history up to the next Withdraw: at most three a class.
use Rattle.std.proofs.Common.{◌≡◌, ℕ, ◌+◌, ◌-◌, ◌≤◌, false, cond, List, [], ◌∷◌, ◌++◌, ap, sym, subst, arith}
use Rattle.std.proofs.lemmas.List.Sums.{sum_by-cons}
use Rattle.pair_enumeration.specs.Listed.{Listed}
use Rattle.survey_core.specs.declared.events.Event.{Event}
use Rattle.survey_core.specs.Kinds.{is_withdraw}
use Rattle.survey_core.specs.Histories.{withdrawals}
use Rattle.survey_core.specs.Legal.{IsLegal}
use Rattle.survey_core.proofs.TableLemmas.{one_if}
use Rattle.survey_core.proofs.FollowLemmas.{Keeps, keeps_whole, legal_front, follow_within, undone_within, one_by_one}
use Rattle.survey_state.specs.States.{HasRoom}
use Rattle.survey_state.specs.Laws.{ThreeAClassFollow}

pub three_a_class_follow_lem : ThreeAClassFollow
three_a_class_follow_lem listed history more model legal none =
    let now : Keeps listed history = keeps_whole listed history model (legal_front listed history more legal) in
    omega (arith, follow_within listed history more now legal none, undone_within listed history now)

-- the next event takes some of it
pub room_next : (listed : Listed) (history : List Event) (event : Event) (spare : ℕ) → HasRoom listed history spare → is_withdraw event ≡ false
    → HasRoom listed (history ++ event ∷ []) (spare - 1)
room_next listed history event spare room stays more legal none =
    let counts : withdrawals (event ∷ more) ≡ cond (is_withdraw event) 1 0 + withdrawals more = sum_by-cons (λ e. cond (is_withdraw e) 1 0) event more in
    omega (
      arith,
      room (event ∷ more) (subst (λ (l : List Event). IsLegal listed l) (sym (one_by_one history event more)) legal) (omega (arith, counts, ap one_if stays, none)),
    )

pub some_room : (listed : Listed) (history : List Event) (event : Event) (spare : ℕ) → HasRoom listed history spare → is_withdraw event ≡ false
    → IsLegal listed (history ++ event ∷ []) → 1 ≤ spare
some_room listed history event spare room stays legal =
    let counts : withdrawals (event ∷ []) ≡ cond (is_withdraw event) 1 0 + 0 = sum_by-cons (λ e. cond (is_withdraw e) 1 0) event [] in
    room (event ∷ []) legal (omega (arith, counts, ap one_if stays))
