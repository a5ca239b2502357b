-- The empty history.
use Rattle.std.proofs.Common.{◌≡◌, ℕ, zero, suc, ◌+◌, ◌≤◌, List, [], length, replicate, Some, slice_get, refl, ap, sym, subst, arith}
use Rattle.std.proofs.lemmas.List.{length-replicate}
use Rattle.std.proofs.lemmas.Option.{none-some, same_Some}
use Rattle.answer_rows.specs.Room.{AnswersWithRoom}
use Rattle.criteria_model.specs.declared.pairs.Answer.{Answer}
use Rattle.pair_enumeration.specs.Listed.{Listed, IsListed}
use Rattle.survey_core.specs.declared.marks.Mark.{Mark}
use Rattle.criteria_model.specs.declared.limits.TheConstants.{MAX_CLASSES}
use Rattle.survey_core.specs.declared.limits.TheConstants.{MAX_EVENTS}
use Rattle.survey_core.specs.Marked.{Table, unmarked, IsMark, is_answer_up_to, IsTableOf, KeepsHistory}
use Rattle.survey_core.proofs.TableLemmas.{count_none}

pub replicate_at : {X : Type 0} (n : ℕ) (x : X) (k : ℕ) (y : X) → slice_get (replicate n x) k ≡ Some y → x ≡ y
replicate_at zero x k y h = absurd (none-some y h)
replicate_at (suc n) x zero y h = same_Some x y h
replicate_at (suc n) x (suc k) y h = replicate_at n x k y h

first_mark : (place : ℕ) → IsMark [] place unmarked
first_mark place = record { ranking = refl; asked = refl }

first_table : (listed : Listed) → IsTableOf listed [] 0 (record { classes = replicate (length listed.classes) unmarked; questions = [] })
first_table listed =
    let n : ℕ = length listed.classes in
    record {
      len = length-replicate n unmarked;
      each_class = λ k mark at. subst (λ (m : Mark). IsMark [] (k + 1) m) (replicate_at n unmarked k mark at) (first_mark (k + 1));
      places = refl;
      each_question = λ k question at. absurd (none-some question at);
      asked_count = count_none (λ mark. mark.issued) n unmarked refl;
      answer_count = λ most. omega (arith, count_none (is_answer_up_to most) n unmarked refl);
    }

pub new_kept : (listed : Listed) (answers : AnswersWithRoom) (room : ℕ) → IsListed listed → length listed.classes ≤ MAX_CLASSES → answers.answers ≡ []
    → length listed.classes ≤ answers.spare → MAX_EVENTS ≤ room
    → KeepsHistory listed [] answers (record { classes = replicate (length listed.classes) unmarked; questions = [] }) 0 room
new_kept listed answers room model few empty spare fits =
    let none : length answers.answers ≡ 0 = ap (λ (l : List Answer). length l) empty in
    let table : Table = record { classes = replicate (length listed.classes) unmarked; questions = [] } in
    record {
      model = model;
      legal = λ k event at. absurd (none-some event at);
      answered = empty;
      room_for_answers = omega arith;
      table_of = subst (λ (n : ℕ). IsTableOf listed [] n table) (sym none) (first_table listed);
      withdrawals_made = refl;
      unspent = omega arith;
      short = omega arith;
      room_for_events = fits;
    }
