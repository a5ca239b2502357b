-- What one more line does to a stage.
use Rattle.std.proofs.Common.{◌≡◌, ◌≢◌, ℕ, ◌≤◌, List, length, take, refl, sym, subst, Some, None}
use Rattle.criteria_model.specs.Criteria.{Criteria}
use Rattle.criteria_model.specs.Faults.{model_fault}
use Rattle.criteria_model.specs.declared.faults.ModelFault.{ModelFault}
use Rattle.result_file.specs.declared.bodies.Body.{Body}
use Rattle.result_file.specs.declared.kinds.Kind.{Kind}
use Rattle.result_file.specs.declared.progress.Progress.TheVariants as reached
use Rattle.result_file.specs.declared.stops.Stop.{Stop}
use Rattle.result_file.specs.declared.verdicts.Part.{Part}
use Rattle.result_file.specs.declared.verdicts.Part.TheVariants.{Form, Model}
use Rattle.result_file.specs.Bodies.{Keeps, Starts, Adds}
use Rattle.result_file.specs.Checked.{Stage, blank, headed, begun, ended, Says, Fails}
use Rattle.result_file.specs.Contents.{Content}
use Rattle.result_file.specs.Progress.{IsAtStage, GoesOn}
use Rattle.result_file.specs.Reading.{read_model}
use Rattle.result_file.specs.Stops.{StopsAt}
use Rattle.result_file.specs.Texts.{heading, model_line, end_line}
use Rattle.result_file.proofs.LineLaws.{model_takes, model_again}

-- ---- the second line

pub no_model : (line : List ℕ) → length line ≤ 4096 → read_model line ≡ None → (kind : Kind) → Fails (headed kind) line Form
no_model line short none kind criteria form spelled =
    let e : read_model line ≡ Some (criteria.levels, criteria.degree) = rw spelled (model_again criteria form (subst (λ (l : List ℕ). length l ≤ 4096) spelled short)) in
    absurd cc

pub spelled_model : (line cells : List ℕ) (count degree : ℕ) (model : Criteria) → read_model line ≡ Some (take count cells, degree)
    → model ≡ record { levels = take count cells; degree = degree } → line ≡ model_line model
spelled_model line cells count degree model e is = rw is (model_takes line (take count cells) degree e).0

pub wrong_model : (line cells : List ℕ) (count degree : ℕ) (fault : ModelFault) → read_model line ≡ Some (take count cells, degree)
    → model_fault (take count cells) degree ≡ Some fault → (kind : Kind) → Fails (headed kind) line Model
wrong_model line cells count degree fault e is kind =
    let t = model_takes line (take count cells) degree e in
    (record { levels = take count cells; degree = degree }, t.1, t.0, λ none. absurd cc)

-- ---- one more line

pub heads : (kind : Kind) (line : List ℕ) (lines : List (List ℕ)) (stage : Stage) → line ≡ heading kind → Says lines stage
    → IsAtStage reached.Blank stage → GoesOn lines line (reached.Headed kind)
heads kind line lines blank is says h = record {
  stage = headed kind;
  says = rw (says, is) refl;
  stands = refl;
}
heads kind line lines (headed other) is says h = absurd h
heads kind line lines (begun content) is says h = absurd h
heads kind line lines (ended content) is says h = absurd h

pub begins : (body : Body) (kind : Kind) (model : Criteria) (line : List ℕ) (lines : List (List ℕ)) (stage : Stage) → line ≡ model_line model
    → Starts body kind model → Says lines stage → IsAtStage (reached.Headed kind) stage → GoesOn lines line (reached.Begun body)
begins body kind model line lines blank spelled s says h = absurd h
begins body kind model line lines (headed other) spelled s says h = record {
  stage = begun s.content;
  says = (s.right, rw (says, spelled, s.same_kind, s.same_model, s.empty, h) refl);
  stands = s.kept;
}
begins body kind model line lines (begun content) spelled s says h = absurd h
begins body kind model line lines (ended content) spelled s says h = absurd h

pub ends : (body : Body) (line : List ℕ) (lines : List (List ℕ)) (stage : Stage) → line ≡ end_line → Says lines stage
    → IsAtStage (reached.Begun body) stage → GoesOn lines line (reached.Ended body)
ends body line lines blank is says h = absurd h
ends body line lines (headed kind) is says h = absurd h
ends body line lines (begun content) is says h = record {
  stage = ended content;
  says = (says.0, rw (says.1, is) refl);
  stands = h;
}
ends body line lines (ended content) is says h = absurd h

pub adds : (old new : Body) (line : List ℕ) → ((content : Content) → Keeps old content → Adds new line content)
    → (lines : List (List ℕ)) (stage : Stage) → Says lines stage → IsAtStage (reached.Begun old) stage → GoesOn lines line (reached.Begun new)
adds old new line added lines blank says h = absurd h
adds old new line added lines (headed kind) says h = absurd h
adds old new line added lines (begun content) says h =
    let a = added content h in
    record {
      stage = begun a.next;
      says = (a.right says.0, rw says.1 (sym a.lines));
      stands = a.kept;
    }
adds old new line added lines (ended content) says h = absurd h

pub stops_begun : (body : Body) (line : List ℕ) (stop : Stop)
    → ((content : Content) → line ≢ end_line → Keeps body content → StopsAt (begun content) line stop) → line ≢ end_line → (stage : Stage)
    → IsAtStage (reached.Begun body) stage → StopsAt stage line stop
stops_begun body line stop failed no_end blank h = absurd h
stops_begun body line stop failed no_end (headed kind) h = absurd h
stops_begun body line stop failed no_end (begun content) h = failed content no_end h
stops_begun body line stop failed no_end (ended content) h = absurd h

pub stops_headed : (kind : Kind) (line : List ℕ) (part : Part) → ((other : Kind) → Fails (headed other) line part) → (stage : Stage)
    → IsAtStage (reached.Headed kind) stage → Fails stage line part
stops_headed kind line part failed blank h = absurd h
stops_headed kind line part failed (headed other) h = failed other
stops_headed kind line part failed (begun content) h = absurd h
stops_headed kind line part failed (ended content) h = absurd h
