-- Room for benches, and with it the task of an eliminator's thread, may go to another thread.
use mathlib.Core.List.{List, [], ◌∷◌}
use Prim.Native.Nat.{ℕ}
use denote.RattleType.{RattleType}
use denote.Ref.{NamedLft, ShrRef}
use denote.Struct.Declared.{shape}
use denote.Struct.Struct.{Struct}
use denote.Struct.Tuple.{TupleAt, type_at}
use denote.Param.Send.{AllSend, IsSend, IsSync, recorded_send, shr_send, struct_send, sendable}
use Rattle.std.proofs.Crossing.{Vec-sync, crosses}
use Rattle.std.specs.contracts.alloc.Global as Global
use Rattle.std.specs.contracts.impls.GlobalAllocator.TheImpl.{ghosts}
use Rattle.std.specs.contracts.sync.atomic.AtomicBool as AtomicBool
use Rattle.std.specs.contracts.vec.Vec as Vec
use Rattle.criteria_model.proofs.models.Model.TheSendSync as models
use Rattle.criteria_model.specs.contracts.models.Model as Model
use Rattle.eliminators.specs.contracts.benches.Benches as Benches
use Rattle.shared_survey.proofs.Crosses.{pass_send, held_pass_send, survey_sync}
use Rattle.shared_survey.specs.contracts.bench.SurveyBench as SurveyBench
use Rattle.shared_survey.specs.contracts.survey.Survey as Survey
use Rattle.survey_run.specs.contracts.workers.WorkerJob as WorkerJob
use Rattle.survey_run.proofs.Crosses.{worker_job_send}

pub bench_send : (a : NamedLft) (R : RattleType) → IsSync R → IsSend (SurveyBench.the_row a R)
bench_send a R y = search (sendable, pass_send, held_pass_send, survey_sync) depth 40

pub benches_send : (a : NamedLft) (R : RattleType) → IsSync R → IsSend (Benches.the_row (SurveyBench.the_row a R))
benches_send a R y = let s = bench_send a R y in search (sendable, crosses) depth 40

-- what the task captures: the runtime, the surveys, the model, the job, room for benches, the flag and the gate
module _ (R G : RattleType) (a b c d e f : NamedLft) where
  abbrev pub captured : List RattleType
  captured = ShrRef a.mir a.lft R ∷ ShrRef b.mir b.lft (Vec.the_row Survey.the_row Global.the_row ghosts) ∷ ShrRef c.mir c.lft Model.the_row ∷ WorkerJob.the_row
      ∷ Benches.the_row (SurveyBench.the_row d R) ∷ ShrRef e.mir e.lft AtomicBool.the_row ∷ ShrRef f.mir f.lft G ∷ []

  pub task_send : (name : List ℕ) → IsSync R → IsSync G → IsSend (TupleAt name captured)
  task_send name runtime gate =
      let flag : IsSync AtomicBool.the_row = search (sendable, crosses) depth 20 in
      let all : AllSend captured = (
        shr_send a.mir a.lft R runtime,
        (
          shr_send b.mir b.lft (Vec.the_row Survey.the_row Global.the_row ghosts) (Vec-sync Survey.the_row survey_sync),
          (
            shr_send c.mir c.lft Model.the_row models.the_sync,
            (worker_job_send, (benches_send d R runtime, (shr_send e.mir e.lft AtomicBool.the_row flag, (shr_send f.mir f.lft G gate, tt)))),
          ),
        ),
      ) in
      let task = type_at name captured in recorded_send (Struct (shape task)) task.D task.to task.to_one (struct_send (shape task) all)
