-- The tasks of a connection's and of an eliminator's thread may go to another thread.
use mathlib.Core.List.{List, [], ◌∷◌}
use Prim.Native.Nat.{ℕ}
use denote.Builtin.{usize}
use denote.RattleType.{RattleType}
use denote.Ref.{NamedLft, ShrRef}
use denote.Struct.Declared.{shape}
use denote.Struct.Struct.{Struct}
use denote.Struct.Tuple.{TupleAt, type_at}
use denote.Param.Send.{AllSend, IsSend, IsSync, recorded_send, shr_send, struct_send, sendable}
use Rattle.std.proofs.Crossing.{send}
use Rattle.std.specs.contracts.alloc.Global as Global
use Rattle.survey_hall.specs.contracts.eliminator_seats.EliminatorSeat as EliminatorSeat
use Rattle.survey_hall.specs.contracts.eliminator_seats.Start as Start
use Rattle.survey_hall.specs.contracts.halls.Hall as Hall
use Rattle.survey_hall.specs.contracts.served_places.ServedPlaces as ServedPlaces
use Rattle.survey_hall.proofs.eliminator_seats.Start.TheSendSync as starts
use Rattle.survey_hall.proofs.served_places.ServedPlaces.TheSendSync as places
use Rattle.survey_hall.proofs.Crosses.{eliminator_send, hall_sync}

-- an eliminator's captures the runtime, the allocator, the eliminator, its start and the gate
module _ (R G : RattleType) (a b c : NamedLft) where
  abbrev pub of_eliminator : List RattleType
  of_eliminator = ShrRef a.mir a.lft R ∷ Global.the_row ∷ EliminatorSeat.the_row ∷ ShrRef b.mir b.lft Start.the_row ∷ ShrRef c.mir c.lft G ∷ []

  pub eliminator_task_send : (name : List ℕ) → IsSync R → IsSync G → IsSend (TupleAt name of_eliminator)
  eliminator_task_send name runtime gate =
      let all : AllSend of_eliminator = (
        shr_send a.mir a.lft R runtime,
        (send, (eliminator_send, (shr_send b.mir b.lft Start.the_row starts.the_sync, (shr_send c.mir c.lft G gate, tt)))),
      ) in
      let task = type_at name of_eliminator in recorded_send (Struct (shape task)) task.D task.to task.to_one (struct_send (shape task) all)

-- a connection's captures the runtime, the allocator, the hall, both ends, its place, the places of those served and the gate
module _ (R I O G : RattleType) (a b c d : NamedLft) where
  abbrev pub of_connection : List RattleType
  of_connection = ShrRef a.mir a.lft R ∷ Global.the_row ∷ ShrRef b.mir b.lft Hall.the_row ∷ I ∷ O ∷ usize
      ∷ ShrRef c.mir c.lft ServedPlaces.the_row ∷ ShrRef d.mir d.lft G ∷ []

  pub connection_task_send : (name : List ℕ) → IsSync R → IsSend I → IsSend O → IsSync G → IsSend (TupleAt name of_connection)
  connection_task_send name runtime source sink gate =
      let place : IsSend usize = search sendable in
      let all : AllSend of_connection = (
        shr_send a.mir a.lft R runtime,
        (send, (shr_send b.mir b.lft Hall.the_row hall_sync, (source, (sink, (place, (shr_send c.mir c.lft ServedPlaces.the_row places.the_sync, (shr_send d.mir d.lft G gate, tt))))))),
      ) in
      let task = type_at name of_connection in recorded_send (Struct (shape task)) task.D task.to task.to_one (struct_send (shape task) all)
