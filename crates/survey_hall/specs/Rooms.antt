-- What a call that serves connections works with.
use Rattle.std.specs.Prelude.{◌≡◌, ℕ, ◌≤◌, [], vec_capacity}
use Rattle.survey_hall.specs.declared.serving.Rooms.{Rooms}

module _ {I O : Type 0} where
  -- there is room for this number of connections and of eliminators, and none of them yet
  pub record HasRooms (rooms : Rooms I O) (connections workers : ℕ) : Type 0 where
    pub connections_room : (rooms.connections.items ≡ []) × (connections ≤ vec_capacity rooms.connections)
    pub served_room : (rooms.served.items ≡ []) × (connections ≤ vec_capacity rooms.served)
    pub working_room : (rooms.working.items ≡ []) × (workers ≤ vec_capacity rooms.working)
