-- Connections that are being served, or were.
use Rattle.std.specs.Prelude.{◌≡◌, ℕ, List, Option}
use Rattle.json_forms.specs.DefinitionViews.{DefinitionView}
use Rattle.survey_hall.specs.declared.connection_threads.Connection.{Connection}
use Rattle.survey_hall.specs.declared.connection_threads.Connection.TheVariants.{Thread, Done}
use Rattle.survey_hall.specs.Connections.{WasServed}

module _ {I O : Type 0} (left : I → Option (List ℕ)) (read_faults : I → ℕ) (written : O → Option (List ℕ)) (write_faults : O → ℕ) where
  -- the thread serves the connection over these ends, or it was served
  abbrev pub ServesFor : DefinitionView → I → O → Connection I O → Type 0
  ServesFor definition source sink (Thread handle) =
      (handle.promise.hall.value.definition ≡ definition) × (handle.promise.source.value ≡ source) × (handle.promise.sink.value ≡ sink)
  ServesFor definition source sink (Done served) = WasServed left read_faults written write_faults definition source sink served
