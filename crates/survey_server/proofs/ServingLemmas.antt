-- Serving without memory.
use Rattle.std.proofs.Common.{◌≡◌, ℕ, List, Option, None, refl, sym, subst}
use Rattle.std.specs.Prelude.{Err}
use Rattle.survey_server.specs.declared.commands.Ended.{Ended}
use Rattle.survey_server.specs.declared.script_runs.Stop.TheVariants.{NoMemory}
use Rattle.survey_server.specs.Serving.{ServesAndAnswers}

module _ {I O D : Type 0} (left : I → Option (List ℕ)) (read_faults : I → ℕ) (written : O → Option (List ℕ)) (write_faults : O → ℕ) (ends : D → Option (List (I × O))) where
  -- there was no memory, and nothing happened
  pub no_memory_serves : (told : Option (List ℕ)) (connections : ℕ) (door : D) (now : Option (List ℕ)) (ended : Ended)
      → ended ≡ record { status = 5; run = None; served = None }
      → ServesAndAnswers left read_faults written write_faults ends told connections door door now now ended
  no_memory_serves told connections door now ended is =
      subst (λ (e : Ended). ServesAndAnswers left read_faults written write_faults ends told connections door door now now e) (sym is)
      (record { outcome = Err NoMemory; came = refl; answered = ((refl, refl), refl) })
