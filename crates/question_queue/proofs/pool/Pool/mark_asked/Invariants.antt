use Rattle.question_queue.proofs.pool.Pool.mark_asked.Given as goal

abbrev pub ghosts-ask : goal.ghosts-ask
ghosts-ask a = record { name = a.blank.name; parts = a.blank.parts }
