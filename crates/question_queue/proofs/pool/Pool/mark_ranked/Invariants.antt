use Rattle.question_queue.proofs.pool.Pool.mark_ranked.Given as goal

abbrev pub ghosts-rank : goal.ghosts-rank
ghosts-rank a = record { name = a.blank.name; parts = a.blank.parts }
