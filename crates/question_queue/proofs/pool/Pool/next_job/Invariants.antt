use Rattle.question_queue.proofs.pool.Pool.next_job.Given as goal

abbrev pub ghosts-find_job : goal.ghosts-find_job
ghosts-find_job a = record { name = a.blank.name; parts = a.blank.parts }
