use Rattle.turn_lock.proofs.turn.Turn.leave.Given as goal

-- the list that is marked is that of the state
abbrev pub ghosts-mark : goal.ghosts-mark
ghosts-mark g a = record { list = g.S.Journalled.entries a.state.now }
