use Rattle.result_file.proofs.JournalLemmas.{on_ok}
use Rattle.result_file.proofs.OutLemmas.{sends_all}
use Rattle.result_file.proofs.journals.make_room.Goals as goal

pub returns-clause-out : goal.returns-clause-out
returns-clause-out g c =
    on_ok c.put_all.result _ _ (sends_all _ _ c.args.text.now.bytes c.put_all.new.self.bytes c.put_all.ensures.emptied) c.put_all.ensures.written
