use Rattle.session_protocol.proofs.OneSession.{one_session_lem}
use Rattle.session_protocol.proofs.laws.one_session.Goals as goal

pub returns : goal.returns
returns c = one_session_lem
