use Rattle.std.proofs.Common.{sym}
use Rattle.con_text.proofs.Types.{on_ok}
use Rattle.con_text.proofs.Heard.{heard_is}
use Rattle.con_text.proofs.typing.TypistListener.hear.Goals as goal

pub returns : goal.returns
returns c = on_ok c.written.result (heard_is _ _ _ _ _ _ _ _ (sym c.self.view_is) c.decode.ensures.units c.as_slice.ensures.value c.decode.ensures.held) c.written.ensures.buffers
