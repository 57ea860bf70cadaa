use Rattle.con_screen.proofs.WriteLemmas.{switches-none, switches-append}
use Rattle.con_screen.proofs.screen.alternate.is_switched_whole.Goals as goal

pub returns : goal.returns
returns c = record { none = switches-none; parts = switches-append }
