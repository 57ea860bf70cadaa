use Rattle.con_screen.proofs.EchoLemmas.{echoed_by_part}
use Rattle.con_screen.proofs.screen.echo.is_echoed_by_part.Goals as goal

pub returns : goal.returns
returns c = record { by_part = echoed_by_part }
