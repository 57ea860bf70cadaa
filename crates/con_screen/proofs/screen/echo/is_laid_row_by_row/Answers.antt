use Rattle.con_screen.proofs.PlaceLemmas.{laid_row_by_row}
use Rattle.con_screen.proofs.screen.echo.is_laid_row_by_row.Goals as goal

pub returns : goal.returns
returns c = laid_row_by_row
