use Rattle.std.proofs.Common.{refl}
use Rattle.unicode_width.specs.Width.{char_width}
use Rattle.con_units.specs.Decimal.{decimal}
use Rattle.con_units.specs.Split.{next, split_after}
use Rattle.con_units.specs.Stored.{is_shown}
use Rattle.con_grid.specs.Picture.{filled, lifted, lowered, part_lifted, part_lowered}
use Rattle.con_vtgram.specs.Numbers.{pieces, parameters}
use Rattle.con_vtgram.specs.Text.{sixteen, csi_items, is_front, whole, kept}
use Rattle.con_page.specs.Page.{down, shown}
use Rattle.con_page.specs.Print.{line_of, wrapped, put, advanced, printed}
use Rattle.con_page.specs.Effect.{control_effect, setting, part_erased, edit, plain_effect, sequence_effect, act, follow, effect}
use Rattle.con_page.specs.Echo.{drawn_by, changed, ended}
use Rattle.con_screen.specs.Told.{cursor_report, csi_told, told_after, is_switch}
use Rattle.con_screen.specs.Written.{split_in, heard, written, switches}
use Rattle.tests_screens.proofs.screen.rows.a_line_changes.Goals as goal

pub returns : goal.returns
unfolding char_width decimal next split_after is_shown filled lifted lowered part_lifted part_lowered pieces parameters sixteen csi_items is_front whole kept down shown line_of wrapped put advanced printed control_effect setting part_erased edit plain_effect sequence_effect act follow effect drawn_by changed ended cursor_report csi_told told_after is_switch split_in heard written switches
returns c = refl
