use Rattle.std.proofs.Common.{refl}
use Rattle.unicode_width.specs.Width.{char_width}
use Rattle.con_units.specs.Decimal.{decimal}
use Rattle.con_units.specs.Split.{next, split_after}
use Rattle.con_units.specs.Stored.{is_shown}
use Rattle.con_vtgram.specs.Numbers.{pieces, parameters}
use Rattle.con_vtgram.specs.Text.{sixteen, csi_items, is_front, whole, kept}
use Rattle.con_vtgram.specs.Pen.{pen_after, indexed}
use Rattle.con_vtgram.specs.Sgr.{pen_by}
use Rattle.con_term.specs.Effect.{part_erased, plain_effect, private_effect, effect}
use Rattle.con_term.specs.Page.{filled, lowered, printed}
use Rattle.con_term.specs.Play.{units_of, play}
use Rattle.con_term.specs.Same.{same_attr}
use Rattle.con_dump.specs.Dump.{hex_word, head_line, shade_text, run_line, run_lines, rows_text, runs_text, dump}
use Rattle.tests_screens.proofs.term.rows.a_view_has_all_cells.Goals as goal

pub returns-clause-cells : goal.returns-clause-cells
unfolding char_width decimal next split_after is_shown pieces parameters sixteen csi_items is_front whole kept pen_after indexed pen_by part_erased plain_effect private_effect effect filled lowered printed units_of play same_attr hex_word head_line shade_text run_line run_lines rows_text runs_text dump
returns-clause-cells c = refl

pub returns-clause-cursor : goal.returns-clause-cursor
unfolding char_width decimal next split_after is_shown pieces parameters sixteen csi_items is_front whole kept pen_after indexed pen_by part_erased plain_effect private_effect effect filled lowered printed units_of play same_attr hex_word head_line shade_text run_line run_lines rows_text runs_text dump
returns-clause-cursor c = refl

pub returns-clause-visible : goal.returns-clause-visible
unfolding char_width decimal next split_after is_shown pieces parameters sixteen csi_items is_front whole kept pen_after indexed pen_by part_erased plain_effect private_effect effect filled lowered printed units_of play same_attr hex_word head_line shade_text run_line run_lines rows_text runs_text dump
returns-clause-visible c = refl
