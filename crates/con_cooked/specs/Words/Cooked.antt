-- The words of the code and of laws about Cooked, which a reader need not believe: the words below are the code's own and those of laws: what one press answers.
use Rattle.std.specs.Prelude.{◌-◌, length, if◌then◌else◌}
use Rattle.con_units.specs.Words.Units.{first_difference}
use Rattle.con_records.specs.declared.record.Record.{Record}
use Rattle.con_line.specs.Line.{LineText}
use Rattle.con_history.specs.Histories.{LineHistories}
use Rattle.con_cooked.specs.Keys.{key_of}
use Rattle.con_cooked.specs.Mask.{is_masked}
use Rattle.con_cooked.specs.Cooked.{CookedRead, line_of, after_press, is_return}
use Rattle.con_cooked.specs.declared.progress.Echo.{Echo}
use Rattle.con_cooked.specs.declared.progress.Progress.{Progress}
use Rattle.con_cooked.specs.declared.progress.Progress.TheVariants as progress

-- what is drawn again between two lines
abbrev pub echo_between : LineText → LineText → Echo
echo_between old new =
    record { offset = first_difference old.units new.units; end = length new.units; blanks = length old.units - length new.units; caret = new.caret }

-- what a press answers: a masked key ends the read and shows nothing, and return ends it with its line
abbrev pub progress_of : CookedRead → Record → LineHistories → Progress
progress_of r one histories =
    let echo : Echo = echo_between (line_of r).line (line_of (after_press r one histories)).line in
    if is_masked r.mask one then progress.Woken else if is_return (key_of one) then progress.Done echo else progress.Going echo
