-- The input records: their names, and their fields in order.
use Rattle.std.specs.Prelude.{ℕ, List, [], ◌∷◌, Option, None, codes}
use Rattle.con_records.specs.declared.record.Record.{Record}
use Rattle.con_records.specs.declared.record.Record.TheVariants as record_of
use Rattle.con_events.specs.Arg.{Arg, Number, Signed, OneUnit, Flag}
use Rattle.con_events.specs.Words.Arg.{number, signed, unit, flag, the_number, the_signed, the_flag}
use Rattle.con_events.specs.Words.Table.{Row, row, nth, find}

abbrev pub name_of_record : Record → List ℕ
name_of_record (record_of.Key k) = codes "key"
name_of_record (record_of.Mouse m) = codes "mouse"
name_of_record (record_of.Size s) = codes "size"
name_of_record (record_of.Menu n) = codes "menu"
name_of_record (record_of.Focus b) = codes "focus"

abbrev pub args_of_record : Record → List Arg
args_of_record (record_of.Key k) = Flag k.down ∷ OneUnit k.repeat ∷ OneUnit k.vk ∷ OneUnit k.scan ∷ OneUnit k.unit ∷ Number k.state ∷ []
args_of_record (record_of.Mouse m) = Signed m.x ∷ Signed m.y ∷ Number m.buttons ∷ Number m.state ∷ Number m.flags ∷ []
args_of_record (record_of.Size s) = OneUnit s.w ∷ OneUnit s.h ∷ []
args_of_record (record_of.Menu n) = Number n ∷ []
args_of_record (record_of.Focus b) = Flag b ∷ []

abbrev pub record_rows : List (Row Record)
record_rows = row (codes "key") (flag ∷ unit ∷ unit ∷ unit ∷ unit ∷ number ∷ [])
    (λ xs. record_of.Key (record {
      down = the_flag (nth 0 xs);
      repeat = the_number (nth 1 xs);
      vk = the_number (nth 2 xs);
      scan = the_number (nth 3 xs);
      unit = the_number (nth 4 xs);
      state = the_number (nth 5 xs);
    }))
    ∷ row (codes "mouse") (signed ∷ signed ∷ number ∷ number ∷ number ∷ [])
    (λ xs. record_of.Mouse (record {
      x = the_signed (nth 0 xs);
      y = the_signed (nth 1 xs);
      buttons = the_number (nth 2 xs);
      state = the_number (nth 3 xs);
      flags = the_number (nth 4 xs);
    }))
    ∷ row (codes "size") (unit ∷ unit ∷ []) (λ xs. record_of.Size (record { w = the_number (nth 0 xs); h = the_number (nth 1 xs) }))
    ∷ row (codes "menu") (number ∷ []) (λ xs. record_of.Menu (the_number (nth 0 xs)))
    ∷ row (codes "focus") (flag ∷ []) (λ xs. record_of.Focus (the_flag (nth 0 xs)))
    ∷ []

-- the row of a record's name
unfoldable pub row_of_record : List ℕ → Option (Row Record)
row_of_record n = find n record_rows None
