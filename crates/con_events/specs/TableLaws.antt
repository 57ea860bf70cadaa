-- A call is read back from its name and what is shown of its arguments.
use Rattle.std.proofs.Common.{◌≡◌, refl, List, [], ◌∷◌, map, Option, None, Some}
use Rattle.con_events.specs.declared.call.Call.{Call}
use Rattle.con_events.specs.declared.call.Call.TheVariants as call
use Rattle.con_records.specs.declared.record.Record.{Record}
use Rattle.con_records.specs.declared.record.Record.TheVariants as record_of
use Rattle.con_events.specs.Arg.{Arg}
use Rattle.con_events.specs.Words.Arg.{kind_of}
use Rattle.con_events.specs.RecordTable.{name_of_record, args_of_record, row_of_record}
use Rattle.con_events.specs.Words.Table.{name_of, args_of, Row, row_of, Tells, row_of_handles, row_of_screens, row_of_cells, row_of_lines, row_of_processes}
use Rattle.con_events.specs.Reading.{Item, args_from, row_from, call_from}

-- the row of a call's name: its kinds are those of the call's arguments, and it makes the call from them
pub row_tells : (c : Call) → Tells c (row_of (name_of c))
unfolding row_of_handles row_of_screens row_of_cells row_of_lines row_of_processes
row_tells (call.BufferCreate a) = (refl, refl)
row_tells (call.OpenOut a) = (refl, refl)
row_tells (call.OpenIn a) = (refl, refl)
row_tells (call.Close a) = (refl, refl)
row_tells (call.Duplicate a b) = (refl, refl)
row_tells (call.Activate a) = (refl, refl)
row_tells (call.Mode a) = (refl, refl)
row_tells (call.SetMode a b) = (refl, refl)
row_tells (call.Info a) = (refl, refl)
row_tells (call.SetSize a b c) = (refl, refl)
row_tells (call.SetCursor a b c) = (refl, refl)
row_tells (call.CursorInfo a) = (refl, refl)
row_tells (call.SetCursorInfo a b c) = (refl, refl)
row_tells (call.SetOrigin a b c) = (refl, refl)
row_tells (call.SetAttr a b) = (refl, refl)
row_tells call.Title = (refl, refl)
row_tells (call.SetTitle a) = (refl, refl)
row_tells (call.Write a b) = (refl, refl)
row_tells (call.RectRead a b) = (refl, refl)
row_tells (call.RectWrite a b c d) = (refl, refl)
row_tells (call.RunReadUnits a b c d) = (refl, refl)
row_tells (call.RunReadAttrs a b c d) = (refl, refl)
row_tells (call.RunWriteUnits a b c d) = (refl, refl)
row_tells (call.RunWriteAttrs a b c d) = (refl, refl)
row_tells (call.FillUnits a b c d e) = (refl, refl)
row_tells (call.FillAttrs a b c d e) = (refl, refl)
row_tells (call.Scroll a b c d e f g) = (refl, refl)
row_tells (call.Peek a b) = (refl, refl)
row_tells (call.WriteInput a b) = (refl, refl)
row_tells (call.Count a) = (refl, refl)
row_tells (call.Flush a) = (refl, refl)
row_tells call.HistoryInfo = (refl, refl)
row_tells (call.SetHistory a b c) = (refl, refl)
row_tells call.HistoryList = (refl, refl)
row_tells call.HistoryClear = (refl, refl)
row_tells (call.AliasAdd a b c) = (refl, refl)
row_tells (call.AliasRemove a b) = (refl, refl)
row_tells (call.AliasGet a b) = (refl, refl)
row_tells (call.AliasList a) = (refl, refl)
row_tells call.Processes = (refl, refl)
row_tells (call.Signal a b) = (refl, refl)
row_tells (call.Ignore a) = (refl, refl)
row_tells (call.HandlerAdd a) = (refl, refl)
row_tells (call.HandlerRemove a) = (refl, refl)

-- each argument is read back, as one of its kind
abbrev pub AllRead : (Arg → Item) → List Arg → Type 0
AllRead show [] = Unit {0}
AllRead show (a ∷ xs) = (show a (kind_of a) ≡ Some a) × AllRead show xs

pub args_back : (show : Arg → Item) (xs : List Arg) → AllRead show xs → args_from (map kind_of xs) (map show xs) ≡ Some (xs, [])
args_back show [] p = refl
args_back show (a ∷ xs) p = rw (p.0, args_back show xs p.1) refl

-- a row that has these arguments' kinds makes this of them
abbrev pub Makes : {A : Type 0} → A → List Arg → Option (Row A) → Type 0
Makes a xs None = ⊥
Makes a xs (Some r) = (r.kinds ≡ map kind_of xs) × (r.make xs ≡ a)

row_back : {A : Type 0} (show : Arg → Item) (a : A) (xs : List Arg) (o : Option (Row A)) → Makes a xs o → AllRead show xs
    → row_from o (map show xs) ≡ Some (a, [])
row_back show a xs None t p = absurd t
row_back show a xs (Some r) t p = rw (t.0, args_back show xs p, t.1) refl

tells_makes : (c : Call) (o : Option (Row Call)) → Tells c o → Makes c (args_of c) o
tells_makes c None t = t
tells_makes c (Some r) t = t

pub call_back : (show : Arg → Item) (c : Call) → AllRead show (args_of c) → call_from (name_of c) (map show (args_of c)) ≡ Some (c, [])
call_back show c p = row_back show c (args_of c) (row_of (name_of c)) (tells_makes c (row_of (name_of c)) (row_tells c)) p

-- so is a record
record_makes : (r : Record) → Makes r (args_of_record r) (row_of_record (name_of_record r))
unfolding row_of_record
record_makes (record_of.Key k) = (refl, refl)
record_makes (record_of.Mouse m) = (refl, refl)
record_makes (record_of.Size s) = (refl, refl)
record_makes (record_of.Menu n) = (refl, refl)
record_makes (record_of.Focus b) = (refl, refl)

pub record_back : (show : Arg → Item) (r : Record) → AllRead show (args_of_record r)
    → row_from (row_of_record (name_of_record r)) (map show (args_of_record r)) ≡ Some (r, [])
record_back show r p = row_back show r (args_of_record r) (row_of_record (name_of_record r)) (record_makes r) p
