-- The calls and the waits: their names, their arguments in order, and what calls are answered with.
use Rattle.std.specs.Prelude.{ℕ, List, [], ◌∷◌, codes}
use Rattle.con_events.specs.declared.call.Call.{Call}
use Rattle.con_events.specs.declared.call.Call.TheVariants as call
use Rattle.con_events.specs.declared.event.Wanted.{Wanted}
use Rattle.con_events.specs.declared.event.Wanted.TheVariants.{Read, ReadInput, ReadWith}
use Rattle.con_events.specs.declared.form.Form.{Form}
use Rattle.con_events.specs.declared.form.Form.TheVariants as form
use Rattle.con_events.specs.Arg.{Arg, Number, Signed, OneUnit, Flag, Text, Area, Clip, WordsOf, WordList, Records}

-- a call's name, its arguments in order, and what it is answered with, where it is not refused
abbrev pub spelled : Call → List ℕ × List Arg × Form
spelled (call.BufferCreate a) = (codes "buffer-create", Number a ∷ [], form.Number)
spelled (call.OpenOut a) = (codes "open-out", Number a ∷ [], form.Number)
spelled (call.OpenIn a) = (codes "open-in", Number a ∷ [], form.Number)
spelled (call.Close a) = (codes "close", Number a ∷ [], form.Nothing)
spelled (call.Duplicate a b) = (codes "duplicate", Number a ∷ Number b ∷ [], form.Number)
spelled (call.Activate a) = (codes "activate", Number a ∷ [], form.Nothing)
spelled (call.Mode a) = (codes "mode", Number a ∷ [], form.Number)
spelled (call.SetMode a b) = (codes "set-mode", Number a ∷ Number b ∷ [], form.Nothing)
spelled (call.Info a) = (codes "info", Number a ∷ [], form.Fields 9)
spelled (call.SetSize a b c) = (codes "set-size", Number a ∷ Number b ∷ Number c ∷ [], form.Nothing)
spelled (call.SetCursor a b c) = (codes "set-cursor", Number a ∷ Signed b ∷ Signed c ∷ [], form.Nothing)
spelled (call.CursorInfo a) = (codes "cursor-info", Number a ∷ [], form.NumberAndFlag)
spelled (call.SetCursorInfo a b c) = (codes "set-cursor-info", Number a ∷ Number b ∷ Flag c ∷ [], form.Nothing)
spelled (call.SetOrigin a b c) = (codes "set-origin", Number a ∷ Signed b ∷ Signed c ∷ [], form.Nothing)
spelled (call.SetAttr a b) = (codes "set-attr", Number a ∷ OneUnit b ∷ [], form.Nothing)
spelled call.Title = (codes "title", [], form.Units)
spelled (call.SetTitle a) = (codes "set-title", Text a ∷ [], form.Nothing)
spelled (call.Write a b) = (codes "write", Number a ∷ Text b ∷ [], form.Number)
spelled (call.RectRead a b) = (codes "rect-read", Number a ∷ Area b ∷ [], form.Cells)
spelled (call.RectWrite a b c d) = (codes "rect-write", Number a ∷ Area b ∷ Text c ∷ WordsOf d ∷ [], form.Sides)
spelled (call.RunReadUnits a b c d) = (codes "run-read-units", Number a ∷ Signed b ∷ Signed c ∷ Number d ∷ [], form.Units)
spelled (call.RunReadAttrs a b c d) = (codes "run-read-attrs", Number a ∷ Signed b ∷ Signed c ∷ Number d ∷ [], form.Units)
spelled (call.RunWriteUnits a b c d) = (codes "run-write-units", Number a ∷ Signed b ∷ Signed c ∷ Text d ∷ [], form.Number)
spelled (call.RunWriteAttrs a b c d) = (codes "run-write-attrs", Number a ∷ Signed b ∷ Signed c ∷ WordList d ∷ [], form.Number)
spelled (call.FillUnits a b c d e) = (codes "fill-units", Number a ∷ Signed b ∷ Signed c ∷ Number d ∷ OneUnit e ∷ [], form.Number)
spelled (call.FillAttrs a b c d e) = (codes "fill-attrs", Number a ∷ Signed b ∷ Signed c ∷ Number d ∷ OneUnit e ∷ [], form.Number)
spelled (call.Scroll a b c d e f g) = (codes "scroll", Number a ∷ Area b ∷ Clip c ∷ Signed d ∷ Signed e ∷ OneUnit f ∷ OneUnit g ∷ [], form.Nothing)
spelled (call.Peek a b) = (codes "peek", Number a ∷ Number b ∷ [], form.Records)
spelled (call.WriteInput a b) = (codes "write-input", Number a ∷ Records b ∷ [], form.Number)
spelled (call.Count a) = (codes "count", Number a ∷ [], form.Number)
spelled (call.Flush a) = (codes "flush", Number a ∷ [], form.Nothing)
spelled call.HistoryInfo = (codes "history-info", [], form.Fields 3)
spelled (call.SetHistory a b c) = (codes "set-history", Number a ∷ Number b ∷ Number c ∷ [], form.Nothing)
spelled call.HistoryList = (codes "history-list", [], form.Lines)
spelled call.HistoryClear = (codes "history-clear", [], form.Nothing)
spelled (call.AliasAdd a b c) = (codes "alias-add", Text a ∷ Text b ∷ Text c ∷ [], form.Nothing)
spelled (call.AliasRemove a b) = (codes "alias-remove", Text a ∷ Text b ∷ [], form.Nothing)
spelled (call.AliasGet a b) = (codes "alias-get", Text a ∷ Text b ∷ [], form.Units)
spelled (call.AliasList a) = (codes "alias-list", Text a ∷ [], form.Lines)
spelled call.Processes = (codes "processes", [], form.Ids)
spelled (call.Signal a b) = (codes "signal", Number a ∷ Number b ∷ [], form.Nothing)
spelled (call.Ignore a) = (codes "ignore", Flag a ∷ [], form.Nothing)
spelled (call.HandlerAdd a) = (codes "handler-add", Number a ∷ [], form.Nothing)
spelled (call.HandlerRemove a) = (codes "handler-remove", Number a ∷ [], form.Nothing)

-- a wait's name, and its arguments in order
abbrev pub wanted_spelled : Wanted → List ℕ × List Arg
wanted_spelled (Read h n) = (codes "read", Number h ∷ Number n ∷ [])
wanted_spelled (ReadInput h n) = (codes "read-input", Number h ∷ Number n ∷ [])
wanted_spelled (ReadWith h n us mask) = (codes "read-with", Number h ∷ Number n ∷ Text us ∷ Number mask ∷ [])
