-- Names of calls in a line.
use Rattle.std.proofs.Common.{◌≡◌, refl}
use Rattle.json.specs.Print.{escape, escape_byte}
use Rattle.con_events.specs.declared.call.Call.{Call}
use Rattle.con_events.specs.declared.call.Call.TheVariants as call
use Rattle.con_events.specs.Words.Table.{name_of}

pub call_name_plain : (c : Call) → escape (name_of c) ≡ name_of c
unfolding escape_byte
call_name_plain (call.BufferCreate a) = refl
call_name_plain (call.OpenOut a) = refl
call_name_plain (call.OpenIn a) = refl
call_name_plain (call.Close a) = refl
call_name_plain (call.Duplicate a b) = refl
call_name_plain (call.Activate a) = refl
call_name_plain (call.Mode a) = refl
call_name_plain (call.SetMode a b) = refl
call_name_plain (call.Info a) = refl
call_name_plain (call.SetSize a b c) = refl
call_name_plain (call.SetCursor a b c) = refl
call_name_plain (call.CursorInfo a) = refl
call_name_plain (call.SetCursorInfo a b c) = refl
call_name_plain (call.SetOrigin a b c) = refl
call_name_plain (call.SetAttr a b) = refl
call_name_plain call.Title = refl
call_name_plain (call.SetTitle a) = refl
call_name_plain (call.Write a b) = refl
call_name_plain (call.RectRead a b) = refl
call_name_plain (call.RectWrite a b c d) = refl
call_name_plain (call.RunReadUnits a b c d) = refl
call_name_plain (call.RunReadAttrs a b c d) = refl
call_name_plain (call.RunWriteUnits a b c d) = refl
call_name_plain (call.RunWriteAttrs a b c d) = refl
call_name_plain (call.FillUnits a b c d e) = refl
call_name_plain (call.FillAttrs a b c d e) = refl
call_name_plain (call.Scroll a b c d e f g) = refl
call_name_plain (call.Peek a b) = refl
call_name_plain (call.WriteInput a b) = refl
call_name_plain (call.Count a) = refl
call_name_plain (call.Flush a) = refl
call_name_plain call.HistoryInfo = refl
call_name_plain (call.SetHistory a b c) = refl
call_name_plain call.HistoryList = refl
call_name_plain call.HistoryClear = refl
call_name_plain (call.AliasAdd a b c) = refl
call_name_plain (call.AliasRemove a b) = refl
call_name_plain (call.AliasGet a b) = refl
call_name_plain (call.AliasList a) = refl
call_name_plain call.Processes = refl
call_name_plain (call.Signal a b) = refl
call_name_plain (call.Ignore a) = refl
call_name_plain (call.HandlerAdd a) = refl
call_name_plain (call.HandlerRemove a) = refl
