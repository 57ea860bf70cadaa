-- Calls by their names, as a tree: those whose arguments begin with the same kinds stand together.
use Rattle.std.specs.Prelude.{ℕ, List, [], ◌∷◌, Option, None, Some, codes, option_map, if◌then◌else◌}
use Rattle.std.specs.Str.{bytes_eq}
use Rattle.std.specs.Borrow.{Bor}
use Rattle.con_events.specs.Arg.{Arg}
use Rattle.con_events.specs.Words.Arg.{Kind, number, signed, unit, flag, text, rect, clip, words, list, records}
use Rattle.con_events.specs.Reading.{Item}
use Rattle.con_events.specs.declared.names.Bare.{Bare}
use Rattle.con_events.specs.declared.names.Bare.TheVariants as of_bare
use Rattle.con_events.specs.declared.names.OnNumber.{OnNumber}
use Rattle.con_events.specs.declared.names.OnNumber.TheVariants as of_onnumber
use Rattle.con_events.specs.declared.names.OnRun.{OnRun}
use Rattle.con_events.specs.declared.names.OnRun.TheVariants as of_onrun
use Rattle.con_events.specs.declared.names.OnPlace.{OnPlace}
use Rattle.con_events.specs.declared.names.OnPlace.TheVariants as of_onplace
use Rattle.con_events.specs.declared.names.OnArea.{OnArea}
use Rattle.con_events.specs.declared.names.OnArea.TheVariants as of_onarea
use Rattle.con_events.specs.declared.names.OnHandle.{OnHandle}
use Rattle.con_events.specs.declared.names.OnHandle.TheVariants as of_onhandle
use Rattle.con_events.specs.declared.names.OnText.{OnText}
use Rattle.con_events.specs.declared.names.OnText.TheVariants as of_ontext
use Rattle.con_events.specs.declared.names.Name.{Name}
use Rattle.con_events.specs.declared.names.Name.TheVariants as of_name

-- the name that each stands for
abbrev pub word_bare : Bare → List ℕ
word_bare of_bare.Title = codes "title"
word_bare of_bare.HistoryInfo = codes "history-info"
word_bare of_bare.HistoryList = codes "history-list"
word_bare of_bare.HistoryClear = codes "history-clear"
word_bare of_bare.Processes = codes "processes"

abbrev pub word_number : OnNumber → List ℕ
word_number of_onnumber.Duplicate = codes "duplicate"
word_number of_onnumber.SetMode = codes "set-mode"
word_number of_onnumber.Peek = codes "peek"
word_number of_onnumber.Signal = codes "signal"
word_number of_onnumber.SetSize = codes "set-size"
word_number of_onnumber.SetHistory = codes "set-history"
word_number of_onnumber.SetCursorInfo = codes "set-cursor-info"

abbrev pub word_run : OnRun → List ℕ
word_run of_onrun.RunReadUnits = codes "run-read-units"
word_run of_onrun.RunReadAttrs = codes "run-read-attrs"
word_run of_onrun.FillUnits = codes "fill-units"
word_run of_onrun.FillAttrs = codes "fill-attrs"

abbrev pub word_place : OnPlace → List ℕ
word_place of_onplace.SetCursor = codes "set-cursor"
word_place of_onplace.SetOrigin = codes "set-origin"
word_place of_onplace.RunWriteUnits = codes "run-write-units"
word_place of_onplace.RunWriteAttrs = codes "run-write-attrs"
word_place (of_onplace.Run n) = word_run n

abbrev pub word_area : OnArea → List ℕ
word_area of_onarea.RectRead = codes "rect-read"
word_area of_onarea.RectWrite = codes "rect-write"
word_area of_onarea.Scroll = codes "scroll"

abbrev pub word_handle : OnHandle → List ℕ
word_handle of_onhandle.BufferCreate = codes "buffer-create"
word_handle of_onhandle.OpenOut = codes "open-out"
word_handle of_onhandle.OpenIn = codes "open-in"
word_handle of_onhandle.Close = codes "close"
word_handle of_onhandle.Activate = codes "activate"
word_handle of_onhandle.Mode = codes "mode"
word_handle of_onhandle.Info = codes "info"
word_handle of_onhandle.CursorInfo = codes "cursor-info"
word_handle of_onhandle.Count = codes "count"
word_handle of_onhandle.Flush = codes "flush"
word_handle of_onhandle.HandlerAdd = codes "handler-add"
word_handle of_onhandle.HandlerRemove = codes "handler-remove"
word_handle of_onhandle.SetAttr = codes "set-attr"
word_handle of_onhandle.Write = codes "write"
word_handle of_onhandle.WriteInput = codes "write-input"
word_handle (of_onhandle.Number n) = word_number n
word_handle (of_onhandle.Place n) = word_place n
word_handle (of_onhandle.Area n) = word_area n

abbrev pub word_text : OnText → List ℕ
word_text of_ontext.SetTitle = codes "set-title"
word_text of_ontext.AliasList = codes "alias-list"
word_text of_ontext.AliasRemove = codes "alias-remove"
word_text of_ontext.AliasGet = codes "alias-get"
word_text of_ontext.AliasAdd = codes "alias-add"

abbrev pub word : Name → List ℕ
word (of_name.Bare n) = word_bare n
word (of_name.Handle n) = word_handle n
word (of_name.Text n) = word_text n
word of_name.Ignore = codes "ignore"

-- the kinds of its arguments, behind those that it begins with
abbrev pub kinds_bare : Bare → List Kind
kinds_bare of_bare.Title = []
kinds_bare of_bare.HistoryInfo = []
kinds_bare of_bare.HistoryList = []
kinds_bare of_bare.HistoryClear = []
kinds_bare of_bare.Processes = []

abbrev pub kinds_number : OnNumber → List Kind
kinds_number of_onnumber.Duplicate = []
kinds_number of_onnumber.SetMode = []
kinds_number of_onnumber.Peek = []
kinds_number of_onnumber.Signal = []
kinds_number of_onnumber.SetSize = number ∷ []
kinds_number of_onnumber.SetHistory = number ∷ []
kinds_number of_onnumber.SetCursorInfo = flag ∷ []

abbrev pub kinds_run : OnRun → List Kind
kinds_run of_onrun.RunReadUnits = []
kinds_run of_onrun.RunReadAttrs = []
kinds_run of_onrun.FillUnits = unit ∷ []
kinds_run of_onrun.FillAttrs = unit ∷ []

abbrev pub kinds_place : OnPlace → List Kind
kinds_place of_onplace.SetCursor = []
kinds_place of_onplace.SetOrigin = []
kinds_place of_onplace.RunWriteUnits = text ∷ []
kinds_place of_onplace.RunWriteAttrs = list ∷ []
kinds_place (of_onplace.Run n) = number ∷ kinds_run n

abbrev pub kinds_area : OnArea → List Kind
kinds_area of_onarea.RectRead = []
kinds_area of_onarea.RectWrite = text ∷ words ∷ []
kinds_area of_onarea.Scroll = clip ∷ signed ∷ signed ∷ unit ∷ unit ∷ []

abbrev pub kinds_handle : OnHandle → List Kind
kinds_handle of_onhandle.BufferCreate = []
kinds_handle of_onhandle.OpenOut = []
kinds_handle of_onhandle.OpenIn = []
kinds_handle of_onhandle.Close = []
kinds_handle of_onhandle.Activate = []
kinds_handle of_onhandle.Mode = []
kinds_handle of_onhandle.Info = []
kinds_handle of_onhandle.CursorInfo = []
kinds_handle of_onhandle.Count = []
kinds_handle of_onhandle.Flush = []
kinds_handle of_onhandle.HandlerAdd = []
kinds_handle of_onhandle.HandlerRemove = []
kinds_handle of_onhandle.SetAttr = unit ∷ []
kinds_handle of_onhandle.Write = text ∷ []
kinds_handle of_onhandle.WriteInput = records ∷ []
kinds_handle (of_onhandle.Number n) = number ∷ kinds_number n
kinds_handle (of_onhandle.Place n) = signed ∷ signed ∷ kinds_place n
kinds_handle (of_onhandle.Area n) = rect ∷ kinds_area n

abbrev pub kinds_text : OnText → List Kind
kinds_text of_ontext.SetTitle = []
kinds_text of_ontext.AliasList = []
kinds_text of_ontext.AliasRemove = text ∷ []
kinds_text of_ontext.AliasGet = text ∷ []
kinds_text of_ontext.AliasAdd = text ∷ text ∷ []

abbrev pub kinds : Name → List Kind
kinds (of_name.Bare n) = kinds_bare n
kinds (of_name.Handle n) = number ∷ kinds_handle n
kinds (of_name.Text n) = text ∷ kinds_text n
kinds of_name.Ignore = flag ∷ []

-- arguments before those that are read
abbrev pub before : List Arg → Option (List Arg × List Item) → Option (List Arg × List Item)
before [] o = o
before (a ∷ xs) o = option_map (λ p. (a ∷ p.0, p.1)) (before xs o)

-- what stands beside a name in a list
unfoldable pub looked_up : List ℕ → List (Bor (List ℕ) × Name) → Option Name
looked_up n [] = None
looked_up n (w ∷ ws) = if bytes_eq n w.0.now then Some w.1 else looked_up n ws
