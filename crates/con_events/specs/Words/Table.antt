-- The words of the code and of laws about Table, which a reader need not believe.
use Rattle.std.specs.Prelude.{◌≡◌, map, ℕ, zero, suc, List, [], ◌∷◌, Option, None, Some, codes, if◌then◌else◌}
use Rattle.std.specs.Str.{bytes_eq}
use Rattle.con_events.specs.declared.call.Call.{Call}
use Rattle.con_events.specs.declared.call.Call.TheVariants as call
use Rattle.con_events.specs.Arg.{Arg, Number}
use Rattle.con_events.specs.Words.Arg.{kind_of, Kind, number, signed, unit, flag, text, rect, clip, words, list, records, the_number, the_signed, the_flag, the_list, the_rect, the_clip, the_words, the_records}
use Rattle.con_events.specs.Table.{spelled}

abbrev pub name_of : Call → List ℕ
name_of c = (spelled c).0

abbrev pub args_of : Call → List Arg
args_of c = (spelled c).1

-- the argument at a place
abbrev pub nth : ℕ → List Arg → Arg
nth n [] = Number 0
nth zero (a ∷ xs) = a
nth (suc n) (a ∷ xs) = nth n xs

-- a name, the kinds of the arguments in order, and what they make
pub record Row (A : Type 0) : Type 0 where
  pub name : List ℕ
  pub kinds : List Kind
  pub make : List Arg → A

abbrev pub row : {A : Type 0} → List ℕ → List Kind → (List Arg → A) → Row A
row n ks f = record { name = n; kinds = ks; make = f }

-- the row of a name in a list, or else another
abbrev pub find : {A : Type 0} → List ℕ → List (Row A) → Option (Row A) → Option (Row A)
find n [] other = other
find n (r ∷ rs) other = if bytes_eq n r.name then Some r else find n rs other

abbrev pub processes_rows : List (Row Call)
processes_rows = row (codes "processes") ([]) (λ xs. call.Processes)
    ∷ row (codes "signal") (number ∷ number ∷ []) (λ xs. call.Signal (the_number (nth 0 xs)) (the_number (nth 1 xs)))
    ∷ row (codes "ignore") (flag ∷ []) (λ xs. call.Ignore (the_flag (nth 0 xs)))
    ∷ row (codes "handler-add") (number ∷ []) (λ xs. call.HandlerAdd (the_number (nth 0 xs)))
    ∷ row (codes "handler-remove") (number ∷ []) (λ xs. call.HandlerRemove (the_number (nth 0 xs)))
    ∷ []

unfoldable pub row_of_processes : List ℕ → Option (Row Call)
row_of_processes n = find n processes_rows None

abbrev pub lines_rows : List (Row Call)
lines_rows = row (codes "peek") (number ∷ number ∷ []) (λ xs. call.Peek (the_number (nth 0 xs)) (the_number (nth 1 xs)))
    ∷ row (codes "write-input") (number ∷ records ∷ []) (λ xs. call.WriteInput (the_number (nth 0 xs)) (the_records (nth 1 xs)))
    ∷ row (codes "count") (number ∷ []) (λ xs. call.Count (the_number (nth 0 xs)))
    ∷ row (codes "flush") (number ∷ []) (λ xs. call.Flush (the_number (nth 0 xs)))
    ∷ row (codes "history-info") ([]) (λ xs. call.HistoryInfo)
    ∷ row (codes "set-history") (number ∷ number ∷ number ∷ []) (λ xs. call.SetHistory (the_number (nth 0 xs)) (the_number (nth 1 xs)) (the_number (nth 2 xs)))
    ∷ row (codes "history-list") ([]) (λ xs. call.HistoryList)
    ∷ row (codes "history-clear") ([]) (λ xs. call.HistoryClear)
    ∷ row (codes "alias-add") (text ∷ text ∷ text ∷ []) (λ xs. call.AliasAdd (the_list (nth 0 xs)) (the_list (nth 1 xs)) (the_list (nth 2 xs)))
    ∷ row (codes "alias-remove") (text ∷ text ∷ []) (λ xs. call.AliasRemove (the_list (nth 0 xs)) (the_list (nth 1 xs)))
    ∷ row (codes "alias-get") (text ∷ text ∷ []) (λ xs. call.AliasGet (the_list (nth 0 xs)) (the_list (nth 1 xs)))
    ∷ row (codes "alias-list") (text ∷ []) (λ xs. call.AliasList (the_list (nth 0 xs)))
    ∷ []

unfoldable pub row_of_lines : List ℕ → Option (Row Call)
row_of_lines n = find n lines_rows (row_of_processes n)

abbrev pub cells_rows : List (Row Call)
cells_rows = row (codes "write") (number ∷ text ∷ []) (λ xs. call.Write (the_number (nth 0 xs)) (the_list (nth 1 xs)))
    ∷ row (codes "rect-read") (number ∷ rect ∷ []) (λ xs. call.RectRead (the_number (nth 0 xs)) (the_rect (nth 1 xs)))
    ∷ row (codes "rect-write") (number ∷ rect ∷ text ∷ words ∷ [])
    (λ xs. call.RectWrite (the_number (nth 0 xs)) (the_rect (nth 1 xs)) (the_list (nth 2 xs)) (the_words (nth 3 xs)))
    ∷ row (codes "run-read-units") (number ∷ signed ∷ signed ∷ number ∷ [])
    (λ xs. call.RunReadUnits (the_number (nth 0 xs)) (the_signed (nth 1 xs)) (the_signed (nth 2 xs)) (the_number (nth 3 xs)))
    ∷ row (codes "run-read-attrs") (number ∷ signed ∷ signed ∷ number ∷ [])
    (λ xs. call.RunReadAttrs (the_number (nth 0 xs)) (the_signed (nth 1 xs)) (the_signed (nth 2 xs)) (the_number (nth 3 xs)))
    ∷ row (codes "run-write-units") (number ∷ signed ∷ signed ∷ text ∷ [])
    (λ xs. call.RunWriteUnits (the_number (nth 0 xs)) (the_signed (nth 1 xs)) (the_signed (nth 2 xs)) (the_list (nth 3 xs)))
    ∷ row (codes "run-write-attrs") (number ∷ signed ∷ signed ∷ list ∷ [])
    (λ xs. call.RunWriteAttrs (the_number (nth 0 xs)) (the_signed (nth 1 xs)) (the_signed (nth 2 xs)) (the_list (nth 3 xs)))
    ∷ row (codes "fill-units") (number ∷ signed ∷ signed ∷ number ∷ unit ∷ [])
    (λ xs. call.FillUnits (the_number (nth 0 xs)) (the_signed (nth 1 xs)) (the_signed (nth 2 xs)) (the_number (nth 3 xs)) (the_number (nth 4 xs)))
    ∷ row (codes "fill-attrs") (number ∷ signed ∷ signed ∷ number ∷ unit ∷ [])
    (λ xs. call.FillAttrs (the_number (nth 0 xs)) (the_signed (nth 1 xs)) (the_signed (nth 2 xs)) (the_number (nth 3 xs)) (the_number (nth 4 xs)))
    ∷ row (codes "scroll") (number ∷ rect ∷ clip ∷ signed ∷ signed ∷ unit ∷ unit ∷ [])
    (λ xs. call.Scroll (the_number (nth 0 xs)) (the_rect (nth 1 xs)) (the_clip (nth 2 xs))
    (the_signed (nth 3 xs)) (the_signed (nth 4 xs)) (the_number (nth 5 xs)) (the_number (nth 6 xs)))
    ∷ []

unfoldable pub row_of_cells : List ℕ → Option (Row Call)
row_of_cells n = find n cells_rows (row_of_lines n)

abbrev pub screens_rows : List (Row Call)
screens_rows = row (codes "info") (number ∷ []) (λ xs. call.Info (the_number (nth 0 xs)))
    ∷ row (codes "set-size") (number ∷ number ∷ number ∷ []) (λ xs. call.SetSize (the_number (nth 0 xs)) (the_number (nth 1 xs)) (the_number (nth 2 xs)))
    ∷ row (codes "set-cursor") (number ∷ signed ∷ signed ∷ []) (λ xs. call.SetCursor (the_number (nth 0 xs)) (the_signed (nth 1 xs)) (the_signed (nth 2 xs)))
    ∷ row (codes "cursor-info") (number ∷ []) (λ xs. call.CursorInfo (the_number (nth 0 xs)))
    ∷ row (codes "set-cursor-info") (number ∷ number ∷ flag ∷ [])
    (λ xs. call.SetCursorInfo (the_number (nth 0 xs)) (the_number (nth 1 xs)) (the_flag (nth 2 xs)))
    ∷ row (codes "set-origin") (number ∷ signed ∷ signed ∷ []) (λ xs. call.SetOrigin (the_number (nth 0 xs)) (the_signed (nth 1 xs)) (the_signed (nth 2 xs)))
    ∷ row (codes "set-attr") (number ∷ unit ∷ []) (λ xs. call.SetAttr (the_number (nth 0 xs)) (the_number (nth 1 xs)))
    ∷ row (codes "title") ([]) (λ xs. call.Title)
    ∷ row (codes "set-title") (text ∷ []) (λ xs. call.SetTitle (the_list (nth 0 xs)))
    ∷ []

unfoldable pub row_of_screens : List ℕ → Option (Row Call)
row_of_screens n = find n screens_rows (row_of_cells n)

abbrev pub handles_rows : List (Row Call)
handles_rows = row (codes "buffer-create") (number ∷ []) (λ xs. call.BufferCreate (the_number (nth 0 xs)))
    ∷ row (codes "open-out") (number ∷ []) (λ xs. call.OpenOut (the_number (nth 0 xs)))
    ∷ row (codes "open-in") (number ∷ []) (λ xs. call.OpenIn (the_number (nth 0 xs)))
    ∷ row (codes "close") (number ∷ []) (λ xs. call.Close (the_number (nth 0 xs)))
    ∷ row (codes "duplicate") (number ∷ number ∷ []) (λ xs. call.Duplicate (the_number (nth 0 xs)) (the_number (nth 1 xs)))
    ∷ row (codes "activate") (number ∷ []) (λ xs. call.Activate (the_number (nth 0 xs)))
    ∷ row (codes "mode") (number ∷ []) (λ xs. call.Mode (the_number (nth 0 xs)))
    ∷ row (codes "set-mode") (number ∷ number ∷ []) (λ xs. call.SetMode (the_number (nth 0 xs)) (the_number (nth 1 xs)))
    ∷ []

unfoldable pub row_of_handles : List ℕ → Option (Row Call)
row_of_handles n = find n handles_rows (row_of_screens n)

-- the row of a name
abbrev pub row_of : List ℕ → Option (Row Call)
row_of n = row_of_handles n

-- what a row tells of a call
abbrev pub Tells : Call → Option (Row Call) → Type 0
Tells c None = ⊥
Tells c (Some r) = (r.kinds ≡ map kind_of (args_of c)) × (r.make (args_of c) ≡ c)
