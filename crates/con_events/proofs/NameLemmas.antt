-- A call is read by what its name stands for.
use Rattle.std.proofs.Common.{◌≡◌, refl, sym, subst, ℕ, List, [], ◌∷◌, Option, None, Some, Result, Ok, Err, Bool, true, false, Bor, ◌++◌, ◌∙◌}
use Rattle.std.specs.Prelude.{if◌then◌else◌, IfSome, IfNone, IfOk, IfErr}
use Rattle.std.specs.Str.{bytes_eq}
use Rattle.std.proofs.lemmas.Slice.Eq.{bytes_eq-Decides}
use Rattle.con_events.specs.declared.call.Call.{Call}
use Rattle.con_events.specs.declared.names.Bare.TheVariants as of_bare
use Rattle.con_events.specs.declared.names.OnNumber.TheVariants as of_onnumber
use Rattle.con_events.specs.declared.names.OnRun.TheVariants as of_onrun
use Rattle.con_events.specs.declared.names.OnPlace.TheVariants as of_onplace
use Rattle.con_events.specs.declared.names.OnArea.TheVariants as of_onarea
use Rattle.con_events.specs.declared.names.OnHandle.TheVariants as of_onhandle
use Rattle.con_events.specs.declared.names.OnText.TheVariants as of_ontext
use Rattle.con_events.specs.declared.names.Name.{Name}
use Rattle.con_events.specs.declared.names.Name.TheVariants as of_name
use Rattle.con_events.specs.Words.Arg.{Kind}
use Rattle.con_events.specs.Names.{word, kinds, looked_up}
use Rattle.con_events.specs.Words.Table.{name_of, args_of, Row, find, row_of, Tells, row_of_handles, row_of_screens, row_of_cells, row_of_lines, row_of_processes, handles_rows, screens_rows, cells_rows, lines_rows, processes_rows}
use Rattle.con_events.specs.TableLaws.{row_tells}
use Rattle.con_events.specs.Reading.{Item, args_from, row_from, call_from, IsForm}
use Rattle.con_events.specs.declared.arguments.Misread.{Misread}

abbrev HasKinds : List Kind → Option (Row Call) → Type 0
HasKinds ks None = ⊥
HasKinds ks (Some r) = r.kinds ≡ ks

-- the row of a name has the kinds of what the name stands for
has_kinds : (n : Name) → HasKinds (kinds n) (row_of (word n))
unfolding row_of_handles row_of_screens row_of_cells row_of_lines row_of_processes
has_kinds (of_name.Bare of_bare.Title) = refl
has_kinds (of_name.Bare of_bare.HistoryInfo) = refl
has_kinds (of_name.Bare of_bare.HistoryList) = refl
has_kinds (of_name.Bare of_bare.HistoryClear) = refl
has_kinds (of_name.Bare of_bare.Processes) = refl
has_kinds (of_name.Handle of_onhandle.BufferCreate) = refl
has_kinds (of_name.Handle of_onhandle.OpenOut) = refl
has_kinds (of_name.Handle of_onhandle.OpenIn) = refl
has_kinds (of_name.Handle of_onhandle.Close) = refl
has_kinds (of_name.Handle of_onhandle.Activate) = refl
has_kinds (of_name.Handle of_onhandle.Mode) = refl
has_kinds (of_name.Handle of_onhandle.Info) = refl
has_kinds (of_name.Handle of_onhandle.CursorInfo) = refl
has_kinds (of_name.Handle of_onhandle.Count) = refl
has_kinds (of_name.Handle of_onhandle.Flush) = refl
has_kinds (of_name.Handle of_onhandle.HandlerAdd) = refl
has_kinds (of_name.Handle of_onhandle.HandlerRemove) = refl
has_kinds (of_name.Handle of_onhandle.SetAttr) = refl
has_kinds (of_name.Handle of_onhandle.Write) = refl
has_kinds (of_name.Handle of_onhandle.WriteInput) = refl
has_kinds (of_name.Handle (of_onhandle.Number of_onnumber.Duplicate)) = refl
has_kinds (of_name.Handle (of_onhandle.Number of_onnumber.SetMode)) = refl
has_kinds (of_name.Handle (of_onhandle.Number of_onnumber.Peek)) = refl
has_kinds (of_name.Handle (of_onhandle.Number of_onnumber.Signal)) = refl
has_kinds (of_name.Handle (of_onhandle.Number of_onnumber.SetSize)) = refl
has_kinds (of_name.Handle (of_onhandle.Number of_onnumber.SetHistory)) = refl
has_kinds (of_name.Handle (of_onhandle.Number of_onnumber.SetCursorInfo)) = refl
has_kinds (of_name.Handle (of_onhandle.Place of_onplace.SetCursor)) = refl
has_kinds (of_name.Handle (of_onhandle.Place of_onplace.SetOrigin)) = refl
has_kinds (of_name.Handle (of_onhandle.Place of_onplace.RunWriteUnits)) = refl
has_kinds (of_name.Handle (of_onhandle.Place of_onplace.RunWriteAttrs)) = refl
has_kinds (of_name.Handle (of_onhandle.Place (of_onplace.Run of_onrun.RunReadUnits))) = refl
has_kinds (of_name.Handle (of_onhandle.Place (of_onplace.Run of_onrun.RunReadAttrs))) = refl
has_kinds (of_name.Handle (of_onhandle.Place (of_onplace.Run of_onrun.FillUnits))) = refl
has_kinds (of_name.Handle (of_onhandle.Place (of_onplace.Run of_onrun.FillAttrs))) = refl
has_kinds (of_name.Handle (of_onhandle.Area of_onarea.RectRead)) = refl
has_kinds (of_name.Handle (of_onhandle.Area of_onarea.RectWrite)) = refl
has_kinds (of_name.Handle (of_onhandle.Area of_onarea.Scroll)) = refl
has_kinds (of_name.Text of_ontext.SetTitle) = refl
has_kinds (of_name.Text of_ontext.AliasList) = refl
has_kinds (of_name.Text of_ontext.AliasRemove) = refl
has_kinds (of_name.Text of_ontext.AliasGet) = refl
has_kinds (of_name.Text of_ontext.AliasAdd) = refl
has_kinds of_name.Ignore = refl

made : (c : Call) (ks : List Kind) (o : Option (Row Call)) (ds rest : List Item) → HasKinds ks o → Tells c o → args_from ks ds ≡ Some (args_of c, rest)
    → row_from o ds ≡ Some (c, rest)
made c ks None ds rest h t e = absurd h
made c ks (Some r) ds rest h t e = rw (h, e, t.1) refl

not_made : (ks : List Kind) (o : Option (Row Call)) (ds : List Item) → HasKinds ks o → args_from ks ds ≡ None → row_from o ds ≡ None
not_made ks None ds h e = absurd h
not_made ks (Some r) ds h e = rw (h, e) refl

-- a call of this name with the arguments that were read is what is read
pub call_read : (n : Name) (name : List ℕ) (ds rest : List Item) (o : Result Call Misread) → word n ≡ name
    → IfOk o (λ c. (name_of c ≡ word n) × (args_from (kinds n) ds ≡ Some (args_of c, rest))) → IfOk o (λ c. call_from name ds ≡ Some (c, rest))
call_read n name ds rest (Ok c) is h = subst (λ (w : List ℕ). row_from (row_of w) ds ≡ Some (c, rest)) is
    (made c (kinds n) (row_of (word n)) ds rest (has_kinds n) (subst (λ (w : List ℕ). Tells c (row_of w)) h.0 (row_tells c)) h.1)
call_read n name ds rest (Err e) is h = tt

pub call_not_read : (n : Name) (name : List ℕ) (ds : List Item) (o : Result Call Misread) → word n ≡ name
    → IfErr o (λ e. IsForm e → args_from (kinds n) ds ≡ None) → IfErr o (λ e. IsForm e → call_from name ds ≡ None)
call_not_read n name ds (Ok c) is h = tt
call_not_read n name ds (Err e) is h = λ f. subst (λ (w : List ℕ). row_from (row_of w) ds ≡ None) is (not_made (kinds n) (row_of (word n)) ds (has_kinds n) (h f))

-- ---- the list of names

-- each name is that of what stands beside it
abbrev pub are_words : List (Bor (List ℕ) × Name) → Bool
are_words [] = true
are_words (w ∷ ws) = if bytes_eq (word w.1) w.0.now then are_words ws else false

-- names begin with those of some rows
abbrev pub begins : List (Row Call) → List (Bor (List ℕ) × Name) → Bool
begins [] ws = true
begins (r ∷ rs) [] = false
begins (r ∷ rs) (w ∷ ws) = if bytes_eq r.name w.0.now then begins rs ws else false

-- and what stands behind them
abbrev pub behind : List (Row Call) → List (Bor (List ℕ) × Name) → List (Bor (List ℕ) × Name)
behind [] ws = ws
behind (r ∷ rs) [] = []
behind (r ∷ rs) (w ∷ ws) = behind rs ws

-- both parts of a test hold
both : (b c : Bool) → (if b then c else false) ≡ true → (b ≡ true) × (c ≡ true)
both true c e = (refl, e)
both false c e = absurd cc

found_by : (b : Bool) (n : List ℕ) (x : Name) (o : Option Name) (m : Name) → (b ≡ true → word x ≡ n) → (o ≡ Some m → word m ≡ n)
    → (if b then Some x else o) ≡ Some m → word m ≡ n
found_by true n x o m same next e = subst (λ (y : Name). word y ≡ n) (let q : x ≡ m = cc in q) (same refl)
found_by false n x o m same next e = next e

found : (n : List ℕ) (ws : List (Bor (List ℕ) × Name)) (m : Name) → are_words ws ≡ true → looked_up n ws ≡ Some m → word m ≡ n
unfolding looked_up
found n [] m all e = absurd cc
found n (w ∷ ws) m all e =
    let k : (bytes_eq (word w.1) w.0.now ≡ true) × (are_words ws ≡ true) = both (bytes_eq (word w.1) w.0.now) (are_words ws) all in
    found_by (bytes_eq n w.0.now) n w.1 (looked_up n ws) m
    (λ h. (bytes_eq-Decides (word w.1) w.0.now).0 k.0 ∙ sym ((bytes_eq-Decides n w.0.now).0 h)) (found n ws m k.1) e

missing_by : (b : Bool) (r : Row Call) (x : Name) (o : Option Name) (p : Option (Row Call)) → (o ≡ None → p ≡ None)
    → (if b then Some x else o) ≡ None → (if b then Some r else p) ≡ None
missing_by true r x o p next e = absurd cc
missing_by false r x o p next e = next e

missing : (n : List ℕ) (rs : List (Row Call)) (ws : List (Bor (List ℕ) × Name)) (other : Option (Row Call)) → begins rs ws ≡ true
    → (looked_up n (behind rs ws) ≡ None → other ≡ None) → looked_up n ws ≡ None → find n rs other ≡ None
unfolding looked_up
missing n [] ws other b next e = next e
missing n (r ∷ rs) [] other b next e = absurd cc
missing n (r ∷ rs) (w ∷ ws) other b next e =
    let k : (bytes_eq r.name w.0.now ≡ true) × (begins rs ws ≡ true) = both (bytes_eq r.name w.0.now) (begins rs ws) b in
    missing_by (bytes_eq n r.name) r w.1 (looked_up n ws) (find n rs other) (missing n rs ws other k.1 next)
    (subst (λ (x : List ℕ). (if bytes_eq n x then Some w.1 else looked_up n ws) ≡ None) (sym ((bytes_eq-Decides r.name w.0.now).0 k.0)) e)

-- the names are those of the table
abbrev pub is_table : List (Bor (List ℕ) × Name) → Bool
is_table ws = begins (handles_rows ++ screens_rows ++ cells_rows ++ lines_rows ++ processes_rows) ws

find_on : (n : List ℕ) (rs qs : List (Row Call)) (other : Option (Row Call)) → find n (rs ++ qs) other ≡ find n rs (find n qs other)
find_on n [] qs other = refl
find_on n (r ∷ rs) qs other = by_test (bytes_eq n r.name) (find_on n rs qs other)
  where
    by_test : (b : Bool) → find n (rs ++ qs) other ≡ find n rs (find n qs other)
        → (if b then Some r else find n (rs ++ qs) other) ≡ (if b then Some r else find n rs (find n qs other))
    by_test true e = refl
    by_test false e = e

no_row_of : (n : List ℕ) (ws : List (Bor (List ℕ) × Name)) → is_table ws ≡ true → looked_up n ws ≡ None → row_of n ≡ None
unfolding row_of_handles row_of_screens row_of_cells row_of_lines row_of_processes
no_row_of n ws t e = rw (
  ← find_on n lines_rows processes_rows None,
  ← find_on n cells_rows (lines_rows ++ processes_rows) None,
  ← find_on n screens_rows (cells_rows ++ lines_rows ++ processes_rows) None,
  ← find_on n handles_rows (screens_rows ++ cells_rows ++ lines_rows ++ processes_rows) None,
)
    (missing n (handles_rows ++ screens_rows ++ cells_rows ++ lines_rows ++ processes_rows) ws None t (λ h. refl) e)

-- what is found in the list is what the name stands for, and what is not there is no name
pub named : (n : List ℕ) (o : Option Name) (ws : List (Bor (List ℕ) × Name)) → o ≡ looked_up n ws → are_words ws ≡ true → is_table ws ≡ true
    → record { some : IfSome o (λ m. word m ≡ n); none : IfNone o (row_of n ≡ None) }
named n None ws e words table = record { some = tt; none = no_row_of n ws table (sym e) }
named n (Some m) ws e words table = record { some = found n ws m words (sym e); none = tt }
