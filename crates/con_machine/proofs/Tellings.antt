-- A call that tells something leaves the console as it was.
use Rattle.std.proofs.Common.{◌≡◌, ℕ, Bool, true, false, List, Option, Some, None, Result, Ok, Err, refl, sym, ap, ◌∙◌}
use Rattle.std.specs.Prelude.{if◌then◌else◌, pos, length, map, min}
use Rattle.con_units.specs.declared.code.Code.{Code}
use Rattle.con_units.specs.declared.code.Code.TheVariants as code
use Rattle.con_units.specs.declared.place.Rect.{Rect}
use Rattle.con_events.specs.declared.call.Words.{Words}
use Rattle.con_events.specs.declared.call.Call.{Call}
use Rattle.con_events.specs.declared.call.Call.TheVariants as calls
use Rattle.con_events.specs.declared.reply.Reply.{Reply}
use Rattle.con_events.specs.declared.reply.Reply.TheVariants as replies
use Rattle.con_handles.specs.declared.handle.Kind.TheVariants as kind
use Rattle.con_handles.specs.declared.handle.Object.{Object}
use Rattle.con_procs.specs.Procs.{ids_of, program_of}
use Rattle.con_page.specs.Setters.{info_of}
use Rattle.con_alias.specs.Aliases.{Entry, alias_at, entries_in}
use Rattle.con_history.specs.Histories.{lines_of}
use Rattle.con_machine.specs.State.{State}
use Rattle.con_machine.specs.Outcome.{Outcome, refused, answered, while_open, guard, buffer_of}
use Rattle.con_machine.specs.Words.Outcome.{with_object}
use Rattle.con_machine.specs.Call.{called}
use Rattle.con_machine.specs.ScreenCalls.{mode_in, page_of}
use Rattle.con_machine.specs.Words.ScreenCalls.{numbers_of, cursor_numbers, set_size}
use Rattle.con_machine.specs.CellCalls.{cells_of, run_told, at_place}
use Rattle.con_machine.specs.Words.CellCalls.{rect_told, wrote_rect}
use Rattle.con_machine.specs.InputCalls.{peek_told}
use Rattle.con_machine.specs.LineCalls.{info_numbers, pair_of, told_alias_in, added_alias, removed_alias}

abbrev pub is_telling : Call → Bool
is_telling (calls.Mode h) = true
is_telling (calls.Info h) = true
is_telling (calls.CursorInfo h) = true
is_telling calls.Title = true
is_telling (calls.RectRead h rect) = true
is_telling (calls.RunReadUnits h x y n) = true
is_telling (calls.RunReadAttrs h x y n) = true
is_telling (calls.Peek h n) = true
is_telling (calls.Count h) = true
is_telling calls.HistoryInfo = true
is_telling calls.HistoryList = true
is_telling (calls.AliasGet program source) = true
is_telling (calls.AliasList program) = true
is_telling calls.Processes = true
is_telling _ = false

by_handle : (s : State) (r : Result Object Code) (f : Object → Reply) → s ≡ (with_object s r (λ o. answered s (f o))).after
by_handle s (Err why) f = refl
by_handle s (Ok o) f = refl

by_open : (s : State) (o : Outcome) → s ≡ o.after → s ≡ (while_open s o).after
by_open s o e = either s.closed
  where
    either : (b : Bool) → s ≡ (if b then refused s code.Closed else o).after
    either true = refl
    either false = e

by_alias : (s : State) (e : Option Entry) → s ≡ (told_alias_in s e).after
by_alias s None = refl
by_alias s (Some e) = refl

pub told_same : (s : State) (p : ℕ) (x : Call) → is_telling x ≡ true → s ≡ (called s p x).after
unfolding called
told_same s p (calls.Mode h) t = by_handle s (guard s p h kind.Any 1) (λ o. replies.Number (mode_in s o))
told_same s p (calls.Info h) t = by_handle s (guard s p h kind.Output 1) (λ o. replies.Numbers (numbers_of (info_of (page_of s (buffer_of o)))))
told_same s p (calls.CursorInfo h) t =
    by_handle s (guard s p h kind.Output 1) (λ o. replies.Numbers (cursor_numbers (page_of s (buffer_of o)).cursor_size (page_of s (buffer_of o)).visible))
told_same s p calls.Title t = by_open s (answered s (replies.Units s.title)) refl
told_same s p (calls.RectRead h rect) t = by_handle s (guard s p h kind.Output 1) (λ o. rect_told (cells_of s (buffer_of o)) rect)
told_same s p (calls.RunReadUnits h x y n) t = by_handle s (guard s p h kind.Output 1)
    (λ o. run_told (cells_of s (buffer_of o)) (at_place x y) n (λ g. g.unit))
told_same s p (calls.RunReadAttrs h x y n) t = by_handle s (guard s p h kind.Output 1)
    (λ o. run_told (cells_of s (buffer_of o)) (at_place x y) n (λ g. g.attr.word))
told_same s p (calls.Peek h n) t = by_handle s (guard s p h kind.Input 1) (λ o. peek_told s.records n)
told_same s p (calls.Count h) t = by_handle s (guard s p h kind.Input 1) (λ o. replies.Number (min (length s.records) 4294967295))
told_same s p calls.HistoryInfo t = by_open s (answered s (replies.Numbers (info_numbers s.histories.info))) refl
told_same s p calls.HistoryList t = by_open s (answered s (replies.Lines (lines_of s.histories (program_of s.procs p)))) refl
told_same s p (calls.AliasGet program source) t = by_open s (told_alias_in s (alias_at s.aliases program source))
    (by_alias s (alias_at s.aliases program source))
told_same s p (calls.AliasList program) t = by_open s (answered s (replies.Lines (map pair_of (entries_in s.aliases program)))) refl
told_same s p calls.Processes t = by_open s (answered s (replies.Numbers (map (λ id. pos id) (ids_of s.procs)))) refl
told_same s p x t = absurd (cc)

-- ---- rows of the table by their names

pub is_after : (s t : State) (p : ℕ) (x y : Call) (o : Outcome) → x ≡ y → called s p y ≡ o → t ≡ o.after → t ≡ (called s p x).after
is_after s t p x y o is row e = e ∙ ap (λ (k : Outcome). k.after) (sym row) ∙ ap (λ (z : Call). (called s p z).after) (sym is)

pub is_reply : (s : State) (r : Reply) (p : ℕ) (x y : Call) (o : Outcome) → x ≡ y → called s p y ≡ o → r ≡ o.reply → r ≡ (called s p x).reply
is_reply s r p x y o is row e = e ∙ ap (λ (k : Outcome). k.reply) (sym row) ∙ ap (λ (z : Call). (called s p z).reply) (sym is)

pub size_row : (s : State) (p handle w h : ℕ) → called s p (calls.SetSize handle w h) ≡ set_size s p handle w h
unfolding called
size_row s p handle w h = refl

pub rect_row : (s : State) (p h : ℕ) (r : Rect) (us : List ℕ) (ws : Words) → called s p (calls.RectWrite h r us ws) ≡ wrote_rect s p h r us ws
unfolding called
rect_row s p h r us ws = refl

pub add_row : (s : State) (p : ℕ) (program source target : List ℕ) → called s p (calls.AliasAdd program source target) ≡ added_alias s program source target
unfolding called
add_row s p program source target = refl

pub remove_row : (s : State) (p : ℕ) (program source : List ℕ) → called s p (calls.AliasRemove program source) ≡ removed_alias s program source
unfolding called
remove_row s p program source = refl
