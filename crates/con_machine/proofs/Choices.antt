-- What a call comes to, where its tests pass.
use Rattle.std.proofs.Common.{◌≡◌, ℕ, Bool, true, false, List, Result, Ok, Err, refl, sym, ap, ◌∙◌}
use Rattle.std.specs.Prelude.{if◌then◌else◌, nat_lt, OnOk, OnErr}
use Rattle.con_units.specs.declared.code.Code.{Code}
use Rattle.con_units.specs.declared.code.Code.TheVariants as code
use Rattle.con_units.specs.declared.place.Rect.{Rect}
use Rattle.con_units.specs.declared.view.BufferId.{BufferId}
use Rattle.con_events.specs.declared.call.Words.{Words}
use Rattle.con_events.specs.declared.reply.Reply.TheVariants as replies
use Rattle.con_handles.specs.declared.handle.Kind.TheVariants as kind
use Rattle.con_handles.specs.declared.handle.Object.{Object}
use Rattle.con_handles.specs.declared.handle.Object.TheVariants as object
use Rattle.con_rects.specs.Rules.{rect_written}
use Rattle.con_screen.specs.ModeSet.{mode_set}
use Rattle.con_screens.specs.Buffers.{Buffers, screen_at}
use Rattle.con_screens.specs.Lending.{screen_left}
use Rattle.con_machine.specs.CellCalls.{are_cells, cells_for, cells_of, with_cells}
use Rattle.con_machine.specs.Words.CellCalls.{rect_answer, sides_of, wrote_rect}
use Rattle.con_machine.specs.Outcome.{Outcome, buffer_of, by_answer, checked, done, guard, on_buffer, refused}
use Rattle.con_machine.specs.Words.Outcome.{by_result, with_object}
use Rattle.con_machine.specs.ScreenCalls.{mode_changed, with_screen}
use Rattle.con_machine.specs.Words.ScreenCalls.{is_size, refitted_at, set_mode, set_size}
use Rattle.con_machine.specs.State.{State}

-- a call on a buffer, where its handle serves
on_live : (s : State) (p h right : ℕ) (id : BufferId) (f : ℕ → Outcome) → guard s p h kind.Output right ≡ Ok (object.Output id)
    → on_buffer s p h right f ≡ f id.0
on_live s p h right id f e = ap (λ (r : Result Object Code). with_object s r (λ o. f (buffer_of o))) e

passed : (b : Bool) (x y : Outcome) → b ≡ true → (if b then x else y) ≡ x
passed true x y e = refl
passed false x y e = absurd (cc)

allowed : (s t : State) (b : Bool) → b ≡ true → by_answer s (checked b) t ≡ done t
allowed s t true e = refl
allowed s t false e = absurd (cc)

pub size_is_set : (s : State) (p handle w h : ℕ) (id : BufferId) → guard s p handle kind.Output 2 ≡ Ok (object.Output id) → is_size s.buffers id.0 w h ≡ true
    → set_size s p handle w h ≡ done (let t : State = record s { buffers = refitted_at s.buffers id.0 w h } in t)
size_is_set s p handle w h id serves fits =
    on_live s p handle 2 id (λ k. by_answer s (checked (is_size s.buffers k w h)) (record s { buffers = refitted_at s.buffers k w h })) serves
    ∙ allowed s (record s { buffers = refitted_at s.buffers id.0 w h }) (is_size s.buffers id.0 w h) fits

abbrev rect_by : State → Rect → List ℕ → Words → ℕ → Outcome
rect_by s r units ws k = by_result s (rect_answer (cells_of s k) r) (with_cells s k (rect_written (cells_of s k) r (cells_for units ws)))
    (λ used. replies.Numbers (sides_of used))

pub rect_is_by : (s : State) (p h : ℕ) (r : Rect) (units : List ℕ) (ws : Words) (id : BufferId) (x : Result Rect Code)
    → guard s p h kind.Output 2 ≡ Ok (object.Output id)
    → are_cells r units ws ≡ true → x ≡ rect_answer (cells_of s id.0) r
    → wrote_rect s p h r units ws ≡ by_result s x (with_cells s id.0 (rect_written (cells_of s id.0) r (cells_for units ws)))
    (λ used. replies.Numbers (sides_of used))
rect_is_by s p h r units ws id x serves full is =
    on_live s p h 2 id (λ k. if are_cells r units ws then rect_by s r units ws k else refused s code.BadArgument) serves
    ∙ passed (are_cells r units ws) (rect_by s r units ws id.0) (refused s code.BadArgument) full
    ∙ ap (λ (y : Result Rect Code). by_result s y (with_cells s id.0 (rect_written (cells_of s id.0) r (cells_for units ws)))
    (λ used. replies.Numbers (sides_of used))) (sym is)

-- a mode of a buffer, set or refused
pub mode_is_set : (s : State) (p h n : ℕ) (id : BufferId) (b : Buffers) (r : Result (Unit {0}) Code) → guard s p h kind.Any 2 ≡ Ok (object.Output id)
    → r ≡ checked (nat_lt n 0x10) → OnOk r (b ≡ screen_left s.buffers id.0 (mode_set (screen_at s.buffers id.0) n)) → OnErr r (b ≡ s.buffers)
    → record s { buffers = b } ≡ (set_mode s p h n).after
mode_is_set s p h n id b r serves is ok err =
    by_answered r ok err
    ∙ ap (λ (x : Result (Unit {0}) Code). (by_answer s x (with_screen s id.0 (mode_set (screen_at s.buffers id.0) n))).after) is
    ∙ sym (ap (λ (x : Result Object Code). (with_object s x (mode_changed s n)).after) serves)
  where
    by_answered : (x : Result (Unit {0}) Code) → OnOk x (b ≡ screen_left s.buffers id.0 (mode_set (screen_at s.buffers id.0) n)) → OnErr x (b ≡ s.buffers)
        → record s { buffers = b } ≡ (by_answer s x (with_screen s id.0 (mode_set (screen_at s.buffers id.0) n))).after
    by_answered (Err why) ok err = ap (λ (y : Buffers). record s { buffers = y }) err
    by_answered (Ok u) ok err = ap (λ (y : Buffers). record s { buffers = y }) ok
