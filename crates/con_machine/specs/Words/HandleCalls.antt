-- The words of the code and of laws about HandleCalls, which a reader need not believe.
use Rattle.std.specs.Prelude.{ℕ, Result, Err, if◌then◌else◌}
use Rattle.con_units.specs.declared.code.Code.{Code}
use Rattle.con_units.specs.declared.code.Code.TheVariants as code
use Rattle.con_handles.specs.Handles.{new_number, object_of, without}
use Rattle.con_handles.specs.declared.handle.Object.{Object}
use Rattle.con_handles.specs.declared.handle.Object.TheVariants as object
use Rattle.con_handles.specs.declared.handle.Kind.TheVariants as kind
use Rattle.con_screens.specs.Buffers.{Buffers, free_id, handle_retained, handle_released}
use Rattle.con_machine.specs.State.{State, id_of}
use Rattle.con_machine.specs.Words.State.{without_rest}
use Rattle.con_machine.specs.Outcome.{Outcome, refused, answered, done, or_refused, while_open, guard, on_buffer, are_rights}
use Rattle.con_machine.specs.Words.Outcome.{with_object}
use Rattle.con_machine.specs.HandleCalls.{handle_with, of_output, opened, buffer_made}
use Rattle.con_events.specs.declared.reply.Reply.TheVariants as replies

abbrev pub retained : Object → Buffers → Buffers
retained o buffers = of_output handle_retained o buffers

abbrev pub released : Object → Buffers → Buffers
released o buffers = of_output handle_released o buffers

abbrev pub opened_at : State → ℕ → Object → ℕ → Result ℕ Code → Outcome
opened_at s p o rights r =
    or_refused s r (λ n. answered (record s { handles = handle_with s p n o rights; buffers = retained o s.buffers }) (replies.Number n))

-- CreateConsoleScreenBuffer
abbrev pub created_buffer : State → ℕ → ℕ → Outcome
created_buffer s p rights = while_open s (
    if are_rights rights then buffer_made s p rights (new_number s.handles p) (free_id s.buffers) else refused s code.BadArgument)

-- the active buffer, and the input, by CreateFile of CONOUT$ and CONIN$
abbrev pub opened_out : State → ℕ → ℕ → Outcome
opened_out s p rights = while_open s (opened s p (object.Output (id_of s.buffers.active)) rights)

abbrev pub opened_in : State → ℕ → ℕ → Outcome
opened_in s p rights = while_open s (opened s p object.Input rights)

-- a handle is gone, and so is what was left for its reads
abbrev pub handle_closed : State → ℕ → ℕ → Object → State
handle_closed s p h o = record s { handles = without s.handles p h; rests = without_rest s.rests p h; buffers = released o s.buffers }

-- what a handle of any kind stands for, whatever its rights
abbrev pub owned : State → ℕ → ℕ → Result Object Code
owned s p h = if s.closed then Err code.Closed else object_of s.handles p h

-- CloseHandle
abbrev pub closed_handle : State → ℕ → ℕ → Outcome
closed_handle s p h = with_object s (owned s p h) (λ o. done (handle_closed s p h o))

-- DuplicateHandle: rights that it lacks are denied, and other rights than 1 to 3 are none
abbrev pub duplicated : State → ℕ → ℕ → ℕ → Outcome
duplicated s p h rights = with_object s (guard s p h kind.Any (if are_rights rights then rights else 0)) (λ o. opened s p o rights)

-- SetConsoleActiveScreenBuffer
abbrev pub activated : State → ℕ → ℕ → Outcome
activated s p h = on_buffer s p h 2 (λ id. done (record s { buffers = record s.buffers { active = id } }))
