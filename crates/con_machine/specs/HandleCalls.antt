-- Calls that make and close handles.
use Rattle.std.specs.Prelude.{ℕ, List, Option, Some, Result, Ok, if◌then◌else◌}
use Rattle.con_units.specs.declared.code.Code.{Code}
use Rattle.con_units.specs.declared.code.Code.TheVariants as code
use Rattle.con_handles.specs.Handles.{entered, new_number}
use Rattle.con_handles.specs.declared.handle.Handle.{Handle}
use Rattle.con_handles.specs.declared.handle.Object.{Object}
use Rattle.con_handles.specs.declared.handle.Object.TheVariants as object
use Rattle.con_screens.specs.Buffers.{Buffers, created, handle_retained}
use Rattle.con_machine.specs.State.{State, id_of}
use Rattle.con_machine.specs.Outcome.{Outcome, refused, answered, or_refused, are_rights}
use Rattle.con_events.specs.declared.reply.Reply.TheVariants as replies

abbrev pub handle_with : State → ℕ → ℕ → Object → ℕ → List Handle
handle_with s p n o rights = entered (record { process = p; number = n; object = o; rights = rights }) s.handles

-- what is done to the buffer that a handle is of; one of the input is of none
abbrev pub of_output : (Buffers → ℕ → Buffers) → Object → Buffers → Buffers
of_output f object.Input buffers = buffers
of_output f (object.Output id) buffers = f buffers id.0

-- a handle more for an object, whose number is the least free one
abbrev pub opened : State → ℕ → Object → ℕ → Outcome
opened s p o rights = if are_rights rights then or_refused s (new_number s.handles p) (λ n.
    answered (record s { handles = handle_with s p n o rights; buffers = of_output handle_retained o s.buffers }) (replies.Number n))
    else refused s code.BadArgument

-- a handle more, and a buffer that it is of
abbrev pub buffer_made : State → ℕ → ℕ → Result ℕ Code → Option ℕ → Outcome
buffer_made s p rights (Ok n) (Some id) =
    answered (record s { handles = handle_with s p n (object.Output (id_of id)) rights; buffers = created s.buffers id }) (replies.Number n)
buffer_made s p rights _ _ = refused s code.Limit
