-- What an event comes to, and what stands before each call.
use Rattle.std.specs.Prelude.{ℕ, ◌==◌, ◌&&◌, Bool, not, nat_le, nat_lt, Result, Ok, Err, bit_and, if◌then◌else◌}
use Rattle.con_units.specs.declared.code.Code.{Code}
use Rattle.con_units.specs.declared.code.Code.TheVariants as code
use Rattle.con_events.specs.declared.reply.Reply.{Reply}
use Rattle.con_events.specs.declared.reply.Reply.TheVariants as replies
use Rattle.con_handles.specs.Handles.{look}
use Rattle.con_handles.specs.declared.handle.Kind.{Kind}
use Rattle.con_handles.specs.declared.handle.Kind.TheVariants as kind
use Rattle.con_handles.specs.declared.handle.Object.{Object}
use Rattle.con_handles.specs.declared.handle.Object.TheVariants as object
use Rattle.con_machine.specs.State.{State}

-- the console after an event, before reads are served, and the reply
pub record Outcome : Type 0 where
  pub after : State
  pub reply : Reply

-- a refusal changes nothing
abbrev pub refused : State → Code → Outcome
refused s why = record { after = s; reply = replies.Fail why }

abbrev pub answered : State → Reply → Outcome
answered s reply = record { after = s; reply = reply }

-- a call that says nothing more than that it is done
abbrev pub done : State → Outcome
done s = answered s replies.Done

-- refused, or what comes of a value
abbrev pub or_refused : {A : Type 0} → State → Result A Code → (A → Outcome) → Outcome
or_refused s (Err why) f = refused s why
or_refused s (Ok a) f = f a

-- a call that is done, or refused
abbrev pub by_answer : State → Result (Unit {0}) Code → State → Outcome
by_answer s answer changed = or_refused s answer (λ _. done changed)

-- done, where a test passes
abbrev pub checked : Bool → Result (Unit {0}) Code
checked b = if b then Ok tt else Err code.BadArgument

-- a call that takes no handle
abbrev pub while_open : State → Outcome → Outcome
while_open s o = if s.closed then refused s code.Closed else o

-- what the handle of a call stands for: the console is open, the handle is of the kind, and has the right
abbrev pub guard : State → ℕ → ℕ → Kind → ℕ → Result Object Code
guard s p h k right = if s.closed then Err code.Closed else look s.handles p h k right

-- a call on the input
abbrev pub on_input : State → ℕ → ℕ → ℕ → Outcome → Outcome
on_input s p h right o = or_refused s (guard s p h kind.Input right) (λ _. o)

abbrev pub buffer_of : Object → ℕ
buffer_of object.Input = 0
buffer_of (object.Output id) = id.0

-- a call on a screen buffer
abbrev pub on_buffer : State → ℕ → ℕ → ℕ → (ℕ → Outcome) → Outcome
on_buffer s p h right f = or_refused s (guard s p h kind.Output right) (λ o. f (buffer_of o))

-- rights to read (1), to write (2), or both
abbrev pub are_rights : ℕ → Bool
are_rights n = nat_lt 0 n && nat_le n 3

-- a bit of a mode
abbrev pub has_bit : ℕ → ℕ → Bool
has_bit mode bit = not (bit_and mode bit == 0)
