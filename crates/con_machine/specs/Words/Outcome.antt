-- The words of the code and of laws about Outcome, which a reader need not believe.
use Rattle.std.specs.Prelude.{Result, Ok, Err}
use Rattle.std.specs.Result.{result_and}
use Rattle.con_units.specs.declared.code.Code.{Code}
use Rattle.con_units.specs.declared.view.BufferId.{BufferId}
use Rattle.con_events.specs.declared.reply.Reply.{Reply}
use Rattle.con_handles.specs.declared.handle.Object.{Object}
use Rattle.con_handles.specs.declared.handle.Object.TheVariants as object
use Rattle.con_machine.specs.State.{State}
use Rattle.con_machine.specs.Outcome.{Outcome, answered, or_refused}

abbrev pub by_result : {A : Type 0} → State → Result A Code → State → (A → Reply) → Outcome
by_result s r changed reply = or_refused s r (λ a. answered changed (reply a))

abbrev pub with_object : State → Result Object Code → (Object → Outcome) → Outcome
with_object s r f = or_refused s r f

-- an answer, where the handle serves
abbrev pub guarded : Result Object Code → Result (Unit {0}) Code → Result (Unit {0}) Code
guarded r answer = result_and r answer

-- what a buffer's handle stands for, or why there is none
abbrev pub object_or : Result BufferId Code → Result Object Code
object_or (Err why) = Err why
object_or (Ok id) = Ok (object.Output id)
