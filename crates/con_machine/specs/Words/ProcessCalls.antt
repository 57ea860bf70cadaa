-- The words of the code and of laws about ProcessCalls, which a reader need not believe.
use Rattle.std.specs.Prelude.{ℕ, pos, Bool, nat_le, map, if◌then◌else◌}
use Rattle.con_units.specs.declared.code.Code.TheVariants as code
use Rattle.con_procs.specs.Procs.{ids_of, ignoring, add_answer, handler_added, remove_answer, handler_removed}
use Rattle.con_machine.specs.State.{State}
use Rattle.con_machine.specs.Outcome.{Outcome, refused, answered, done, while_open, by_answer}
use Rattle.con_machine.specs.Signals.{signalled_to}
use Rattle.con_machine.specs.ProcessCalls.{is_no_signal}
use Rattle.con_events.specs.declared.reply.Reply.TheVariants as replies

-- GetConsoleProcessList
abbrev pub listed_processes : State → Outcome
listed_processes s = while_open s (answered s (replies.Numbers (map (λ id. pos id) (ids_of s.procs))))

-- GenerateConsoleCtrlEvent
abbrev pub sent_signal : State → ℕ → ℕ → Outcome
sent_signal s event group = while_open s (if is_no_signal s.procs event group then refused s code.BadArgument else done (signalled_to s event group))

-- SetConsoleCtrlHandler, without a handler
abbrev pub set_ignore : State → ℕ → Bool → Outcome
set_ignore s p on = while_open s (done (record s { procs = ignoring s.procs p on }))

-- no rack has more than 255 places
abbrev pub on_place : State → ℕ → Outcome → Outcome
on_place s place o = if nat_le place 255 then o else refused s code.BadArgument

-- SetConsoleCtrlHandler
abbrev pub added_handler : State → ℕ → ℕ → Outcome
added_handler s p place = while_open s (on_place s place (by_answer s (add_answer s.procs p place) (record s { procs = handler_added s.procs p place })))

abbrev pub removed_handler : State → ℕ → ℕ → Outcome
removed_handler s p place = while_open s (on_place s place (by_answer s (remove_answer s.procs p place) (record s { procs = handler_removed s.procs p place })))
