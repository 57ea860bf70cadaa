-- Calls on the input queue: the words of the code and of laws.
use Rattle.std.specs.Prelude.{ℕ, ◌==◌, nat_lt, List, [], ◌++◌, length, take, min, if◌then◌else◌}
use Rattle.con_units.specs.Limits.{most_records}
use Rattle.con_units.specs.declared.code.Code.TheVariants as code
use Rattle.con_records.specs.declared.record.Record.{Record}
use Rattle.con_machine.specs.State.{State}
use Rattle.con_machine.specs.Outcome.{Outcome, refused, answered, done, on_input}
use Rattle.con_events.specs.declared.reply.Reply.{Reply}
use Rattle.con_events.specs.declared.reply.Reply.TheVariants as replies

-- the first n records
abbrev pub peek_told : List Record → ℕ → Reply
peek_told rs n = if n == 0 then replies.Fail code.BadArgument else if nat_lt most_records n then replies.Fail code.Limit else replies.Records (take n rs)

-- PeekConsoleInput
abbrev pub peeked : State → ℕ → ℕ → ℕ → Outcome
peeked s p h n = on_input s p h 1 (answered s (peek_told s.records n))

-- WriteConsoleInput
abbrev pub wrote_input : State → ℕ → ℕ → List Record → Outcome
wrote_input s p h records = on_input s p h 2 (
    if nat_lt most_records (length records) then refused s code.Limit
    else answered (record s { records = s.records ++ records }) (replies.Number (length records)))

-- GetNumberOfConsoleInputEvents
abbrev pub counted : State → ℕ → ℕ → Outcome
counted s p h = on_input s p h 1 (answered s (replies.Number (min (length s.records) 4294967295)))

-- FlushConsoleInputBuffer
abbrev pub flushed : State → ℕ → ℕ → Outcome
flushed s p h = on_input s p h 2 (done (record s { records = [] }))
