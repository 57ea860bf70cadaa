-- The summary of a session: what was refused, what is left in the queue, how many pictures there were, and what the terminal shows at the end.
use Rattle.std.specs.Prelude.{ℕ, ◌+◌, List, [], ◌∷◌, ◌++◌, length, codes, decimal}
use Rattle.con_units.specs.declared.place.Size.{Size}
use Rattle.con_events.specs.Session.{Clients}
use Rattle.con_events.specs.declared.entry.Entry.{Entry}
use Rattle.con_events.specs.declared.reply.Reply.{Reply}
use Rattle.con_events.specs.declared.reply.Reply.TheVariants as replies
use Rattle.con_machine.specs.Follows.{session_start}
use Rattle.con_machine.specs.History.{run}
use Rattle.con_machine.specs.Turns.{paints}
use Rattle.con_text.specs.Playing.{dump_after}

-- 1 for an event that was refused
abbrev pub refusal : Reply → ℕ
refusal (replies.Fail code) = 1
refusal _ = 0

-- how many events were refused
abbrev pub refusals : List Reply → ℕ
refusals [] = 0
refusals (r ∷ rs) = refusal r + refusals rs

-- how many records stand in the queue after a history of a session without handlers
abbrev pub records_left : Clients → List Entry → ℕ
records_left session h = length (run (session_start session []) h).records

-- the lines of the counts; a generated session has 2,000 calls
abbrev pub counts_text : ℕ → ℕ → ℕ → List ℕ
counts_text refused records painted = codes "calls 2000\nrefused "
    ++ (decimal refused ++ (codes "\nrecords " ++ (decimal records ++ (codes "\npaints " ++ (decimal painted ++ codes "\n")))))

-- the window of a generated session
abbrev pub window : Size
window = record { w = 80; h = 25 }

-- the counts of a history and its replies, and the dump of a blank terminal that was played the stream
abbrev pub summary_text : Clients → List Entry → List Reply → List ℕ → List ℕ
summary_text session h rs stream = counts_text (refusals rs) (records_left session h) (paints h) ++ dump_after window stream
