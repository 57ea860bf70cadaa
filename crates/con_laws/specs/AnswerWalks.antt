-- What a read is after all that was done for it, piece by piece.
use Rattle.std.specs.Prelude.{ℕ, Bool, true, false, List, fold, take}
use Rattle.std.specs.List.{list_any}
use Rattle.con_units.specs.declared.code.Code.TheVariants as code
use Rattle.con_events.specs.declared.entry.Entry.{Entry}
use Rattle.con_events.specs.declared.reply.Reply.{Reply}
use Rattle.con_events.specs.declared.reply.Reply.TheVariants as replies
use Rattle.con_readers.specs.Serving.{served}
use Rattle.con_readers.specs.declared.answer.Answer.TheVariants as answers
use Rattle.con_readers.specs.declared.open.OpenRead.{OpenRead}
use Rattle.con_readers.specs.declared.open.OpenRead.TheVariants as reads
use Rattle.con_records.specs.declared.record.Record.{Record}
use Rattle.con_machine.specs.State.{State}
use Rattle.con_machine.specs.History.{run}
use Rattle.con_laws.specs.Fates.{How, Served, Emptied, Interrupted, CutOff, Taker, Piece, done_for}

-- ---- what a Begin that is not refused opens in a console

-- the console before the entry at this place of a history
abbrev pub console_before : State → List Entry → ℕ → State
console_before s h place = run s (take place h)

-- ---- what is done for it

-- it is served with the records that it takes, and no others; or it ends
abbrev pub by_how : ℕ → OpenRead → How → List Record → OpenRead
by_how p r (Served hs al) rs = (served p al r rs hs).read
by_how p r Emptied rs = r
by_how p r Interrupted rs = reads.Done (answers.Fail code.Aborted)
by_how p r CutOff rs = reads.Done (answers.Fail code.Closed)

abbrev pub done_to : ℕ → OpenRead → Piece → OpenRead
done_to p r piece = by_how p r piece.0.how piece.1

-- a process's read after these pieces
abbrev pub read_after : ℕ → OpenRead → List Piece → OpenRead
read_after p r pieces = fold (done_to p) r pieces

-- ---- why a read fails

abbrev pub is_interruption : How → Bool
is_interruption Interrupted = true
is_interruption _ = false

abbrev pub is_cut : How → Bool
is_cut CutOff = true
is_cut _ = false

-- ctrl+C to all came while the read was the first line read that is not done
abbrev pub was_interrupted : Taker → List Piece → Bool
was_interrupted t ps = list_any (λ p. is_interruption p.0.how) (done_for t ps)

-- the console closed while it was not done
abbrev pub was_cut_off : Taker → List Piece → Bool
was_cut_off t ps = list_any (λ p. is_cut p.0.how) (done_for t ps)

-- ERROR_OPERATION_ABORTED (995)
abbrev pub is_aborted : Reply → Bool
is_aborted (replies.Fail code.Aborted) = true
is_aborted _ = false

-- ERROR_BROKEN_PIPE (109)
abbrev pub is_closed : Reply → Bool
is_closed (replies.Fail code.Closed) = true
is_closed _ = false
