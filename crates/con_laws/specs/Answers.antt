-- What a read is as it begins, and when it fails.
use Rattle.std.specs.Prelude.{◌≡◌, ℕ, ◌==◌, List, Option, option_map}
use Rattle.con_events.specs.declared.event.Wanted.{Wanted}
use Rattle.con_events.specs.declared.reply.Reply.{Reply}
use Rattle.con_events.specs.declared.reply.Reply.TheVariants as replies
use Rattle.con_readers.specs.declared.open.OpenRead.{OpenRead}
use Rattle.con_machine.specs.State.{State}
use Rattle.con_machine.specs.Reads.{began}
use Rattle.con_laws.specs.Fates.{How, Piece}
use Rattle.std.specs.List.{find, Any}
use Rattle.con_units.specs.declared.code.Code.{Code}

-- the read that a Begin opens where it is not refused: the process has it then, before any read is served
abbrev pub read_opened : State → ℕ → Wanted → Option OpenRead
read_opened s p w = option_map (λ o. o.read) (find (λ o. o.process == p) (began s p w).after.reads)

-- a reply is this failure exactly where one of these pieces ended the read so
abbrev pub EndsSo : How → Code → Reply → List Piece → Type 0
EndsSo how why reply ps = (reply ≡ replies.Fail why → Any (λ p. p.0.how ≡ how) ps) × (Any (λ p. p.0.how ≡ how) ps → reply ≡ replies.Fail why)
