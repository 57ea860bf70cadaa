use Rattle.std.proofs.Common.{◌≡◌, sym, ap, ◌∙◌}
use Rattle.con_records.specs.Queue.{Queue, appended}
use Rattle.con_machine.specs.Held.{state_of, spare_of}
use Rattle.con_machine.specs.Terminal.{records_of}
use Rattle.con_machine.proofs.Keyed.{sequence_records}
use Rattle.con_machine.proofs.parts.Parts.store_key.Goals as goal

queued : (c : goal.After-store_units) → c.store_units.new.records ≡ appended c.self.inside.records (records_of (state_of c.self.inside) c.args.key)
queued c =
    c.store_units.ensures
    ∙ ap (appended c.self.inside.records)
    (sequence_records (state_of c.self.inside) c.args.key c.sequence_of-sequence.result
    (sym c.has_bit.ensures ∙ c.if-has_bit.true) c.sequence_of-sequence.ensures.units)

pub returns-then-has_bit-clause-state : goal.returns-then-has_bit-clause-state
returns-then-has_bit-clause-state c = rw (← c.self.view_is) (ap (λ (q : Queue). state_of (record c.self.inside { records = q })) (queued c))

pub returns-then-has_bit-clause-spare : goal.returns-then-has_bit-clause-spare
returns-then-has_bit-clause-spare c = rw (← c.self.view_is) (ap (λ (q : Queue). spare_of (record c.self.inside { records = q })) (queued c))
