use Rattle.std.proofs.Common.{sym, ◌∙◌}
use Rattle.con_lines.specs.Told.{unhex_bytes}
use Rattle.con_lines.proofs.Fronts.{byte_read, no_byte, bytes_read, bytes_cut}
use Rattle.con_lines.proofs.unhex.bytes_from.Goals as goal

pub loop-rest-preserved : goal.loop-rest-preserved
loop-rest-preserved c = rw c.in-Ok.ensures.items
    (byte_read c.loop-rest.bytes.items c.loop-rest.rest.now c.in-Some.byte (unhex_bytes c.args.text.now) c.in-len2-up.len_at_least c.in-Some.ensures
    c.loop-rest.invariant)

pub returns-in_default-byte_of-clause-form : goal.returns-in_default-byte_of-clause-form
returns-in_default-byte_of-clause-form c =
    λ _. no_byte c.loop-rest.bytes.items c.loop-rest.rest.now (unhex_bytes c.args.text.now) c.in-len2-up.len_at_least c.in_default-byte_of.ensures
    c.loop-rest.invariant

pub returns-then-is_empty-clause-ok : goal.returns-then-is_empty-clause-ok
returns-then-is_empty-clause-ok c =
    bytes_read c.loop-rest.bytes.items c.loop-rest.rest.now (unhex_bytes c.args.text.now) (sym c.is_empty.ensures ∙ c.if-is_empty.true)
    c.loop-rest.invariant

pub returns-else-is_empty-clause-form : goal.returns-else-is_empty-clause-form
returns-else-is_empty-clause-form c =
    λ _. bytes_cut c.loop-rest.bytes.items c.loop-rest.rest.now (unhex_bytes c.args.text.now) c.in_default.len_below
    (sym c.is_empty.ensures ∙ c.if-is_empty.false) c.loop-rest.invariant
