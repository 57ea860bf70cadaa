-- A byte of ASCII, or the characters that the byte completes.
use Rattle.con_term.specs.Inside.{parts}
use Rattle.con_term.proofs.PlayLemmas.{byte}
use Rattle.con_term.proofs.AsciiLemmas.{ascii_byte, none_held}
use Rattle.con_term.proofs.terminal.byte_played.Goals as goal

pub returns : goal.returns
returns c = byte (parts c.args.bytes.now c.args.page.now c.args.units.now) (parts c.feed-decoded.new.self c.character_if.new.page c.character_if.new.units) _ c.args.byte c.feed-decoded.new.self _ _ c.feed-decoded.ensures.items c.feed-decoded.ensures.held (c.character_if.ensures _) (c.character_if-2.ensures _)

pub returns-then-held-eq0 : goal.returns-then-held-eq0
returns-then-held-eq0 c = ascii_byte (parts c.args.bytes.now c.args.page.now c.args.units.now) _ c.args.byte (none_held _ _ c.held.ensures c.if-held-eq0.true) c.if-byte-lt128.true (c.unit_typed.ensures _)
