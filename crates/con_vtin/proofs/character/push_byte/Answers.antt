use Rattle.std.proofs.Common.{◌∙◌, ap, sym}
use Rattle.std.specs.Prelude.{option_to_list}
use Rattle.con_vtin.proofs.TextLemmas.{next_text, tail_text, two_pushed}
use Rattle.con_vtin.proofs.character.push_byte.Goals as goal

pub returns-clause-keys : goal.returns-clause-keys
returns-clause-keys c = two_pushed c.args.out.now.items c.push_if_some.new.out.items c.push_if_some-2.new.out.items (option_to_list c.feed-decoded.result.first) (option_to_list c.feed-decoded.result.second) c.args.text.now c.args.byte
    c.requires.text c.requires.plain c.push_if_some.ensures.keys c.push_if_some-2.ensures.keys c.feed-decoded.ensures.items

pub returns-clause-tail : goal.returns-clause-tail
returns-clause-tail c = c.feed-decoded.ensures.held ∙ ap (λ s. s.tail) (sym (next_text c.args.text.now c.args.byte c.requires.text c.requires.plain))

pub returns-clause-text : goal.returns-clause-text
returns-clause-text c = rw c.feed-decoded.ensures.held (tail_text c.args.text.now c.args.byte c.requires.text c.requires.plain)
