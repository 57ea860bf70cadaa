use Rattle.std.proofs.Common.{◌≡◌, ◌∙◌, ◌++◌, [], ap, sym, refl}
use Rattle.std.specs.Prelude.{option_to_list}
use Rattle.con_vtin.specs.Keys.{broken}
use Rattle.con_vtin.proofs.Lists.{append_none}
use Rattle.con_vtin.proofs.FeedLemmas.{fed_on, fed_end, fed_break}
use Rattle.con_vtin.proofs.reader.feed_sequence.Goals as goal

pub returns-in-GoesOn-clause-keys : goal.returns-in-GoesOn-clause-keys
returns-in-GoesOn-clause-keys c = (fed_on c.args.out.now.items c.args.sequence.now c.advance.new.self c.args.text.now c.args.byte c.requires.some c.requires.none c.in-GoesOn.ensures).keys

pub returns-in-GoesOn-clause-tail : goal.returns-in-GoesOn-clause-tail
returns-in-GoesOn-clause-tail c = (fed_on c.args.out.now.items c.args.sequence.now c.advance.new.self c.args.text.now c.args.byte c.requires.some c.requires.none c.in-GoesOn.ensures).tail

pub returns-in-Some-clause-keys : goal.returns-in-Some-clause-keys
returns-in-Some-clause-keys c = (fed_end c.in-Ends.key c.args.out.now.items c.push_reserved.new.self.items c.args.sequence.now c.advance.new.self c.args.text.now c.args.byte c.requires.none c.in-Ends.ensures
    (rw c.in-Some.is c.push_reserved.ensures.items)).keys

pub returns-in-Some-clause-tail : goal.returns-in-Some-clause-tail
returns-in-Some-clause-tail c = (fed_end c.in-Ends.key c.args.out.now.items (c.args.out.now.items ++ option_to_list c.in-Ends.key) c.args.sequence.now c.advance.new.self c.args.text.now c.args.byte c.requires.none c.in-Ends.ensures refl).tail

pub returns-in_default-clause-keys : goal.returns-in_default-clause-keys
returns-in_default-clause-keys c = (fed_end c.in-Ends.key c.args.out.now.items c.args.out.now.items c.args.sequence.now c.advance.new.self c.args.text.now c.args.byte c.requires.none c.in-Ends.ensures
    (rw c.in_default.is (sym (append_none c.args.out.now.items)))).keys

pub returns-in_default-clause-tail : goal.returns-in_default-clause-tail
returns-in_default-clause-tail c = (fed_end c.in-Ends.key c.args.out.now.items (c.args.out.now.items ++ option_to_list c.in-Ends.key) c.args.sequence.now c.advance.new.self c.args.text.now c.args.byte c.requires.none c.in-Ends.ensures refl).tail

pub returns-in-Breaks-clause-keys : goal.returns-in-Breaks-clause-keys
returns-in-Breaks-clause-keys c = let nothing : c.args.text.now ≡ [] = c.requires.none in
    (fed_break c.args.out.now.items c.push_broken.new.out.items c.feed_text.new.out.items c.args.sequence.now c.feed_text.new.sequence c.feed_text.new.text c.args.byte c.advance.new.self c.requires.some c.in-Breaks.ensures
    (c.push_broken.ensures.keys ∙ ap (λ bs. c.args.out.now.items ++ broken bs) c.in-Breaks.ensures.2)
    (rw nothing at c.feed_text.ensures.keys) (rw nothing at c.feed_text.ensures.tail) c.feed_text.ensures.apart).keys

pub returns-in-Breaks-clause-tail : goal.returns-in-Breaks-clause-tail
returns-in-Breaks-clause-tail c = let nothing : c.args.text.now ≡ [] = c.requires.none in
    (fed_break c.args.out.now.items c.push_broken.new.out.items c.feed_text.new.out.items c.args.sequence.now c.feed_text.new.sequence c.feed_text.new.text c.args.byte c.advance.new.self c.requires.some c.in-Breaks.ensures
    (c.push_broken.ensures.keys ∙ ap (λ bs. c.args.out.now.items ++ broken bs) c.in-Breaks.ensures.2)
    (rw nothing at c.feed_text.ensures.keys) (rw nothing at c.feed_text.ensures.tail) c.feed_text.ensures.apart).tail
