use Rattle.con_vtin.proofs.FeedLemmas.{tail_is_few}
use Rattle.con_vtin.proofs.reader.KeyReader.take.Goals as goal

pub returns-then-is_empty-clause-most : goal.returns-then-is_empty-clause-most
returns-then-is_empty-clause-most c = rw c.feed_text.ensures.tail (tail_is_few c.self.inside.text c.args.byte)

pub returns-else-is_empty-clause-most : goal.returns-else-is_empty-clause-most
returns-else-is_empty-clause-most c = rw c.feed_sequence.ensures.tail (tail_is_few c.self.inside.sequence c.args.byte)
