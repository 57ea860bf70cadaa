use Rattle.con_forms.specs.Kept.{RepliesKeep}
use Rattle.con_forms.proofs.Rests.{one_more}
use Rattle.con_forms.proofs.keeping.replies.Goals as goal

pub loop-rest-preserved : goal.loop-rest-preserved
loop-rest-preserved c = one_more RepliesKeep c.loop-rest.rest.now c.one-item.result c.in-len1-up.len_at_least c.one-item.is (λ ys q. (c.reply.ensures, q)) c.loop-rest.invariant
