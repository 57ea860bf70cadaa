-- A verdict by the frames is one by the link.
use Rattle.std.proofs.Common.{List, ℕ, refl}
use Rattle.con_audit.specs.Audit.{Given}
use Rattle.con_audit.proofs.JudgeLemmas.{audited_by}
use Rattle.con_audit.proofs.judging.verdict_on.Goals as goal

pub returns : goal.returns
returns c = λ link are.
    let g : Given = record {
      session = c.args.session.now;
      racks = c.args.racks.now;
      link = link;
      stream = c.args.stream.now;
      entries = c.args.entries.now;
      replies = c.args.replies.now;
      ends = c.args.ends.now;
    } in
    audited_by g c.args.frames.now c.judged.result are
    (c.judged.ensures g c.args.frames.now (record { stream' = refl; entries' = refl; replies = refl; ends' = refl }) (c.in_ok-judge.ensures g refl refl refl))
