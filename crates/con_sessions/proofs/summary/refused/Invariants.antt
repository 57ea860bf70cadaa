-- What was refused so far, and what is still to come.
use Rattle.std.proofs.Common.{◌≡◌, ◌+◌, ◌≤◌, drop}
use Rattle.con_sessions.specs.Summary.{refusals}
use Rattle.con_sessions.proofs.summary.refused.Given as goal

abbrev pub invariant-loop-reply : goal.invariant-loop-reply
invariant-loop-reply l = record {
  all : l.count + refusals (drop l.reply-index l.replies) ≡ refusals l.replies;
  few : l.count ≤ l.reply-index;
}
