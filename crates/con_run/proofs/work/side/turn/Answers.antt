use Rattle.std.proofs.Common.{sym, ap, ◌∙◌, inl, inr, Ok, Err}
use Rattle.con_events.specs.declared.actor.Actor.TheVariants as actors
use Rattle.con_actors.specs.LinkLaws.{failed_for}
use Rattle.con_threads.specs.ScribeLaws.{same_self, sees_here}
use Rattle.con_run.proofs.SendingLaws.{gave_up, hung_up, looked, never_blocked, passed_on, saw, served_by, stopped}
use Rattle.con_run.proofs.work.side.turn.Goals as goal

pub returns-in_err-hang_up-clause-on : goal.returns-in_err-hang_up-clause-on
returns-in_err-hang_up-clause-on g c =
    saw c.args.side.now c.hang_up.new.scribe _ c.requires.is c.in_err-hang_up.ensures.same c.in_err-hang_up.ensures.scribe c.in_err-hang_up.ensures.refused

pub returns-then-failed-clause-on : goal.returns-then-failed-clause-on
returns-then-failed-clause-on g c =
    hung_up c.args.side.now c.hang_up.new.scribe _ c.if-side.false c.if-side-2.false c.requires.is c.in_ok-hang_up.ensures.same c.in_ok-hang_up.ensures.scribe
    c.in_ok-hang_up.ensures.sent

pub returns-then-not-is_served-clause-on : goal.returns-then-not-is_served-clause-on
returns-then-not-is_served-clause-on g c =
    saw c.args.side.now c.is_served.new.scribe _ c.requires.is c.is_served.ensures.same c.is_served.ensures.scribe c.is_served.ensures.seen

pub returns-in_err-pass_on-in-Ok-clause-on : goal.returns-in_err-pass_on-in-Ok-clause-on
returns-in_err-pass_on-in-Ok-clause-on g c =
    let seen = c.is_served.ensures in
    let look = looked c.args.side.now c.is_served.new.scribe _ c.if-side.false c.if-side-2.false c.requires.is seen.same seen.scribe seen.seen seen.served
    c.if-not-is_served.false in
    stopped c.args.side.now c.is_served.new.scribe c.pass_on.new.scribe _ _ _
    (Ok c.in-Ok.frame) look c.in_err-pass_on-in-Ok.ensures.same c.in_err-pass_on-in-Ok.ensures.scribe c.in_err-pass_on-in-Ok.ensures.refused
    c.in-Ok.ensures.took

pub unreachable-requires : goal.unreachable-requires
unreachable-requires g c =
    let n = served_by _ _ c.is_served.ensures.served c.if-not-is_served.false in
    let blocked = c.in_ok-pass_on-in-Ok.ensures.blocked c.if-not-branch.true in
    never_blocked c.is_served.new.scribe c.pass_on.new.scribe _ c.in-Ok.frame _ _ _ _ c.in_ok-pass_on-in-Ok.ensures.same n blocked.0 c.event_for.ensures
    c.in-Ok.ensures.took blocked.1

pub returns-else-not-branch-clause-on : goal.returns-else-not-branch-clause-on
returns-else-not-branch-clause-on g c =
    let seen = c.is_served.ensures in
    let look = looked c.args.side.now c.is_served.new.scribe _ c.if-side.false c.if-side-2.false c.requires.is seen.same seen.scribe seen.seen seen.served
    c.if-not-is_served.false in
    passed_on c.args.side.now c.is_served.new.scribe c.pass_on.new.scribe _ _ _ c.in-Ok.frame _ _ look c.in_ok-pass_on-in-Ok.ensures.same
    c.in_ok-pass_on-in-Ok.ensures.scribe c.event_for.ensures
    (c.in_ok-pass_on-in-Ok.ensures.sent c.if-not-branch.false) c.ends_the_link-ends.ensures c.in-Ok.ensures.took

pub returns-in-Err-OutOfMemory-clause-on : goal.returns-in-Err-OutOfMemory-clause-on
returns-in-Err-OutOfMemory-clause-on g c =
    let seen = c.is_served.ensures in
    let look = looked c.args.side.now c.is_served.new.scribe _ c.if-side.false c.if-side-2.false c.requires.is seen.same seen.scribe seen.seen seen.served
    c.if-not-is_served.false in
    stopped c.args.side.now c.is_served.new.scribe c.is_served.new.scribe _ _ _ c.next.result look (same_self c.is_served.new.scribe) c.is_served.ensures.scribe
    (sees_here _ actors.Terminal _) c.next.ensures.took

pub returns-in_err-hang_up-in-Err : goal.returns-in_err-hang_up-in-Err
returns-in_err-hang_up-in-Err g c =
    let seen = c.is_served.ensures in
    let look = looked c.args.side.now c.is_served.new.scribe _ c.if-side.false c.if-side-2.false c.requires.is seen.same seen.scribe seen.seen seen.served
    c.if-not-is_served.false in
    record {
      on =
          stopped c.args.side.now c.is_served.new.scribe c.hang_up-in-Err.new.scribe _ _ _
          (Err c.in-Err.fault) look c.in_err-hang_up-in-Err.ensures.same c.in_err-hang_up-in-Err.ensures.scribe c.in_err-hang_up-in-Err.ensures.refused
          c.in-Err.ensures.took;
      failed = λ e. inl e;
      never_falls = c.in-Err.ensures.never_falls;
    }

pub returns-in_ok-hang_up-in-Err : goal.returns-in_ok-hang_up-in-Err
returns-in_ok-hang_up-in-Err g c =
    let seen = c.is_served.ensures in
    let look = looked c.args.side.now c.is_served.new.scribe _ c.if-side.false c.if-side-2.false c.requires.is seen.same seen.scribe seen.seen seen.served
    c.if-not-is_served.false in
    record {
      on =
          gave_up c.args.side.now c.is_served.new.scribe c.hang_up-in-Err.new.scribe _ _ _ c.in-Err.fault _ look c.in_ok-hang_up-in-Err.ensures.same
          c.in_ok-hang_up-in-Err.ensures.scribe c.in_ok-hang_up-in-Err.ensures.sent c.end_by_fault-side.ensures c.in-Err.ensures.took;
      failed = λ e. inr (c.in-Err.ensures.failed (ap (λ f. Err f) (failed_for c.in-Err.fault (sym c.end_by_fault-side.ensures ∙ e))));
      never_falls = c.in-Err.ensures.never_falls;
    }
