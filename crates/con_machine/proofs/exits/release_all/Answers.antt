use Rattle.std.proofs.Common.{◌≡◌, List, None, sym, ap, ◌∙◌}
use Rattle.std.specs.Prelude.{option_map}
use Rattle.con_handles.specs.Words.Handles.{least_of}
use Rattle.con_handles.specs.declared.handle.Handle.{Handle}
use Rattle.con_machine.specs.Words.Reads.{released_all}
use Rattle.con_machine.proofs.Exiting.{taken_step, none_taken, last_taken}
use Rattle.con_machine.proofs.Live.{live_gone}
use Rattle.con_machine.proofs.Opening.{closed_counts}
use Rattle.con_machine.proofs.Painted.{released_painted}
use Rattle.con_machine.proofs.exits.release_all.Goals as goal

pub loop-object-smaller : goal.loop-object-smaller
loop-object-smaller c =
    (taken_step c.loop-object.handles c.take_any.new.self c.loop-object.screens c.release.new.screens c.args.p c.in-Some.object c.in-Some.ensures.object c.take_any.ensures.state c.loop-object.invariant.table c.release.ensures.is).less

pub loop-object-preserved : goal.loop-object-preserved
loop-object-preserved c =
    let step = taken_step c.loop-object.handles c.take_any.new.self c.loop-object.screens c.release.new.screens c.args.p c.in-Some.object c.in-Some.ensures.object c.take_any.ensures.state c.loop-object.invariant.table c.release.ensures.is in
    let live = live_gone c.loop-object.screens c.loop-object.handles.open_ones c.take_any.new.self.open_ones c.in-Some.object c.loop-object.invariant.kept c.loop-object.invariant.counted c.in-Some.ensures.counted in
    record {
      others = step.others ∙ c.loop-object.invariant.others;
      buffers = step.buffers ∙ c.loop-object.invariant.buffers;
      kept = c.release.ensures.kept;
      counted = closed_counts c.loop-object.screens c.release.new.screens c.loop-object.handles.open_ones c.take_any.new.self.open_ones c.in-Some.object c.loop-object.invariant.counted live c.in-Some.ensures.counted c.release.ensures.is;
      table = c.take_any.ensures.table;
      painted = λ v was. rw c.without-seen.ensures (released_painted c.loop-object.screens c.release.new.screens c.in-Some.object c.loop-object.seen v c.release.ensures.is (c.loop-object.invariant.painted v was));
    }

pub returns-clause-handles : goal.returns-clause-handles
returns-clause-handles c =
    let none : None ≡ option_map (λ h. h.object) (least_of c.loop-object.handles.open_ones c.args.p) = sym c.in_default.is ∙ c.take_any.ensures.object in
    last_taken c.loop-object.handles c.take_any.new.self c.args.p none c.take_any.ensures.state ∙ sym (none_taken c.args.p c.loop-object.handles.open_ones none).1 ∙ c.loop-object.invariant.others

pub returns-clause-buffers : goal.returns-clause-buffers
returns-clause-buffers c =
    let none : None ≡ option_map (λ h. h.object) (least_of c.loop-object.handles.open_ones c.args.p) = sym c.in_default.is ∙ c.take_any.ensures.object in
    ap (λ (hs : List Handle). released_all c.loop-object.screens hs) (sym (none_taken c.args.p c.loop-object.handles.open_ones none).0) ∙ c.loop-object.invariant.buffers
