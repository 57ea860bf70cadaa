use Rattle.con_mirror.proofs.AttachedLemmas.{attached_on, marks_count, mirrors, now_shown, since_by, unmarked_row, was_shown, whole_part}
use Rattle.con_mirror.proofs.attached.Attached.paint.Goals as goal

pub put_part-requires-clause-since : goal.put_part-requires-clause-since
put_part-requires-clause-since c = since_by c.args.self.now c.args.self.now.given c.args.view.now c.args.since.now _ _ c.begins_at-stays.result c.requires.attached.given' c.requires.since c.begins_at-stays.ensures.some c.begins_at-stays.ensures.corner

pub paint-requires-clause-view : goal.paint-requires-clause-view
paint-requires-clause-view c = whole_part c.args.self.now c.args.view.now c.put_part.new.shown c.requires.attached c.put_part.ensures.part

pub paint-requires-clause-marks : goal.paint-requires-clause-marks
paint-requires-clause-marks c = marks_count c.args.self.now c.put_part.new.marks c.requires.attached c.put_part.ensures.count

pub paint-requires-clause-marked : goal.paint-requires-clause-marked
paint-requires-clause-marked c = unmarked_row c.args.self.now c.put_part.new.shown c.put_part.new.marks c.requires.attached c.put_part.ensures.same

pub returns-clause-attached : goal.returns-clause-attached
returns-clause-attached c =
    let size = c.paint.ensures.size in
    attached_on c.args.self.now c.args.view.now c.put_part.new.shown c.paint.new.self c.put_part.new.marks _ c.requires.attached c.put_part.ensures.part size.0 size.1 c.put_part.ensures.count c.paint.ensures.shown
    c.of.ensures c.corner_in-corner.ensures.left c.corner_in-corner.ensures.top

pub returns-clause-paints : goal.returns-clause-paints
returns-clause-paints c =
    let frame = c.paint.ensures in
    mirrors c.args.self.now c.args.view.now c.put_part.new.shown c.paint.new.self _ c.requires.attached c.put_part.ensures.part
    frame.size.0 frame.size.1 frame.paints frame.shown

pub returns-clause-shown : goal.returns-clause-shown
returns-clause-shown c =
    let frame = c.paint.ensures in
    now_shown c.args.self.now c.args.view.now c.put_part.new.shown c.paint.new.self c.requires.attached c.put_part.ensures.part frame.size.0 frame.size.1 frame.shown

pub returns-clause-quiet : goal.returns-clause-quiet
returns-clause-quiet c = λ was.
    c.paint.ensures.quiet (was_shown c.args.self.now c.args.view.now c.put_part.new.shown c.requires.attached c.put_part.ensures.part was)
