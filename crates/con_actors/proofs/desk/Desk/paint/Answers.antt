use Rattle.con_laws.specs.PictureLaws.{paint_answers}
use Rattle.con_actors.specs.Replying.{view_is}
use Rattle.con_actors.specs.PaintTurns.{picture_of, whole_of, window_of, marks_of}
use Rattle.con_actors.proofs.desk.Desk.paint.Goals as goal

pub returns-clause-pictures : goal.returns-clause-pictures
returns-clause-pictures c = picture_of _ c.room_for.new.self.console.state _ _ c.room_for.ensures.same.state (view_is c.in-View.view _ c.in-View.marks c.in-View.fresh
    _ c.in-View.ensures.reply (paint_answers _)) (c.in-View.ensures.tells).0 c.view_is_whole.ensures.wide c.view_is_whole.ensures.high

pub returns-clause-whole : goal.returns-clause-whole
returns-clause-whole c = whole_of c.room_for.new.self.console.state _
    (view_is c.in-View.view _ c.in-View.marks c.in-View.fresh _ c.in-View.ensures.reply (paint_answers _)) c.view_is_whole.ensures.whole

pub returns-clause-window : goal.returns-clause-window
returns-clause-window c = window_of c.room_for.new.self.console.state _ (view_is c.in-View.view _ c.in-View.marks c.in-View.fresh _ c.in-View.ensures.reply
    (paint_answers _)) c.view_is_whole.ensures.wide c.view_is_whole.ensures.high c.view_is_whole.ensures.window

pub returns-clause-marks : goal.returns-clause-marks
returns-clause-marks c = marks_of _ c.room_for.new.self.console.state _ c.room_for.ensures.same.state (c.in-View.ensures.tells).1
