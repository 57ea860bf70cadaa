use Rattle.con_actors.specs.DeskSince.{since_put}
use Rattle.con_actors.proofs.Doors.{put_entered}
use Rattle.con_actors.proofs.desk.DeskDoor.enter.Goals as goal

pub returns-clause-stands : goal.returns-clause-stands
returns-clause-stands c =
    λ k stands. since_put _ _ _ _ _ _ _ _ _ _ _ _ (c.requires.ready _) c.requires.serves c.enter.ensures.entered c.enter.ensures.same stands

pub returns-clause-entered : goal.returns-clause-entered
returns-clause-entered c = put_entered c.args.self.now c.enter.new.self _ _ _ (c.requires.ready _) c.enter.ensures.entered c.enter.ensures.brief
