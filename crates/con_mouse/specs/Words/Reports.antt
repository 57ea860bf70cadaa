-- The words of the code and of laws about Reports, which a reader need not believe.
use Rattle.std.specs.Prelude.{◌<◌, ◌≤◌}
use Rattle.con_mouse.specs.declared.report.Report.{Report}

-- a report has a button below 128, and a place from 1 to 32,767
pub record IsReport (r : Report) : Type 0 where
  pub button : r.b < 128
  pub left : 1 ≤ r.x
  pub right : r.x ≤ 32767
  pub top : 1 ≤ r.y
  pub bottom : r.y ≤ 32767
