-- The entries so far pass, and the judge stands behind them.
use Rattle.std.proofs.Common.{◌≡◌, List, [], take}
use Rattle.con_units.specs.declared.view.Frame.{Frame}
use Rattle.con_audit.specs.Audit.{Given, Passes}
use Rattle.con_audit.specs.Judging.{Stands, Reads}
use Rattle.con_audit.proofs.judging.judged.Given as goal

abbrev pub invariant-loop-place : goal.invariant-loop-place
invariant-loop-place l = (w : Given) (frames : List Frame) → Reads w l.stream l.entries l.replies l.ends
    → Stands l.fn.judge.console.state l.fn.judge.tracks.items l.fn.judge.side l.fn.judge.watch w frames []
    → Passes w frames (take l.place w.entries) × Stands l.judge.console.state l.judge.tracks.items l.judge.side l.judge.watch w frames (take l.place w.entries)
