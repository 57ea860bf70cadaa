-- None of the units so far switched.
use Rattle.std.proofs.Common.{◌≤◌, ◌-◌, length}
use Rattle.con_page.specs.Words.Page.{IsPage}
use Rattle.con_screen.proofs.WriteLemmas.{Stands}
use Rattle.con_screen.proofs.screen.Screen.write.Given as goal

abbrev pub invariant-loop-at : goal.invariant-loop-at
invariant-loop-at l = Stands l.fn.self l.fn.answers l.units l.at (record { page = l.self-inside.page; text = l.self-inside.text.tail }) l.answers × (l.at ≤ length l.units) × IsPage l.self-inside.page

abbrev pub decreases-loop-at : goal.decreases-loop-at
decreases-loop-at l = length l.units - l.at
