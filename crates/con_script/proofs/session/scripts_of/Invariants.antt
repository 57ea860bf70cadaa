use Rattle.std.proofs.Common.{◌≡◌, drop}
use Rattle.serde_json.specs.View.{items_view}
use Rattle.con_document.specs.Session.{each_from, client_at}
use Rattle.con_document.specs.Steps.{step_in}
use Rattle.con_script.specs.Cursors.{after}
use Rattle.con_script.proofs.session.scripts_of.Given as goal

abbrev pub invariant-loop-i : goal.invariant-loop-i
invariant-loop-i l = after l.scripts.items (each_from (client_at (step_in l.version)) l.i (items_view (drop l.i l.items))) ≡ each_from (client_at (step_in l.version)) 0 (items_view l.items)
