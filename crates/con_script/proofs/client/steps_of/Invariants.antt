use Rattle.std.proofs.Common.{◌≡◌, drop}
use Rattle.serde_json.specs.View.{items_view}
use Rattle.con_document.specs.Session.{each_from, call_at}
use Rattle.con_document.specs.Steps.{step_in}
use Rattle.con_script.specs.Cursors.{after}
use Rattle.con_script.proofs.client.steps_of.Given as goal

abbrev pub invariant-loop-i : goal.invariant-loop-i
invariant-loop-i l = after l.steps.items (each_from (call_at (step_in l.version)) l.i (items_view (drop l.i l.items))) ≡ each_from (call_at (step_in l.version)) 0 (items_view l.items)
