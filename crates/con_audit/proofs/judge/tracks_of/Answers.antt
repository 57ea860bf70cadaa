-- One client more.
use Rattle.std.proofs.Common.{◌∙◌, List, ap, rules}
use Rattle.con_events.specs.declared.script.Step.{Step}
use Rattle.con_machine.specs.Client.{starting}
use Rattle.con_audit.proofs.Tracks.{no_tracks_yet, tracks_next, track_at}
use Rattle.con_audit.proofs.judge.tracks_of.Goals as goal

pub loop-at-init : goal.loop-at-init
loop-at-init c = (no_tracks_yet _ _ (search rules), search rules, search rules)

pub loop-at-preserved : goal.loop-at-preserved
loop-at-preserved c = (
  tracks_next c.loop-at.at _ c.loop-at.tracks.items _ c.new.result c.push_reserved.ensures.items c.loop-at.invariant.0
      (c.new.ensures ∙ ap (λ (steps : List Step). starting steps c.kinds_at.result.now) c.steps_in-steps.ensures ∙ track_at c.args.session.now c.args.racks.now c.scripts-scripts.result.now c.loop-at.at c.index-scripts-at.result _ c.scripts-scripts.ensures.value c.loop-at-test.true c.index-scripts-at.is c.kinds_at.ensures),
  search rules,
  search rules,
)
