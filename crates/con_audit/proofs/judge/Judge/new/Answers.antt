-- All stand at their beginnings.
use Rattle.std.proofs.Common.{ap, ◌∙◌}
use Rattle.con_units.specs.declared.place.Size.{Size}
use Rattle.con_audit.specs.Watching.{watching}
use Rattle.con_audit.proofs.Behind.{size_within, stands_first}
use Rattle.con_audit.proofs.judge.Judge.new.Goals as goal

pub new-requires-clause-some : goal.new-requires-clause-some
new-requires-clause-some c = (size_within c.size.result c.size.ensures.within).0

pub new-requires-clause-few : goal.new-requires-clause-few
new-requires-clause-few c = (size_within c.size.result c.size.ensures.within).1

pub returns : goal.returns
returns c = λ g is kinds ends. stands_first _ _ _ _ g c.args.frames.now c.args.session.now c.args.racks.now c.as_slice.result.now c.args.ends.now is kinds ends
    c.in_ok-console.ensures.state (c.as_slice.ensures.value ∙ c.in_ok-counts.ensures) c.in_ok-tracks.ensures c.new-3.ensures
    (c.in_ok-watch.ensures ∙ ap (λ (size : Size). watching size c.args.ends.now) c.size.ensures.value)
