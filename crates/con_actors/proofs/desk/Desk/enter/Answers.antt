use Rattle.std.proofs.Common.{ap, ◌∙◌, List, ◌++◌, ◌∷◌, []}
use Rattle.con_events.specs.declared.entry.Entry.{Entry}
use Rattle.con_machine.specs.State.{State}
use Rattle.con_machine.specs.Step.{step}
use Rattle.con_actors.specs.Words.Desk.{entry}
use Rattle.con_actors.specs.RanLaws.{ran_same, ran_one}
use Rattle.con_actors.proofs.desk.Desk.enter.Goals as goal

pub returns-in_default-clause-ran : goal.returns-in_default-clause-ran
returns-in_default-clause-ran c = ran_same _ _ _ _ c.room_for.ensures.same.state c.room_for.ensures.same.entries

pub returns-clause-ran : goal.returns-clause-ran
returns-clause-ran c = ran_one _ _ _ _ c.args.actor c.args.event
    (c.apply-reply.ensures.state ∙ ap (λ (s : State). (step s c.args.actor c.args.event).after) c.room_for.ensures.same.state)
    (c.push_reserved.ensures.items ∙ ap (λ (h : List Entry). h ++ entry c.args.actor c.args.event ∷ []) c.room_for.ensures.same.entries) c.requires.ready
    c.requires.other
