use Rattle.std.proofs.Common.{◌∙◌, sym, slice_set, ◌-◌, refl}
use Rattle.con_procs.proofs.Programs.{programs_set_to}
use Rattle.con_procs.proofs.Changes.{set_is, attached_some}
use Rattle.con_procs.specs.declared.proc.Proc.{Proc}
use Rattle.con_procs.proofs.procs.Procs.set_place.Goals as goal

pub returns : goal.returns
returns c =
    rw c.set.ensures (rw (← c.self.view_is) (set_is (λ (p : Proc). record p { rack = slice_set p.rack c.args.place c.args.to }) c.self.inside.procs.items c.args.process c.index_mut-p.result.now (attached_some c.args.self.now c.args.process c.requires) c.index_mut-p.ensures.value))

pub invariant_of-self : goal.invariant_of-self
invariant_of-self c =
    (c.self.invariant.0, c.self.invariant.1 ∙ sym (programs_set_to c.self.inside.procs.items (c.args.process - 1) c.index_mut-p.result.now _ refl refl c.index_mut-p.ensures.value))
