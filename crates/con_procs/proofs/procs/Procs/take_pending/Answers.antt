use Rattle.std.proofs.Common.{◌<◌, ◌≤◌, ◌-◌, length, ◌∙◌, arith, drop, sym, refl}
use Rattle.con_procs.proofs.Programs.{programs_set_to}
use Rattle.con_procs.proofs.Changes.{set_is, changed_past, first_at, not_zero}
use Rattle.con_procs.specs.declared.proc.Proc.{Proc}
use Rattle.con_procs.proofs.procs.Procs.take_pending.Goals as goal

pub returns-then-at-len-clause-rest : goal.returns-then-at-len-clause-rest
returns-then-at-len-clause-rest c =
    let past : length c.self.inside.procs.items ≤ c.args.process - 1 = omega arith in
    rw (← c.self.view_is) (changed_past (λ (p : Proc). record p { pending = drop 1 p.pending }) c.self.inside.procs.items c.args.process (not_zero c.args.process (omega arith)) past)

pub returns-clause-first : goal.returns-clause-first
returns-clause-first c =
    let within : c.args.process - 1 < length c.self.inside.procs.items = omega arith in
    rw (← c.self.view_is) (c.take.ensures.first ∙ first_at c.self.inside.procs.items c.args.process c.index_mut-p.result.now (not_zero c.args.process (omega arith)) within c.index_mut-p.ensures.value)

pub returns-clause-rest : goal.returns-clause-rest
returns-clause-rest c = rw (c.take.ensures.rest, ← c.self.view_is) (set_is (λ (p : Proc). record p { pending = drop 1 p.pending }) c.self.inside.procs.items c.args.process c.index_mut-p.result.now (not_zero c.args.process (omega arith)) c.index_mut-p.ensures.value)

pub invariant_of-self : goal.invariant_of-self
invariant_of-self c =
    (c.self.invariant.0, c.self.invariant.1 ∙ sym (programs_set_to c.self.inside.procs.items (c.args.process - 1) c.index_mut-p.result.now _ refl refl c.index_mut-p.ensures.value))
