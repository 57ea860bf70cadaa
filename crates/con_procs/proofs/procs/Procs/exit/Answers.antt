use Rattle.std.proofs.Common.{Some, ◌≡◌, ◌-◌, ◌∙◌, ap, List, length, take, true, rules}
use Rattle.std.specs.Prelude.{slice_get}
use Rattle.con_procs.proofs.Changes.{set_is, attached_some}
use Rattle.con_procs.specs.declared.proc.Proc.{Proc}
use Rattle.con_procs.proofs.Programs.{live_at, rank_within, programs_exited}
use Rattle.con_procs.specs.Procs.{programs_of}
use Rattle.con_procs.specs.Words.Procs.{live_in}
use Rattle.con_procs.proofs.procs.Procs.exit.Goals as goal

pub returns : goal.returns
returns c = rw (← c.self.view_is) (set_is (λ (p : Proc). record p { ended = Some c.args.status }) c.self.inside.procs.items c.args.process c.index_mut-p.result.now (attached_some c.args.self.now c.args.process c.requires) c.index_mut-p.ensures.value)

pub remove-requires : goal.remove-requires
remove-requires c =
    let ps = c.self.inside.procs.items in
    let live : live_in (slice_get ps (c.args.process - 1)) ≡ true = rw c.self.view_is (live_at c.args.self.now c.args.process c.requires) in
    let less = rank_within ps (c.args.process - 1) live in
    let at = c.rank-at.ensures ∙ ap (λ (qs : List Proc). length (programs_of (take (c.args.process - 1) qs))) c.as_slice.ensures.value in
    let all = ap length c.self.invariant.1 in
    search (rules, less, at, all)

pub invariant_of-self : goal.invariant_of-self
invariant_of-self c =
    let ps = c.self.inside.procs.items in
    let live : live_in (slice_get ps (c.args.process - 1)) ≡ true = rw c.self.view_is (live_at c.args.self.now c.args.process c.requires) in
    let at = c.rank-at.ensures ∙ ap (λ (qs : List Proc). length (programs_of (take (c.args.process - 1) qs))) c.as_slice.ensures.value in
    (c.self.invariant.0, rw (c.remove.ensures.items, c.self.invariant.1, at) (programs_exited ps (c.args.process - 1) c.args.status c.index_mut-p.result.now live c.index_mut-p.ensures.value))
