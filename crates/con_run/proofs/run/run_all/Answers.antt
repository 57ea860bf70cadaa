use Rattle.std.proofs.Common.{rules, refl}
use Rattle.con_run.proofs.Crewing.{served_slice}
use Rattle.con_run.proofs.run.run_all.Goals as goal

pub returns-clause-clients : goal.returns-clause-clients
returns-clause-clients g c =
    served_slice _ c.args.clients.now.items c.as_mut_slice-slice.result.now c.run_beside.new.clients _ _ c.as_mut_slice-slice.ensures.value
    c.run_beside.ensures.clients
    (search rules) refl
