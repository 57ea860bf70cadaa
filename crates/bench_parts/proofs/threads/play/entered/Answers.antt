-- The clients' closure lends a desk that may be shared, since a console that is lent may cross threads.
use denote.Exit.{no}
use denote.Param.{param}
use denote.Param.Send.{IsSend, IsSync, sendable, shr_sync}
use denote.Ref.{NamedLft, ShrRef}
use mir.Syntax.{named}
use Rattle.std.proofs.Common.{◌∷◌, []}
use Rattle.std.proofs.Crossing.{crosses}
use Rattle.std.specs.contracts.sync.Mutex as Mutex
use Rattle.bench_parts.specs.contracts.threads.client.Desk as desk
use Rattle.con_crossing.specs.Closures.{closure_sync}
use Rattle.con_crossing.specs.Consoles.{console_send}
use Rattle.bench_parts.proofs.threads.play.entered.Goals as goal

desk_send : (a : NamedLft) → IsSend (desk.the_row a)
desk_send a = search (sendable, crosses, console_send) depth 40

mutex_sync : (a : NamedLft) → IsSync (Mutex.the_row (desk.the_row a))
mutex_sync a = search (sendable, crosses, desk_send) depth 40

pub for_each_mut-requires-sync-F : goal.for_each_mut-requires-sync-F
for_each_mut-requires-sync-F g c κs within = closure_sync 2 _ no _ (
    ShrRef (named 6) κs.1.1.1.1.1.1.0 (param 0 g.row.R)
    ∷ ShrRef (named 7) κs.1.1.1.1.1.1.1.0 (Mutex.the_row (desk.the_row (record { mir = named 8; lft = κs.1.1.1.1.1.1.1.1.0 })))
    ∷ []) (shr_sync _ _ _ c.type_bounds.sync-R, (shr_sync _ _ _ (mutex_sync _), tt))
