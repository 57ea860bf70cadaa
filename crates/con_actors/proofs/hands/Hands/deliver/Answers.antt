use Rattle.con_actors.proofs.HandsLaws.{delivered_hands}
use Rattle.con_actors.proofs.hands.Hands.deliver.Goals as goal

pub returns-in-Handled-clause-handled : goal.returns-in-Handled-clause-handled
returns-in-Handled-clause-handled g c = λ hs d are. delivered_hands _ _ c.args.event _ _ _ c.in-Handled.ensures hs d _ are

pub returns-in-Unhandled-clause-handled : goal.returns-in-Unhandled-clause-handled
returns-in-Unhandled-clause-handled g c = λ hs d are. delivered_hands _ _ c.args.event _ _ _ c.in-Unhandled.ensures hs d _ are
