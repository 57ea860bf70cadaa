use Rattle.std.proofs.Common.{sym, subst}
use Rattle.con_units.specs.declared.view.View.{View}
use Rattle.con_page.specs.Sides.{sides}
use Rattle.con_screens.specs.Buffers.{screen_at}
use Rattle.con_screens.specs.Words.Stamps.{WasShown}
use Rattle.con_machine.proofs.Knows.{known_was}
use Rattle.con_machine.proofs.painting.showing.view_behind.Goals as goal

pub renewed-requires-clause-known : goal.renewed-requires-clause-known
renewed-requires-clause-known c =
    let b = c.args.screens.now in
    subst (λ (v : View). WasShown (sides (screen_at b b.active).page) (screen_at b b.active).page.left (screen_at b b.active).page.top v) (sym c.in_ok-copy-in-Some.ensures)
    (known_was b c.args.seen c.args.painted.now _ c.requires.buffers c.requires.seen (c.is_known.ensures.0 c.if-not-is_known.false) c.in-Some.is)
