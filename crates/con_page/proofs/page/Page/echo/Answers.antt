use Rattle.std.proofs.Common.{◌+◌, length, refl}
use Rattle.con_page.specs.Echo.{changed}
use Rattle.con_page.proofs.EchoLemmas.{room_for}
use Rattle.con_page.proofs.page.Page.echo.Goals as goal

pub draw-requires-clause-inside : goal.draw-requires-clause-inside
draw-requires-clause-inside c =
    room_for c.args.self.now c.bring_in-at.new.self c.origin_in-at.result c.bring_in-at.result (c.args.offset + length c.args.units.now) c.requires.page c.bring_in-at.ensures.page c.bring_in-at.ensures.effect c.bring_in-at.ensures.origin

pub returns-clause-effect : goal.returns-clause-effect
unfolding changed
returns-clause-effect c =
    rw (c.show_cursor.ensures.effect, c.place_cursor.ensures.effect, c.draw.ensures.effect, c.bring_in-at.ensures.effect, c.bring_in-at.ensures.origin, c.origin_in-at.ensures.origin) refl
