-- The keys of what was held fit.
use Rattle.con_machine.specs.Held.{state_of}
use Rattle.con_machine.proofs.Arriving.{quiet_fits}
use Rattle.con_machine.proofs.parts.Parts.quiet.Goals as goal

pub take_keys-requires : goal.take_keys-requires
take_keys-requires c =
    let room = rw (← c.self.view_is) at c.requires.room in
    quiet_fits (record (state_of c.self.inside) { held = c.quiet.new.self.held }) c.as_slice.result.now c.quiet.new.out.items c.clear.new.self.items _ _ _ _ c.as_slice.ensures.value c.clear.ensures.items c.as_slice.ensures.len c.clear.ensures.len c.quiet.ensures.few (c.quiet.ensures.units c.self.inside.cursor_keys) room
