-- The fields of a console's buffers.
use Rattle.con_screens.specs.Buffers.{Buffers}
use Rattle.con_screens.specs.declared.screens.Screens.TheInside.{Inside}

abbrev pub buffers_of : Inside → Buffers
buffers_of s = record { slots = s.slots.items; w = s.w; h = s.h; active = s.active; births = s.births }
