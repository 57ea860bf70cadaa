-- Which lines of a history a report tells: all of them, up to a picture that has no length.
use Rattle.std.specs.Prelude.{◌&&◌, ℕ, Bool, true, false, List, [], ◌∷◌, if◌then◌else◌}
use Rattle.con_events.specs.declared.entry.Entry.{Entry}
use Rattle.con_events.specs.declared.event.Event.{Event}
use Rattle.con_events.specs.declared.event.Event.TheVariants as event
use Rattle.con_events.specs.declared.reply.Reply.{Reply}
use Rattle.con_trace.specs.Report.{next_end}
use Rattle.con_lines.specs.declared.said.Said.{Said}

-- a picture has one of the lengths that are still to come, and any other event none
abbrev pub has_end : Event → List ℕ → Bool
has_end event.Paint [] = false
has_end event.Paint (n ∷ ns) = true
has_end other ns = true

abbrev pub told : List Entry → List Reply → List ℕ → List Said
told (e ∷ es) (r ∷ rs) ns = if has_end e.event ns
    then (let s : Said = record { entry = e; reply = r; end = (next_end e.event ns).0 } in s) ∷ told es rs (next_end e.event ns).1 else []
told _ _ ns = []

-- each picture has a length
abbrev pub is_told : List Entry → List Reply → List ℕ → Bool
is_told (e ∷ es) (r ∷ rs) ns = has_end e.event ns && is_told es rs (next_end e.event ns).1
is_told _ _ ns = true
