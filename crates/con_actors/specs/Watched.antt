-- What a second terminal's size and picture become in a history, walked entry by entry, as the proofs go.
use Rattle.std.specs.Prelude.{◌≡◌, ℕ, Bool, true, false, is_some, List, [], ◌∷◌, ◌++◌, drop, fold, slice_get, Option, Some, None, if◌then◌else◌}
use Rattle.con_units.specs.declared.place.Size.{Size}
use Rattle.con_units.specs.declared.view.View.{View}
use Rattle.con_units.specs.declared.view.Sight.{Sight}
use Rattle.con_units.specs.declared.view.Sight.TheVariants as sights
use Rattle.con_link.specs.declared.mirror.MirrorFrame.{MirrorFrame}
use Rattle.con_link.specs.declared.mirror.MirrorFrame.TheVariants.{Attach, Detach}
use Rattle.con_mirror.specs.Part.{part}
use Rattle.con_events.specs.declared.entry.Entry.{Entry}
use Rattle.con_events.specs.declared.event.Event.{Event}
use Rattle.con_events.specs.declared.event.Event.TheVariants as events
use Rattle.con_machine.specs.Painting.{view_now}
use Rattle.con_machine.specs.State.{State}
use Rattle.con_machine.specs.Turns.{moved, is_terminal}

-- the last of these, or else this
abbrev pub end_of : ℕ → List ℕ → ℕ
end_of before es = fold (λ b e. e) before es

-- the frames for which the terminal's side has still to enter an event, and the size of the second terminal, if one is attached
pub record Watch : Type 0 where
  pub coming : List MirrorFrame
  pub at : Option Size

-- at a session's beginning none is
abbrev pub watch : List MirrorFrame → Watch
watch frames = record { coming = frames; at = None }

-- A attaches one of its size, D detaches it
abbrev pub attached_by : Option Size → Option MirrorFrame → Option Size
attached_by at (Some (Attach size)) = Some size
attached_by at (Some Detach) = None
attached_by at _ = at

-- A and D enter Asks; an event of the terminal's side stands for the next frame
abbrev pub watched_at : Watch → Event → Watch
watched_at w events.Ask = record { coming = drop 1 w.coming; at = attached_by w.at (slice_get w.coming 0) }
watched_at w _ = record { coming = drop 1 w.coming; at = w.at }

abbrev pub watched : Watch → Entry → Watch
watched w x = if is_terminal x.actor then watched_at w x.event else w

-- an A's terminal begins: any of its size
abbrev pub begins_by : Option MirrorFrame → List Sight
begins_by (Some (Attach size)) = sights.Resize size ∷ []
begins_by _ = []

-- a Paint is mirrored where one is attached: its part of the view
abbrev pub mirrored_to : Option Size → View → List Sight
mirrored_to None v = []
mirrored_to (Some size) v = sights.Paint (part v size) ∷ []

abbrev pub begun_at : Watch → Event → List Sight
begun_at w events.Ask = begins_by (slice_get w.coming 0)
begun_at w _ = []

abbrev pub painted_at : Watch → State → Event → List Sight
painted_at w s events.Paint = mirrored_to w.at (view_now s)
painted_at w s _ = []

abbrev pub seconds_at : Watch → State → Entry → List Sight
seconds_at w s x = if is_terminal x.actor then begun_at w x.event else painted_at w s x.event

-- the sizes of the attaching frames and the parts that the mirrored Paints show, in order
abbrev pub seconds_of : Watch → State → List Entry → List Sight
seconds_of w s [] = []
seconds_of w s (x ∷ xs) = seconds_at w s x ++ seconds_of (watched w x) (moved s x) xs

-- for each Paint, whether it is mirrored
abbrev pub flag_at : Watch → Event → List Bool
flag_at w events.Paint = is_some w.at ∷ []
flag_at w _ = []

abbrev pub flags_of : Watch → List Entry → List Bool
flags_of w [] = []
flags_of w (x ∷ xs) = flag_at w x.event ++ flags_of (watched w x) xs

-- of the ends of all Paints, those of the mirrored ones
abbrev pub picked : List Bool → List ℕ → List ℕ
picked [] es = []
picked (b ∷ bs) [] = []
picked (true ∷ bs) (e ∷ es) = e ∷ picked bs es
picked (false ∷ bs) (e ∷ es) = picked bs es

-- at every other Paint the stream does not grow
abbrev pub Stays : ℕ → List Bool → List ℕ → Type 0
Stays from [] es = Unit {0}
Stays from (b ∷ bs) [] = Unit {0}
Stays from (true ∷ bs) (e ∷ es) = Stays e bs es
Stays from (false ∷ bs) (e ∷ es) = (e ≡ from) × Stays e bs es
