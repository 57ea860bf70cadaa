-- A resize of the window counts no handle.
use Rattle.std.proofs.Common.{◌≡◌, ℕ, zero, suc, List, [], ◌∷◌, map, get_or, Option, None, Some, refl, ◌∙◌}
use Rattle.std.specs.Option.{option_map, option_map_or}
use Rattle.con_units.specs.declared.place.Size.{Size}
use Rattle.con_handles.specs.declared.handle.Handle.{Handle}
use Rattle.con_screens.specs.Buffers.{Buffers}
use Rattle.con_screens.specs.Resize.{buffer_resized, all_resized}
use Rattle.con_screens.specs.declared.buffer.Buffer.{Buffer}
use Rattle.con_machine.specs.Sound.{AreCounted}

slot_handles : (w : Size) (o : Option Buffer) → option_map_or (λ b. b.handles) (option_map (buffer_resized w) o) 0 ≡ option_map_or (λ b. b.handles) o 0
slot_handles w None = refl
slot_handles w (Some b) = refl

slots_handles : (w : Size) (xs : List (Option Buffer)) (k : ℕ) → option_map_or (λ b. b.handles) (get_or (map (option_map (buffer_resized w)) xs) k None) 0 ≡ option_map_or (λ b. b.handles) (get_or xs k None) 0
slots_handles w [] k = refl
slots_handles w (x ∷ xs) zero = slot_handles w x
slots_handles w (x ∷ xs) (suc k) = slots_handles w xs k

pub resized_counts : (b : Buffers) (w : Size) (hs : List Handle) → AreCounted b hs → AreCounted (all_resized b w) hs
resized_counts b w hs counted = record { each = λ k other. slots_handles w b.slots k ∙ counted.each k other }
