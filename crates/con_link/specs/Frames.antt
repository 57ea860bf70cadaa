-- The frames of a link, numbers with the high byte first.
use Rattle.std.specs.Prelude.{◌≡◌, ℕ, ◌+◌, ◌*◌, ◌/◌, ◌%◌, ◌&&◌, not, Bool, true, false, List, [], ◌∷◌, length, Option, IfSome, nat_lt, nat_le}
use Rattle.con_units.specs.declared.view.Frame.{Frame}
use Rattle.con_units.specs.declared.view.Frame.TheVariants.{Bytes, Quiet, Resize, Ask, Hangup, End}

-- a number of two bytes
abbrev pub two : ℕ → ℕ → ℕ
two high low = high * 256 + low

abbrev pub is_length : ℕ → Bool
is_length n = nat_lt 0 n && nat_le n 4096

abbrev pub is_size : ℕ → ℕ → Bool
is_size w h = (nat_lt 0 w && nat_le w 512) && (nat_lt 0 h && nat_le h 256)

-- the bytes of a frame; the link's end has none
abbrev pub spelling : Frame → List ℕ
spelling (Bytes bytes) = 66 ∷ length bytes / 256 ∷ length bytes % 256 ∷ bytes
spelling Quiet = 81 ∷ []
spelling (Resize size) = 82 ∷ size.w / 256 ∷ size.w % 256 ∷ size.h / 256 ∷ size.h % 256 ∷ []
spelling Ask = 80 ∷ []
spelling Hangup = 88 ∷ []
spelling End = []

-- what is stated of a frame's length and size
abbrev pub is_frame : Frame → Bool
is_frame (Bytes bytes) = is_length (length bytes)
is_frame (Resize size) = is_size size.w size.h
is_frame _ = true

-- the end stands where nothing is left
abbrev pub IsEnd : Frame → Option (List ℕ) → Type 0
IsEnd End left = IfSome left (λ rest. rest ≡ [])
IsEnd _ left = Unit {0}

-- no frame is read after this one
abbrev pub ends_link : Frame → Bool
ends_link Hangup = true
ends_link End = true
ends_link _ = false

abbrev pub goes_on : Frame → Bool
goes_on frame = not (ends_link frame)
