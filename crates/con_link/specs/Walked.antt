-- How the reader goes over a link's bytes, as its code does, by tests of each first byte: plainly, and with a second terminal. What is promised of it is
-- said in the reading's own words, which these are proved to be.
use Rattle.std.specs.Prelude.{◌≡◌, ◌⊎◌, ℕ, ◌+◌, ◌≤◌, ◌<◌, ◌||◌, ◌&&◌, not, Bool, true, false, cond, List, [], ◌∷◌, ◌++◌, length, Option, IfSome, IsTrue, nat_eq, nat_lt, Result, Ok, Err}
use Rattle.con_units.specs.declared.view.Frame.{Frame}
use Rattle.con_units.specs.declared.view.FrameFault.{FrameFault}
use Rattle.con_units.specs.declared.view.FrameFault.TheVariants as kinds
use Rattle.con_link.specs.declared.fault.LinkFault.{LinkFault}
use Rattle.con_link.specs.declared.fault.LinkFault.TheVariants as faults
use Rattle.con_link.specs.declared.fill.Filled.{Filled}
use Rattle.con_link.specs.declared.fill.Filled.TheVariants as fills
use Rattle.con_link.specs.declared.mirror.MirrorFrame.{MirrorFrame}
use Rattle.con_link.specs.Frames.{two, is_length, is_size, spelling, is_frame, IsEnd}
use Rattle.con_link.specs.LinkReading.{is_part_of_bytes}
use Rattle.con_link.specs.Words.Mirrored.{mirror_spelling, is_mirror_frame, as_plain}

-- ---- a buffer that is filled

-- these bytes have a last one, and without it they do not fill the room
abbrev pub HasLast : List ℕ → ℕ → Type 0
HasLast text room = (front : List ℕ) × (byte : ℕ) × (text ≡ front ++ byte ∷ []) × (length front < room)

-- What was taken to fill a buffer, what the buffer holds, what is left, and the number of all bytes taken.
abbrev pub Fills : Filled → List ℕ → List ℕ → Option (List ℕ) → ℕ → Type 0
Fills fills.Full text buf left taken = (buf ≡ text) × (taken ≤ 16777216)
Fills fills.Cut text buf left taken = (length text < length buf) × (taken ≤ 16777216) × IfSome left (λ rest. rest ≡ [])
Fills fills.TooLong text buf left taken = (taken ≡ 16777217) × HasLast text (length buf)
Fills fills.Failed text buf left taken = (length text < length buf) × (taken ≤ 16777216)

-- the answer where a buffer was not filled
abbrev pub fault_as : Filled → ℕ → LinkFault
fault_as fills.Full place = faults.Failed
fault_as fills.Cut place = faults.Bad place kinds.Cut
fault_as fills.TooLong place = faults.TooLong
fault_as fills.Failed place = faults.Failed

-- ---- a link with no second terminal

-- the first bytes of a frame, and not all of them
abbrev pub is_part : List ℕ → Bool
is_part [] = false
is_part (tag ∷ more) = cond (nat_eq tag 66) (is_part_of_bytes more) (nat_eq tag 82 && nat_lt (length more) 4)

-- nothing, or the first bytes of a frame and not all of them
abbrev pub is_less : List ℕ → Bool
is_less [] = true
is_less (tag ∷ more) = is_part (tag ∷ more)

-- all of these bytes but the last are less than a frame
abbrev pub IsLessButLast : List ℕ → Type 0
IsLessButLast text = (front : List ℕ) × (byte : ℕ) × (text ≡ front ++ byte ∷ []) × IsTrue (is_less front)

-- another first byte than a frame has
abbrev pub is_tag : ℕ → Bool
is_tag tag = nat_eq tag 66 || nat_eq tag 81 || nat_eq tag 82 || nat_eq tag 80 || nat_eq tag 88

abbrev pub is_bad_tag : List ℕ → Bool
is_bad_tag (tag ∷ []) = not (is_tag tag)
is_bad_tag [] = false
is_bad_tag (tag ∷ more ∷ rest) = false

abbrev pub IsBadLength : List ℕ → Type 0
IsBadLength text = (high low : ℕ) × (text ≡ 66 ∷ high ∷ low ∷ []) × (is_length (two high low) ≡ false)

abbrev pub IsBadSize : List ℕ → Type 0
IsBadSize text = (a b c d : ℕ) × (text ≡ 82 ∷ a ∷ b ∷ c ∷ d ∷ []) × (is_size (two a b) (two c d) ≡ false)

-- the bytes up to the one that shows this fault; a cut one shows at the link's end
abbrev pub Fails : FrameFault → List ℕ → Option (List ℕ) → Type 0
Fails kinds.Tag text left = IsTrue (is_bad_tag text)
Fails kinds.Length text left = IsBadLength text
Fails kinds.Size text left = IsBadSize text
Fails kinds.Cut text left = IsTrue (is_part text) × IfSome left (λ rest. rest ≡ [])

-- What was taken from the link, and what is left of it, for each answer. The place is that of the first byte taken.
abbrev pub Takes : Result Frame LinkFault → ℕ → List ℕ → Option (List ℕ) → Type 0
Takes (Ok frame) place text left = (text ≡ spelling frame) × IsTrue (is_frame frame) × IsEnd frame left × (place + length text ≤ 16777216)
Takes (Err (faults.Bad at kind)) place text left = (at ≡ place) × Fails kind text left × (place + length text ≤ 16777216)
Takes (Err faults.TooLong) place text left = (place + length text ≡ 16777217) × IsLessButLast text
Takes (Err faults.Failed) place text left = IsTrue (is_less text) × (place + length text ≤ 16777216)
Takes (Err faults.OutOfMemory) place text left = IsTrue (is_less text) × (place + length text ≤ 16777216)

-- ---- a link that may have one

-- the first bytes of an attaching frame, and not all of them
abbrev pub is_part_of_attach : List ℕ → Bool
is_part_of_attach [] = false
is_part_of_attach (tag ∷ more) = nat_eq tag 65 && nat_lt (length more) 4

abbrev pub is_mirror_part : List ℕ → Bool
is_mirror_part text = is_part text || is_part_of_attach text

-- nothing, or the first bytes of a frame and not all of them
abbrev pub is_mirror_less : List ℕ → Bool
is_mirror_less [] = true
is_mirror_less (tag ∷ more) = is_mirror_part (tag ∷ more)

-- all of these bytes but the last are less than a frame
abbrev pub IsMirrorLessButLast : List ℕ → Type 0
IsMirrorLessButLast text = (front : List ℕ) × (byte : ℕ) × (text ≡ front ++ byte ∷ []) × IsTrue (is_mirror_less front)

abbrev pub is_mirror_tag : ℕ → Bool
is_mirror_tag tag = is_tag tag || (nat_eq tag 65 || nat_eq tag 68)

-- another first byte than a frame has
abbrev pub is_bad_mirror_tag : List ℕ → Bool
is_bad_mirror_tag (tag ∷ []) = not (is_mirror_tag tag)
is_bad_mirror_tag [] = false
is_bad_mirror_tag (tag ∷ more ∷ rest) = false

abbrev pub IsBadAttach : List ℕ → Type 0
IsBadAttach text = (a b c d : ℕ) × (text ≡ 65 ∷ a ∷ b ∷ c ∷ d ∷ []) × (is_size (two a b) (two c d) ≡ false)

-- the bytes up to the one that shows this fault; a cut one shows at the link's end
abbrev pub MirrorFails : FrameFault → List ℕ → Option (List ℕ) → Type 0
MirrorFails kinds.Tag text left = IsTrue (is_bad_mirror_tag text)
MirrorFails kinds.Length text left = IsBadLength text
MirrorFails kinds.Size text left = IsBadSize text ⊎ IsBadAttach text
MirrorFails kinds.Cut text left = IsTrue (is_mirror_part text) × IfSome left (λ rest. rest ≡ [])

-- What was taken from the link, and what is left of it, for each answer. The place is that of the first byte taken.
abbrev pub MirrorTakes : Result MirrorFrame LinkFault → ℕ → List ℕ → Option (List ℕ) → Type 0
MirrorTakes (Ok frame) place text left =
    (text ≡ mirror_spelling frame) × IsTrue (is_mirror_frame frame) × IsEnd (as_plain frame) left × (place + length text ≤ 16777216)
MirrorTakes (Err (faults.Bad at kind)) place text left = (at ≡ place) × MirrorFails kind text left × (place + length text ≤ 16777216)
MirrorTakes (Err faults.TooLong) place text left = (place + length text ≡ 16777217) × IsMirrorLessButLast text
MirrorTakes (Err faults.Failed) place text left = IsTrue (is_mirror_less text) × (place + length text ≤ 16777216)
MirrorTakes (Err faults.OutOfMemory) place text left = IsTrue (is_mirror_less text) × (place + length text ≤ 16777216)
