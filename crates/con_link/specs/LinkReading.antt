-- What is read of a link, plainly, and with a second terminal: the answers, and the bytes that each took.
use Rattle.std.specs.Prelude.{◌≡◌, ℕ, ◌+◌, ◌≤◌, ◌&&◌, ◌||◌, Bool, true, false, List, [], ◌∷◌, ◌++◌, length, map, Option, IfSome, IsTrue, nat_eq, nat_lt, Result, Ok, Err, if◌then◌else◌}
use Rattle.std.specs.List.{list_all}
use Rattle.std.proofs.Common.{refl}
use Rattle.std.proofs.lemmas.List.{map-append}
use Rattle.con_units.specs.declared.view.Frame.{Frame}
use Rattle.con_units.specs.declared.view.FrameFault.{FrameFault}
use Rattle.con_units.specs.declared.view.FrameFault.TheVariants as kinds
use Rattle.con_link.specs.declared.fault.LinkFault.{LinkFault}
use Rattle.con_link.specs.declared.fault.LinkFault.TheVariants as faults
use Rattle.con_link.specs.declared.mirror.MirrorFrame.{MirrorFrame}
use Rattle.con_link.specs.Frames.{two, is_length, is_size, spelling, is_frame, IsEnd, goes_on, ends_link}
use Rattle.con_link.specs.Mirrored.{row}

-- the frames, and whether there may be a second terminal; of each frame its bytes, what is stated of its numbers, and what it counts as to the console, alone
-- and in a list, which plainly is the list itself
pub record LinkReading : Type 1 where
  pub One : Type 0
  pub second : Bool
  pub spelling : One → List ℕ
  pub is_one : One → Bool
  pub plain : One → Frame
  pub plains : List One → List Frame
  pub none : plains [] ≡ []
  pub more : (fs : List One) (f : One) → plains (fs ++ f ∷ []) ≡ plains fs ++ plain f ∷ []

abbrev pub plainly : LinkReading
plainly = record { One = Frame; second = false; spelling = spelling; is_one = is_frame; plain = λ f. f; plains = λ fs. fs; none = refl; more = λ fs f. refl }

abbrev pub mirrored : LinkReading
mirrored = record {
  One = MirrorFrame;
  second = true;
  spelling = λ f. (row f).0;
  is_one = λ f. (row f).1;
  plain = λ f. (row f).2;
  plains = map (λ f. (row f).2);
  none = refl;
  more = λ fs f. map-append (λ g. (row g).2) fs (f ∷ []);
}

-- what stands behind a B that is no whole frame yet: nothing, or one byte; or both bytes of a length of 1 to 4,096, and fewer bytes than it says
abbrev pub is_part_of_bytes : List ℕ → Bool
is_part_of_bytes (high ∷ low ∷ bytes) = is_length (two high low) && nat_lt (length bytes) (two high low)
is_part_of_bytes _ = true

-- the first byte of a frame of a size
abbrev pub is_sized : Bool → ℕ → Bool
is_sized second tag = (second && nat_eq tag 65) || nat_eq tag 82

-- nothing, or the first bytes of a frame and not all of them
abbrev pub is_less : Bool → List ℕ → Bool
is_less second [] = true
is_less second (tag ∷ more) = if nat_eq tag 66 then is_part_of_bytes more else is_sized second tag && nat_lt (length more) 4

-- The bytes up to the one that shows this fault: a first byte that no frame has; a B and a length that is none; an R, or an A where there may be a second
-- terminal, and a size that is none; or the first bytes of a frame, one at least and not all, where nothing is left of the link, if that is told.
abbrev pub ShowsBy : (R : LinkReading) → FrameFault → List ℕ → Option (List ℕ) → Type 0
ShowsBy R kinds.Tag text left = (tag : ℕ) × (text ≡ tag ∷ []) × ((f : R.One) (more : List ℕ) → R.spelling f ≡ tag ∷ more → ⊥)
ShowsBy R kinds.Length text left = (high low : ℕ) × (text ≡ 66 ∷ high ∷ low ∷ []) × (is_length (two high low) ≡ false)
ShowsBy R kinds.Size text left =
    (tag a b c d : ℕ) × (text ≡ tag ∷ a ∷ b ∷ c ∷ d ∷ []) × IsTrue (is_sized R.second tag) × (is_size (two a b) (two c d) ≡ false)
ShowsBy R kinds.Cut text left = (text ≡ [] → ⊥) × IsTrue (is_less R.second text) × IfSome left (λ rest. rest ≡ [])

-- What was taken from the link, and what is left of it, for each answer. The place is that of the first byte taken. A frame took its own bytes, the link's end
-- none, where nothing is left, if that is told; a fault took those up to the one that shows it; a failure and want of memory took nothing, or the first bytes
-- of a frame and not all. All these lie within 16,777,216 bytes of the link; too long is the byte behind them, before which nothing of a frame was taken, or
-- the first bytes and not all.
abbrev pub AnswersBy : (R : LinkReading) → Result R.One LinkFault → ℕ → List ℕ → Option (List ℕ) → Type 0
AnswersBy R (Ok frame) place text left = (text ≡ R.spelling frame) × IsTrue (R.is_one frame) × IsEnd (R.plain frame) left × (place + length text ≤ 16777216)
AnswersBy R (Err (faults.Bad at kind)) place text left = (at ≡ place) × ShowsBy R kind text left × (place + length text ≤ 16777216)
AnswersBy R (Err faults.TooLong) place text left =
    (place + length text ≡ 16777217) × (front : List ℕ) × (byte : ℕ) × (text ≡ front ++ byte ∷ []) × IsTrue (is_less R.second front)
AnswersBy R (Err _) place text left = IsTrue (is_less R.second text) × (place + length text ≤ 16777216)

abbrev pub all_go_on : (R : LinkReading) → List R.One → Bool
all_go_on R fs = list_all (λ f. goes_on (R.plain f)) fs

-- frames of which the last one, and it alone, ends the link, of which this is left
abbrev pub IsLinkBy : (R : LinkReading) → List R.One → Option (List ℕ) → Type 0
IsLinkBy R frames left = (front : List R.One) × (last : R.One) × (frames ≡ front ++ last ∷ []) × (all_go_on R front ≡ true)
    × (ends_link (R.plain last) ≡ true) × IsEnd (R.plain last) left
