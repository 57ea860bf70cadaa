-- The words of the code and of laws about Resize, which a reader need not believe.
use Rattle.std.specs.Prelude.{ℕ, ◌≡◌, ◌≤◌, ◌<◌, Bool, not, List, length, Option, None, Some, slice_index_or, if◌then◌else◌}
use Rattle.con_units.specs.declared.place.Size.{Size}
use Rattle.con_page.specs.Page.{Page}
use Rattle.con_page.specs.Words.Fit.{IsFit}
use Rattle.con_screens.specs.declared.buffer.Buffer.{Buffer}
use Rattle.con_screens.specs.Buffers.{Buffers, buffer_at}
use Rattle.con_screens.specs.Resize.{size_after}
use Rattle.con_screens.specs.declared.fits.BufferFit.{BufferFit}

-- the size of a screen after a resize: an alternate one is as large as the window
abbrev pub target : Bool → Page → Size → Size
target is_alternate p window = if is_alternate then window else size_after p window

pub record IsBufferFit (window : Size) (b : Buffer) (f : BufferFit) : Type 0 where
  pub shown : IsFit b.shown.page f.shown
  pub hidden : IsFit b.hidden.page f.hidden
  pub shown_buffer : f.shown.buffer ≡ target b.alternate b.shown.page window
  pub hidden_buffer : f.hidden.buffer ≡ target (not b.alternate) b.hidden.page window
  pub shown_window : f.shown.window ≡ window
  pub hidden_window : f.hidden.window ≡ window

-- a fit for a buffer, and none where there is none
abbrev pub IsSlotFit : Size → Option Buffer → Option BufferFit → Type 0
IsSlotFit window None None = Unit {0}
IsSlotFit window None (Some f) = ⊥
IsSlotFit window (Some b) None = ⊥
IsSlotFit window (Some b) (Some f) = IsBufferFit window b f

-- what is made ready for all buffers
pub record Fits : Type 0 where
  pub window : Size
  pub slots : List (Option BufferFit)

pub record AreFits (s : Buffers) (f : Fits) : Type 0 where
  pub some : (0 < f.window.w) × (0 < f.window.h)
  pub few : (f.window.w ≤ 512) × (f.window.h ≤ 256)
  pub count : length f.slots ≡ length s.slots
  pub each : (id : ℕ) → IsSlotFit f.window (buffer_at s id) (slice_index_or f.slots id None)
