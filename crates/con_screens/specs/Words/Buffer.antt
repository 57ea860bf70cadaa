-- The words of the code and of laws about Buffer, which a reader need not believe.
use Rattle.std.specs.Prelude.{ℕ, ◌≡◌, ◌<◌, Bool, true, false, if◌then◌else◌}
use Rattle.con_page.specs.Words.Page.{IsPage}
use Rattle.con_screen.specs.Screen.{Screen}
use Rattle.con_screen.specs.Written.{Stage}
use Rattle.con_screen.specs.Alternate.{alternate_begun, mode_taken}
use Rattle.con_screens.specs.Buffer.{turned, BufferStage}
use Rattle.con_screens.specs.declared.buffer.Buffer.{Buffer}

abbrev pub main_screen : Buffer → Screen
main_screen b = if b.alternate then b.hidden else b.shown

abbrev pub alternate_screen : Buffer → Screen
alternate_screen b = if b.alternate then b.shown else b.hidden

-- a screen of this window
pub record HasWindow (s : Screen) (w h : ℕ) : Type 0 where
  pub page : IsPage s.page
  pub wide : s.page.w ≡ w
  pub tall : s.page.h ≡ h

-- both screens have the window's size, and the alternate one is no larger
pub record IsBuffer (w h births : ℕ) (b : Buffer) : Type 0 where
  pub shown : HasWindow b.shown w h
  pub hidden : HasWindow b.hidden w h
  pub columns : (alternate_screen b).page.grid.width ≡ w
  pub rows : (alternate_screen b).page.grid.height ≡ h
  pub born : b.birth < births

-- ---- the same in its parts

-- a screen that came of the shown one, in its place; and the other one shown, where the text switched
abbrev pub carried : Buffer → Stage → Bool → BufferStage
carried b st switch = record {
  buffer = if switch then turned (record b { shown = st.screen }) st.told.alternate
      else record b { shown = st.screen };
  told = st.told;
}

-- the alternate screen comes to be shown, unless it is
abbrev pub alternate_on : Buffer → Buffer
alternate_on b = if b.alternate then b else record b { shown = alternate_begun b.hidden b.shown; hidden = b.shown; alternate = true }

-- the main screen comes to be shown as it was left, in the mode of the alternate one, unless it is shown
abbrev pub alternate_off : Buffer → Buffer
alternate_off b = if b.alternate then record b { shown = mode_taken b.hidden b.shown.page; hidden = b.shown; alternate = false } else b
