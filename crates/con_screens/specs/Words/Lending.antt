-- The words of the code and of laws about Lending, which a reader need not believe.
use Rattle.std.specs.Prelude.{ℕ}
use Rattle.std.specs.Borrow.{Lends, MutBor, Fml}
use Rattle.con_screen.specs.Screen.{Screen}
use Rattle.con_screen.specs.contracts.screen.Screen as screen
use Rattle.con_screens.specs.declared.buffer.Buffer.{Buffer}
use Rattle.con_screens.specs.Buffers.{Buffers}
use Rattle.con_screens.specs.Lending.{with_shown, screen_left}
use Rattle.con_screens.specs.contracts.buffer.Buffer as buffer
use Rattle.con_screens.specs.contracts.screens.Screens.{the_row}

abbrev pub shown_left : Buffer → Screen → Buffer
shown_left b s = with_shown s b

-- a buffer ends with the last screen behind r shown
abbrev pub LendsShown : MutBor Buffer → MutBor Screen → Fml
LendsShown s r = Lends buffer.the_row screen.the_row s r (shown_left s.now)

-- the buffers end with the last screen behind r shown in the buffer of the id
abbrev pub LendsScreen : MutBor Buffers → ℕ → MutBor Screen → Fml
LendsScreen s id r = Lends the_row screen.the_row s r (screen_left s.now id)
