-- The place of one buffer.
use Rattle.std.specs.Prelude.{ℕ, Option, None, Some, IfSome}
use Rattle.con_page.specs.Words.Page.{IsPage}
use Rattle.con_screens.specs.Words.Buffer.{IsBuffer, HasWindow}
use Rattle.con_screens.specs.declared.buffer.Buffer.{Buffer}

-- both screens, if there is a buffer, are within their bounds
abbrev pub HasPages : Option Buffer → Type 0
HasPages None = Unit {0}
HasPages (Some b) = IsPage b.shown.page × IsPage b.hidden.page

-- a buffer stays within bounds
abbrev pub Keeps : Option Buffer → Option Buffer → Type 0
Keeps old new = (w h births : ℕ) → IfSome old (IsBuffer w h births) → IfSome new (IsBuffer w h births)

-- both screens, if there is a buffer, have this window
abbrev pub HaveWindow : ℕ → ℕ → Option Buffer → Type 0
HaveWindow w h None = Unit {0}
HaveWindow w h (Some b) = HasWindow b.shown w h × HasWindow b.hidden w h

-- a buffer that is resized stays within bounds, which are the new window's
abbrev pub KeepsIn : ℕ → ℕ → ℕ → ℕ → Option Buffer → Option Buffer → Type 0
KeepsIn w h w' h' old new = (births : ℕ) → IfSome old (IsBuffer w h births) → IfSome new (IsBuffer w' h' births)
