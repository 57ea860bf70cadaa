-- The window of the active buffer, and bytes that show it.
use Rattle.std.proofs.Common.{◌≡◌, ◌∙◌, ◌∷◌, ap, arith, ◌<◌, ℕ, ◌*◌, ◌≤◌, Option, Some, None, List, [], length, drop, Ok, Err, refl, sym, subst}
use Rattle.std.specs.Prelude.{IsSome, IfSome, IfOk, Result}
use Rattle.std.specs.Option.{IsSomeAnd}
use Rattle.con_units.specs.declared.view.View.{View}
use Rattle.con_screen.specs.ModeSet.{mode_set}
use Rattle.con_screen.specs.Screen.{Screen}
use Rattle.con_screens.specs.Buffer.{new_screen}
use Rattle.con_screens.specs.Buffers.{Buffers, buffer_at, first_buffers}
use Rattle.con_screens.specs.Lending.{screen_left}
use Rattle.con_screens.specs.declared.buffer.Buffer.{Buffer}
use Rattle.con_screens.specs.View.{view_of}
use Rattle.con_term.specs.Terminal.{Terminal, IsTerminal, Shows}
use Rattle.con_term.specs.Play.{play, printed}
use Rattle.con_paint.specs.Painter.{Kept, Allows, Paints, unpainted}
use Rattle.con_text.specs.Words.Typing.{Typing, opening, ended, units_typed, ShowsBuffers, PrintsAtMost}

-- the mode was set on the main screen of the first buffers
pub opened_is : (s : Buffers) (x y : Screen) → s ≡ first_buffers 80 25 → IfSome (buffer_at s 0) (λ b. x ≡ b.shown) → y ≡ mode_set x 7 → screen_left s 0 y ≡ opening
opened_is s x y e is set =
    let x_is : x ≡ new_screen 80 25 = subst (λ (t : Buffers). IfSome (buffer_at t 0) (λ b. x ≡ b.shown)) e is in
    rw (e, set, x_is) refl

pub ok_mapped : {A E : Type 0} (r : Result A E) (P Q : A → Type 0) → ((a : A) → P a → Q a) → IfOk r P → IfOk r Q
ok_mapped (Ok a) P Q f h = f a h
ok_mapped (Err e) P Q f h = h

-- a terminal of 80 by 25 is one of the view's size
sized : (v : View) (t : Terminal) → (v.size.w ≡ 80) × (v.size.h ≡ 25) → IsTerminal 80 25 t → IsTerminal v.size.w v.size.h t
sized v t sides terminal = subst (λ k. IsTerminal v.size.w k t) (sym sides.1) (subst (λ k. IsTerminal k 25 t) (sym sides.0) terminal)

-- bytes that show a view of the active buffer
pub shows_buffers : (s : Buffers) (v : View) (bytes : List ℕ) → IsSome (buffer_at s s.active) → IfSome (buffer_at s s.active) (λ b. v ≡ view_of b.shown.page) → (v.size.w ≡ 80) × (v.size.h ≡ 25)
    → ((t : Terminal) → IsTerminal v.size.w v.size.h t → Shows (play t bytes) v) → ShowsBuffers bytes s
shows_buffers s v bytes live is sides shows = by_slot (buffer_at s s.active) live is
  where
    by_slot : (o : Option Buffer) → IsSome o → IfSome o (λ b. v ≡ view_of b.shown.page) → IsSomeAnd o (λ b. (t : Terminal) → IsTerminal 80 25 t → Shows (play t bytes) (view_of b.shown.page))
    by_slot None live is = absurd (cc)
    by_slot (Some b) live is = λ t terminal. subst (λ (x : View). Shows (play t bytes) x) is (shows t (sized v t sides terminal))

pub prints_few : (v : View) (bytes : List ℕ) → (v.size.w ≡ 80) × (v.size.h ≡ 25) → ((t : Terminal) → IsTerminal v.size.w v.size.h t → printed t bytes ≤ v.size.w * v.size.h) → PrintsAtMost 2000 bytes
prints_few v bytes sides few = λ t terminal.
    subst (λ k. printed t bytes ≤ 80 * k) sides.1 (subst (λ k. printed t bytes ≤ k * v.size.h) sides.0 (few t (sized v t sides terminal)))

-- the first frame of a painter shows its view
pub first_frame : (p q : Kept) (v : View) (t : Terminal) (old new : List ℕ) → p ≡ unpainted v.size.w v.size.h → old ≡ [] → IsTerminal v.size.w v.size.h t → ((t : Terminal) → Allows p t → Paints p q v (drop (length old) new) t) → Shows (play t new) v
first_frame p q v t old new is none terminal paints =
    let allows : Allows p t = subst (λ (k : Kept). Allows k t) (sym is) (record { terminal = terminal; agrees = λ e. absurd (cc) }) in
    subst (λ (xs : List ℕ). Shows (play t (drop (length xs) new)) v) none (paints t allows).shows

-- a text that ends in the midst of a character, and one that does not
pub ended_cut : (t : Typing) (b now : Buffers) (held : List ℕ) (n : ℕ) → record { buffers = b; held = held } ≡ t → n ≡ length held → 0 < n → now ≡ units_typed b (0xFFFD ∷ []) → now ≡ ended t
ended_cut t b now [] n is count some typed = absurd (omega arith)
ended_cut t b now (x ∷ held) n is count some typed = typed ∙ ap ended is

pub ended_whole : (t : Typing) (b : Buffers) (held : List ℕ) (n : ℕ) → record { buffers = b; held = held } ≡ t → n ≡ length held → n ≤ 0 → b ≡ ended t
ended_whole t b [] n is count none = ap ended is
ended_whole t b (x ∷ held) n is count none = absurd (omega arith)
