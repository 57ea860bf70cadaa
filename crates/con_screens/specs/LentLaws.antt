-- What stays of the buffers where a screen was lent, or another one stands in its place.
use Rattle.std.proofs.Common.{◌≡◌, ℕ, zero, suc, ◌<◌, ◌≤◌, inl, inr, Bool, true, false, cond, List, [], ◌∷◌}
use Rattle.std.proofs.Common.{length, get_or, set, Option, None, Some, refl, sym, ap, subst, ◌∙◌, arith}
use Rattle.std.specs.Prelude.{IsSome, IfSome}
use Rattle.std.specs.Option.{option_map, option_map_or}
use Rattle.std.proofs.lemmas.Bool.{cases_eq, cases_lt}
use Rattle.std.proofs.lemmas.List.{get_or-set_same, get_or-set_other, length-set, set-get_or}
use Rattle.con_units.specs.Glyph.{Glyph}
use Rattle.con_units.specs.declared.place.Size.{Size}
use Rattle.con_page.specs.Page.{Page}
use Rattle.con_page.specs.Words.Page.{IsPage}
use Rattle.con_screen.specs.Screen.{Screen}
use Rattle.con_page.specs.Sides.{Sides, sides}
use Rattle.con_screens.specs.Words.Buffer.{IsBuffer, HasWindow}
use Rattle.con_screens.specs.Buffers.{Buffers, buffer_at, screen_at, is_alternate, handles_of}
use Rattle.con_screens.specs.Words.Buffers.{AreBuffers, IsLive, screen_in, with_slot}
use Rattle.con_screens.specs.Lending.{with_shown, screen_left}
use Rattle.con_screens.specs.declared.buffer.Buffer.{Buffer}

-- ---- places

pub some_not_none : IsSome {T = Buffer} None → ⊥
some_not_none h = cc

past_end : (xs : List (Option Buffer)) (i : ℕ) → length xs ≤ i → get_or xs i None ≡ None
past_end [] i h = refl
past_end (x ∷ xs) zero h = absurd (omega arith)
past_end (x ∷ xs) (suc i) h = past_end xs i (omega arith)

within_list : (xs : List (Option Buffer)) (i : ℕ) → IsSome (get_or xs i None) → i < length xs
within_list xs i live = elim (cases_lt i (length xs)) [
  | inl lt ↦ lt
  | inr ge ↦ absurd (some_not_none (subst (λ (o : Option Buffer). IsSome o) (past_end xs i ge) live))
]

-- a live buffer's id is a place
pub live_within : (s : Buffers) (id : ℕ) → IsLive s id → id < length s.slots
live_within s id live = within_list s.slots id live

-- a fact of each place, after one was written
pub set_each : (P : Option Buffer → Type 0) (xs : List (Option Buffer)) (i j : ℕ) (o : Option Buffer) → i < length xs → P o → P (get_or xs j None)
    → P (get_or (set xs i o) j None)
set_each P xs i j o within new old = elim (cases_eq j i) [
  | inl e ↦ subst P (sym (ap (λ k. get_or (set xs i o) k None) e ∙ get_or-set_same xs i o None within)) new
  | inr ne ↦ subst P (sym (get_or-set_other xs i j o None ne)) old
]

-- another buffer stands in the place of a live one
pub keeps_slot : (s : Buffers) (id : ℕ) (o : Option Buffer) → AreBuffers s → IsLive s id → IsSome o → IfSome o (IsBuffer s.w s.h s.births)
    → AreBuffers (with_slot s id o)
keeps_slot s id o are live some is =
    let within : id < length s.slots = live_within s id live in
    record {
      eight = length-set s.slots id o ∙ are.eight;
      main = set_each (λ (v : Option Buffer). IsSome v) s.slots id 0 o within some are.main;
      active = set_each (λ (v : Option Buffer). IsSome v) s.slots id s.active o within some are.active;
      some = are.some;
      few = are.few;
      each = λ k. set_each (λ (v : Option Buffer). IfSome v (IsBuffer s.w s.h s.births)) s.slots id k o within is (are.each k);
    }

pub some_mapped : (o : Option Buffer) (f : Buffer → Buffer) → IsSome o → IsSome (option_map f o)
some_mapped None f h = absurd (some_not_none h)
some_mapped (Some b) f h = refl

pub is_mapped : (o : Option Buffer) (f : Buffer → Buffer) (P : Buffer → Type 0) → ((b : Buffer) → P b → P (f b)) → IfSome o P → IfSome (option_map f o) P
is_mapped None f P keep h = h
is_mapped (Some b) f P keep h = keep b h

-- ---- a screen in the place of the shown one

alt_fits : (a : Bool) (old new hidden : Screen) (side : Page → ℕ) (v : ℕ) → side (cond a old hidden).page ≡ v → (a ≡ true → side new.page ≡ v)
    → side (cond a new hidden).page ≡ v
alt_fits true old new hidden side v was is = is refl
alt_fits false old new hidden side v was is = was

alt_was : (a : Bool) (old hidden : Screen) (side : Page → ℕ) (v : ℕ) → side (cond a old hidden).page ≡ v → a ≡ true → side old.page ≡ v
alt_was true old hidden side v was is = was
alt_was false old hidden side v was is = cc

-- a buffer that shows another screen of the window, of that size where it is the alternate one
pub keeps_shown : (w h n : ℕ) (b : Buffer) (s : Screen) → IsBuffer w h n b → HasWindow s w h
    → (b.alternate ≡ true → (s.page.grid.width ≡ w) × (s.page.grid.height ≡ h)) → IsBuffer w h n (with_shown s b)
keeps_shown w h n b s is window fits = record {
  shown = window;
  hidden = is.hidden;
  columns = alt_fits b.alternate b.shown s b.hidden (λ p. p.grid.width) w is.columns (λ e. (fits e).0);
  rows = alt_fits b.alternate b.shown s b.hidden (λ p. p.grid.height) h is.rows (λ e. (fits e).1);
  born = is.born;
}

-- a live buffer shows a screen of the window
pub screen_has : (s : Buffers) (id : ℕ) → AreBuffers s → IsLive s id → HasWindow (screen_at s id) s.w s.h
screen_has s id are live = by_slot (buffer_at s id) live (are.each id)
  where
    by_slot : (o : Option Buffer) → IsSome o → IfSome o (IsBuffer s.w s.h s.births) → HasWindow (screen_in s o) s.w s.h
    by_slot None live is = absurd (some_not_none live)
    by_slot (Some b) live is = is.shown

-- as large as the window, where it is the alternate one
pub alternate_has : (s : Buffers) (id : ℕ) → AreBuffers s → IsLive s id → is_alternate s id ≡ true
    → ((screen_at s id).page.grid.width ≡ s.w) × ((screen_at s id).page.grid.height ≡ s.h)
alternate_has s id are live shown = by_slot (buffer_at s id) live (are.each id) shown
  where
    by_slot : (o : Option Buffer) → IsSome o → IfSome o (IsBuffer s.w s.h s.births) → option_map_or (λ b. b.alternate) o false ≡ true
        → ((screen_in s o).page.grid.width ≡ s.w) × ((screen_in s o).page.grid.height ≡ s.h)
    by_slot None live is shown = absurd (some_not_none live)
    by_slot (Some b) live is shown = (
      alt_was b.alternate b.shown b.hidden (λ p. p.grid.width) s.w is.columns shown,
      alt_was b.alternate b.shown b.hidden (λ p. p.grid.height) s.h is.rows shown,
    )

-- Another screen of the window stands where a live buffer shows one.
pub window_keeps : (s : Buffers) (id : ℕ) (now : Screen) → AreBuffers s → IsLive s id → HasWindow now s.w s.h
    → (is_alternate s id ≡ true → (now.page.grid.width ≡ s.w) × (now.page.grid.height ≡ s.h)) → AreBuffers (screen_left s id now)
window_keeps s id now are live window fits =
    keeps_slot s id (option_map (with_shown now) (buffer_at s id)) are live (some_mapped (buffer_at s id) (with_shown now) live)
    (by_slot (buffer_at s id) (are.each id) fits)
  where
    by_slot : (o : Option Buffer) → IfSome o (IsBuffer s.w s.h s.births)
        → (option_map_or (λ b. b.alternate) o false ≡ true → (now.page.grid.width ≡ s.w) × (now.page.grid.height ≡ s.h))
        → IfSome (option_map (with_shown now) o) (IsBuffer s.w s.h s.births)
    by_slot None is fits = is
    by_slot (Some b) is fits = keeps_shown s.w s.h s.births b now is window fits

-- A screen that was lent and keeps its sides leaves sound buffers.
pub lent_keeps : (s : Buffers) (id : ℕ) (lent now : Screen) → AreBuffers s → IsLive s id → lent ≡ screen_at s id → IsPage now.page
    → sides now.page ≡ sides lent.page → AreBuffers (screen_left s id now)
lent_keeps s id lent now are live was page same =
    let old : HasWindow (screen_at s id) s.w s.h = screen_has s id are live in
    let all : sides now.page ≡ sides (screen_at s id).page = same ∙ ap (λ (v : Screen). sides v.page) was in
    window_keeps s id now are live (record { page = page; wide = ap (λ (v : Sides). v.w) all ∙ old.wide; tall = ap (λ (v : Sides). v.h) all ∙ old.tall })
    (λ shown. (let had = alternate_has s id are live shown in (ap (λ (v : Sides). v.width) all ∙ had.0, ap (λ (v : Sides). v.height) all ∙ had.1)))

-- So does one that was lent and resized behind the window; where it is the alternate one, to the window's size.
pub resized_keeps : (s : Buffers) (id : ℕ) (now : Screen) (buffer window : Size) (n : ℕ) (m : Option (List Glyph)) → AreBuffers s → IsLive s id
    → IsPage now.page → sides now.page ≡ record { width = buffer.w; height = buffer.h; w = window.w; h = window.h; now = n; moment = m }
    → window.w ≡ s.w → window.h ≡ s.h → (is_alternate s id ≡ true → buffer ≡ window) → AreBuffers (screen_left s id now)
resized_keeps s id now buffer window n m are live page same wide tall fits =
    window_keeps s id now are live (record { page = page; wide = ap (λ (v : Sides). v.w) same ∙ wide; tall = ap (λ (v : Sides). v.h) same ∙ tall })
    (λ shown. (
      ap (λ (v : Sides). v.width) same ∙ ap (λ (z : Size). z.w) (fits shown) ∙ wide,
      ap (λ (v : Sides). v.height) same
          ∙ ap (λ (z : Size). z.h) (fits shown) ∙ tall,
    ))

-- ---- what it does not touch

handles_set : (xs : List (Option Buffer)) (i k : ℕ) (o : Option Buffer)
    → option_map_or (λ b. b.handles) o 0 ≡ option_map_or (λ b. b.handles) (get_or xs i None) 0
    → option_map_or (λ b. b.handles) (get_or (set xs i o) k None) 0 ≡ option_map_or (λ b. b.handles) (get_or xs k None) 0
handles_set [] i k o e = refl
handles_set (x ∷ xs) zero zero o e = e
handles_set (x ∷ xs) zero (suc k) o e = refl
handles_set (x ∷ xs) (suc i) zero o e = refl
handles_set (x ∷ xs) (suc i) (suc k) o e = handles_set xs i k o e

shown_handles : (o : Option Buffer) (now : Screen) → option_map_or (λ b. b.handles) (option_map (with_shown now) o) 0 ≡ option_map_or (λ b. b.handles) o 0
shown_handles None now = refl
shown_handles (Some b) now = refl

-- the numbers of handles
pub left_handles : (s : Buffers) (id : ℕ) (now : Screen) (k : ℕ) → handles_of (screen_left s id now) k ≡ handles_of s k
left_handles s id now k = handles_set s.slots id k (option_map (with_shown now) (buffer_at s id)) (shown_handles (buffer_at s id) now)

-- nothing, where the screen is the one that was there
pub left_same : (s : Buffers) (id : ℕ) → screen_left s id (screen_at s id) ≡ s
left_same s id = ap (λ (xs : List (Option Buffer)). record s { slots = xs }) (by_place (buffer_at s id) ∙ set-get_or s.slots id None)
  where
    by_slot : (o : Option Buffer) → option_map (with_shown (screen_in s o)) o ≡ o
    by_slot None = refl
    by_slot (Some b) = refl

    by_place : (o : Option Buffer) → set s.slots id (option_map (with_shown (screen_in s o)) o) ≡ set s.slots id o
    by_place o = ap (λ (x : Option Buffer). set s.slots id x) (by_slot o)

-- the screen that was left is the one that shows
pub left_shows : (s : Buffers) (id : ℕ) (now : Screen) → IsLive s id → screen_at (screen_left s id now) id ≡ now
left_shows s id now live = ap (λ (o : Option Buffer). screen_in (screen_left s id now) o)
    (get_or-set_same s.slots id (option_map (with_shown now) (buffer_at s id)) None (live_within s id live)) ∙ by_slot (buffer_at s id) live
  where
    by_slot : (o : Option Buffer) → IsSome o → screen_in (screen_left s id now) (option_map (with_shown now) o) ≡ now
    by_slot None live = absurd (some_not_none live)
    by_slot (Some b) live = refl

-- other buffers
pub left_others : (s : Buffers) (id k : ℕ) (now : Screen) → (k ≡ id → ⊥) → buffer_at (screen_left s id now) k ≡ buffer_at s k
left_others s id k now other = get_or-set_other s.slots id k (option_map (with_shown now) (buffer_at s id)) None other
