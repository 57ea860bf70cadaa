-- Buffers stay within their bounds.
use Rattle.std.proofs.Common.{◌≡◌, ℕ, zero, suc, ◌+◌, ◌*◌, ◌<◌, ◌≤◌, Bool, true, false, cond, List, [], ◌∷◌, ◌++◌, length, get_or, set, replicate, Option, None, Some, refl, sym, ap, subst, ◌∙◌, arith, length-append}
use Rattle.std.specs.Prelude.{IsSome, IfSome, ◌==◌, nat_lt, ◌%◌, ◌&&◌}
use Rattle.std.specs.Option.{option_map}
use Rattle.std.proofs.lemmas.List.{get_or-set_other, length-set, length-replicate}
use Rattle.std.proofs.lemmas.Bool.{cond_both, eqb-false}
use Rattle.con_page.specs.Page.{Page}
use Rattle.con_page.specs.Words.Page.{IsPage}
use Rattle.con_screen.specs.Screen.{Screen}
use Rattle.con_page.specs.Setters.{default_tabs}
use Rattle.con_page.specs.Sides.{Sides, sides}
use Rattle.con_screens.specs.Buffer.{new_buffer, new_screen}
use Rattle.con_screens.specs.Words.Buffer.{IsBuffer, HasWindow}
use Rattle.con_screens.specs.Buffers.{Buffers, buffer_at, screen_at, gone, created, first_buffers}
use Rattle.con_screens.specs.Words.Buffers.{AreBuffers, IsLive, screen_in, with_slot}
use Rattle.con_units.specs.declared.view.View.{View}
use Rattle.con_screens.specs.Words.Buffers.{with_handles}
use Rattle.con_screens.specs.View.{view_of}
use Rattle.con_screens.specs.Slot.{HasPages, Keeps}
use Rattle.con_screens.specs.LentLaws.{some_not_none, live_within, set_each, keeps_slot, some_mapped, is_mapped, keeps_shown}
use Rattle.con_screens.specs.Words.Stamps.{Remembered, remembered, all_remembered}
use Rattle.con_screens.specs.StampLaws.{mapped_same}
use Rattle.con_screens.specs.declared.buffer.Buffer.{Buffer}

-- only the number of handles changes
pub keeps_handles : (w h n k : ℕ) (b : Buffer) → IsBuffer w h n b → IsBuffer w h n (record b { handles = k })
keeps_handles w h n k b is = record { shown = is.shown; hidden = is.hidden; columns = is.columns; rows = is.rows; born = is.born }

pub keeps_gone : (s : Buffers) (id : ℕ) → AreBuffers s → IsLive s id → (id ≡ 0 → ⊥) → AreBuffers (gone s id)
keeps_gone s id are live not_main =
    let within : id < length s.slots = live_within s id live in
    let main' : 0 ≡ id → ⊥ = λ e. not_main (sym e) in
    let main : IsSome (get_or (set s.slots id None) 0 None) = subst (λ (o : Option Buffer). IsSome o) (sym (get_or-set_other s.slots id 0 None None main')) are.main in
    record {
      eight = length-set s.slots id None ∙ are.eight;
      main = main;
      active = cond_both (s.active == id) 0 s.active (λ k. IsSome (get_or (set s.slots id None) k None)) (λ e. main)
          (λ e. let ne : s.active ≡ id → ⊥ = eqb-false s.active id e in subst (λ (o : Option Buffer). IsSome o) (sym (get_or-set_other s.slots id s.active None None ne)) are.active);
      some = are.some;
      few = are.few;
      each = λ k. set_each (λ (v : Option Buffer). IfSome v (IsBuffer s.w s.h s.births)) s.slots id k None within tt (are.each k);
    }

-- ---- a new buffer

long_tabs : (n : ℕ) → length (default_tabs n) ≡ n
long_tabs zero = refl
long_tabs (suc n) = length-append (default_tabs n) ((nat_lt 0 n && (n % 8 == 0)) ∷ []) ∙ omega (arith, long_tabs n)

new_page_is : (w h : ℕ) → 0 < w → 0 < h → w ≤ 512 → h ≤ 256 → HasWindow (new_screen w h) w h
new_page_is w h some_w some_h few_w few_h = record {
  page = record {
    grid = record { wide = some_w; tall = some_h; at_most_wide = few_w; at_most_tall = omega arith; cells = length-replicate (w * h) _ };
    column = some_w;
    row = some_h;
    cursor_size = omega arith;
    wide = some_w;
    tall = some_h;
    low = few_h;
    right = omega arith;
    bottom = omega arith;
    pen = record { foreground = omega arith; background = omega arith; fore = tt; back = tt };
    saved_column = some_w;
    saved_row = some_h;
    margins = tt;
    tabs = long_tabs w;
  };
  wide = refl;
  tall = refl;
}

pub new_buffer_is : (w h handles birth n : ℕ) → 0 < w → 0 < h → w ≤ 512 → h ≤ 256 → birth < n → IsBuffer w h n (new_buffer w h handles birth)
new_buffer_is w h handles birth n some_w some_h few_w few_h born =
    let is = new_page_is w h some_w some_h few_w few_h in
    record { shown = is; hidden = is; columns = refl; rows = refl; born = born }

older : (w h n : ℕ) (b : Buffer) → IsBuffer w h n b → IsBuffer w h (n + 1) b
older w h n b is = record { shown = is.shown; hidden = is.hidden; columns = is.columns; rows = is.rows; born = omega (arith, is.born) }

each_older : (w h n : ℕ) (o : Option Buffer) → IfSome o (IsBuffer w h n) → IfSome o (IsBuffer w h (n + 1))
each_older w h n None is = is
each_older w h n (Some b) is = older w h n b is

pub keeps_created : (s : Buffers) (id : ℕ) → AreBuffers s → id < length s.slots → AreBuffers (created s id)
keeps_created s id are within =
    let b : Buffer = new_buffer s.w s.h 1 s.births in
    record {
      eight = length-set s.slots id (Some b) ∙ are.eight;
      main = set_each (λ (v : Option Buffer). IsSome v) s.slots id 0 (Some b) within refl are.main;
      active = set_each (λ (v : Option Buffer). IsSome v) s.slots id s.active (Some b) within refl are.active;
      some = are.some;
      few = are.few;
      each = λ k. set_each (λ (v : Option Buffer). IfSome v (IsBuffer s.w s.h (s.births + 1))) s.slots id k (Some b) within
          (new_buffer_is s.w s.h 1 s.births (s.births + 1) are.some.0 are.some.1 are.few.0 are.few.1 (omega arith)) (each_older s.w s.h s.births (get_or s.slots k None) (are.each k));
    }

pub pages_of : (w h n : ℕ) (o : Option Buffer) → IfSome o (IsBuffer w h n) → HasPages o
pages_of w h n None is = tt
pages_of w h n (Some b) is = (is.shown.page, is.hidden.page)

-- ---- what the code took out of a place and put there

same_default : (xs : List (Option Buffer)) (i : ℕ) (d e : Option Buffer) → i < length xs → get_or xs i d ≡ get_or xs i e
same_default [] i d e h = absurd (omega arith)
same_default (x ∷ xs) zero d e h = refl
same_default (x ∷ xs) (suc i) d e h = same_default xs i d e (omega arith)

pub taken_is : (s : Buffers) (id : ℕ) (was : Option Buffer) → IsLive s id → was ≡ get_or s.slots id was → buffer_at s id ≡ was
taken_is s id was live taken = same_default s.slots id None was (live_within s id live) ∙ sym taken

pub keeps_put : (s : Buffers) (id : ℕ) (was new : Option Buffer) (f : Buffer → Buffer) → AreBuffers s → IsLive s id → was ≡ get_or s.slots id was → new ≡ option_map f was → Keeps was new → AreBuffers (with_slot s id new)
keeps_put s id was new f are live taken is keep =
    let here : buffer_at s id ≡ was = taken_is s id was live taken in
    let some : IsSome was = subst (λ (o : Option Buffer). IsSome o) here live in
    keeps_slot s id new are live (subst (λ (o : Option Buffer). IsSome o) (sym is) (some_mapped was f some)) (keep s.w s.h s.births (subst (λ (o : Option Buffer). IfSome o (IsBuffer s.w s.h s.births)) here (are.each id)))

-- the two screens change places
pub remembers_on : (b : Buffer) (s : Screen) → b.alternate ≡ false → sides s.page ≡ sides b.hidden.page → remembered (record b { shown = s; hidden = b.shown; alternate = true }) ≡ remembered b
remembers_on b s off same = by_side b.alternate off
  where
    by_side : (a : Bool) → a ≡ false → ◌≡◌ {A = Remembered} (record { birth = b.birth; main = sides b.shown.page; alternate = sides s.page })
        (record { birth = b.birth; main = sides (cond a b.hidden b.shown).page; alternate = sides (cond a b.shown b.hidden).page })
    by_side true e = absurd (cc)
    by_side false e = let f : Sides → Remembered = λ x. record { birth = b.birth; main = sides b.shown.page; alternate = x } in ap f same

pub remembers_off : (b : Buffer) (s : Screen) → b.alternate ≡ true → sides s.page ≡ sides b.hidden.page → remembered (record b { shown = s; hidden = b.shown; alternate = false }) ≡ remembered b
remembers_off b s on same = by_side b.alternate on
  where
    by_side : (a : Bool) → a ≡ true → ◌≡◌ {A = Remembered} (record { birth = b.birth; main = sides s.page; alternate = sides b.shown.page })
        (record { birth = b.birth; main = sides (cond a b.hidden b.shown).page; alternate = sides (cond a b.shown b.hidden).page })
    by_side true e = let f : Sides → Remembered = λ x. record { birth = b.birth; main = x; alternate = sides b.shown.page } in ap f same
    by_side false e = absurd (cc)

-- what is remembered, where a place was taken out and put back
pub remembers_put : (s : Buffers) (id : ℕ) (was new : Option Buffer) → IsLive s id → was ≡ get_or s.slots id was → option_map remembered new ≡ option_map remembered was → all_remembered (with_slot s id new) ≡ all_remembered s
remembers_put s id was new live taken same = mapped_same s.slots id new (same ∙ ap (λ (o : Option Buffer). option_map remembered o) (sym (taken_is s id was live taken)))

pub keeps_number : (was new : Option Buffer) (k : ℕ) → new ≡ option_map (with_handles k) was → Keeps was new
keeps_number was new k is = λ w h n old. subst (λ (o : Option Buffer). IfSome o (IsBuffer w h n)) (sym is) (is_mapped was (with_handles k) (IsBuffer w h n) (keeps_handles w h n k) old)

pub view_is : (o : Option Buffer) (sc : Screen) (v : View) → IfSome o (λ b. sc ≡ b.shown) → v ≡ view_of sc.page → IfSome o (λ b. v ≡ view_of b.shown.page)
view_is None sc v h e = h
view_is (Some b) sc v h e = e ∙ ap (λ (x : Screen). view_of x.page) h

-- the view of a live buffer is that of the screen of its id
pub shown_is : (s : Buffers) (id : ℕ) (v : View) → IsLive s id → IfSome (buffer_at s id) (λ b. v ≡ view_of b.shown.page) → v ≡ view_of (screen_at s id).page
shown_is s id v live is = by_slot (buffer_at s id) live is
  where
    by_slot : (o : Option Buffer) → IsSome o → IfSome o (λ b. v ≡ view_of b.shown.page) → v ≡ view_of (screen_in s o).page
    by_slot None live is = absurd (some_not_none live)
    by_slot (Some b) live is = is

-- a screen that is shown is the screen of its id
pub lent_is : (s : Buffers) (id : ℕ) (sc : Screen) → IsLive s id → IfSome (buffer_at s id) (λ b. sc ≡ b.shown) → sc ≡ screen_at s id
lent_is s id sc live is = by_slot (buffer_at s id) live is
  where
    by_slot : (o : Option Buffer) → IsSome o → IfSome o (λ b. sc ≡ b.shown) → sc ≡ screen_in s o
    by_slot None live is = absurd (some_not_none live)
    by_slot (Some b) live is = is

pub written_keeps : (o : Option Buffer) (b c : Buffer) (w h n : ℕ) → o ≡ Some b → (IsBuffer w h n b → IsBuffer w h n c) → IfSome o (IsBuffer w h n) → IsBuffer w h n c
written_keeps o b c w h n is keep old = keep (subst (λ (v : Option Buffer). IfSome v (IsBuffer w h n)) is old)

-- a screen in the place of the shown one, with the same sides
alt_side : (a : Bool) (old hidden : Screen) (side : Page → ℕ) (v : ℕ) → side (cond a old hidden).page ≡ v → a ≡ true → side old.page ≡ v
alt_side true old hidden side v was is = was
alt_side false old hidden side v was is = cc

pub keeps_sides : (w h n : ℕ) (b : Buffer) (s : Screen) → IsBuffer w h n b → IsPage s.page → sides s.page ≡ sides b.shown.page → IsBuffer w h n (record b { shown = s })
keeps_sides w h n b s is page same = keeps_shown w h n b s is
    (record { page = page; wide = ap (λ (v : Sides). v.w) same ∙ is.shown.wide; tall = ap (λ (v : Sides). v.h) same ∙ is.shown.tall })
    (λ e. (
      ap (λ (v : Sides). v.width) same ∙ alt_side b.alternate b.shown b.hidden (λ p. p.grid.width) w is.columns e,
      ap (λ (v : Sides). v.height) same ∙ alt_side b.alternate b.shown b.hidden (λ p. p.grid.height) h is.rows e,
    ))

-- ---- the first buffers

none_each : (n i : ℕ) (P : Buffer → Type 0) → IfSome (get_or (replicate n None) i None) P
none_each zero i P = tt
none_each (suc n) zero P = tt
none_each (suc n) (suc i) P = none_each n i P

first_each : (w h i : ℕ) → 0 < w → 0 < h → w ≤ 512 → h ≤ 256 → IfSome (get_or (Some (new_buffer w h 0 0) ∷ replicate 7 None) i None) (IsBuffer w h 1)
first_each w h zero some_w some_h few_w few_h = new_buffer_is w h 0 0 1 some_w some_h few_w few_h (omega arith)
first_each w h (suc i) some_w some_h few_w few_h = none_each 7 i (IsBuffer w h 1)

pub first_are : (w h : ℕ) → (0 < w) × (0 < h) → (w ≤ 512) × (h ≤ 256) → AreBuffers (first_buffers w h)
first_are w h some few = record {
  eight = refl;
  main = refl;
  active = refl;
  some = some;
  few = few;
  each = λ id. first_each w h id some.0 some.1 few.0 few.1;
}

pub long_first : (xs : List (Option Buffer)) (k : ℕ) → length xs ≡ 1 → length (xs ++ replicate k None) ≡ 1 + k
long_first xs k one = let none : Option Buffer = None in length-append xs (replicate k none) ∙ omega (arith, one, length-replicate k none)
