-- Resizing place after place.
use Rattle.std.proofs.Common.{◌≡◌, ℕ, zero, suc, ◌+◌, ◌<◌, ◌≤◌, inl, inr, Bool, true, false, not, cond, List, [], ◌∷◌, ◌++◌, map, length, get_or, set, Option, None, Some, refl, sym, ap, subst, ◌∙◌, arith}
use Rattle.std.specs.Prelude.{IfSome, IsSome}
use Rattle.std.specs.Option.{option_map}
use Rattle.std.proofs.lemmas.List.{get_or-set_same, get_or-set_other, length-set, get_or_push, get_or_past, get_or_default}
use Rattle.std.proofs.lemmas.Bool.{cases_eq, cases_lt}
use Rattle.con_units.specs.declared.place.Size.{Size}
use Rattle.con_page.specs.Page.{shown}
use Rattle.con_page.specs.Words.Page.{IsPage}
use Rattle.con_screen.specs.Screen.{Screen}
use Rattle.con_page.specs.Fit.{refitted}
use Rattle.con_screens.specs.Words.Buffer.{IsBuffer, HasWindow}
use Rattle.con_screens.specs.Buffers.{Buffers, buffer_at}
use Rattle.con_screens.specs.Words.Buffers.{AreBuffers}
use Rattle.con_screens.specs.Slot.{HasPages, HaveWindow}
use Rattle.con_screens.specs.Resize.{screen_resized, buffer_resized, all_resized}
use Rattle.con_screens.specs.Words.Resize.{IsSlotFit}
use Rattle.con_screens.specs.declared.buffer.Buffer.{Buffer}
use Rattle.con_screens.specs.declared.fits.BufferFit.{BufferFit}

-- ---- taking memory

pub windows_of : (w h n : ℕ) (o : Option Buffer) → IfSome o (IsBuffer w h n) → HaveWindow w h o
windows_of w h n None is = tt
windows_of w h n (Some b) is = (is.shown, is.hidden)

get_or-push_before : (xs : List (Option BufferFit)) (f : Option BufferFit) (k : ℕ) → k < length xs → get_or (xs ++ f ∷ []) k None ≡ get_or xs k None
get_or-push_before [] f k h = absurd (omega arith)
get_or-push_before (x ∷ xs) f zero h = refl
get_or-push_before (x ∷ xs) f (suc k) h = get_or-push_before xs f k (omega arith)

pub fits_more : (window : Size) (slots : List (Option Buffer)) (fits now : List (Option BufferFit)) (at : ℕ) (slot : Option Buffer) (f : Option BufferFit) → length fits ≡ at → at < length slots
    → ((k : ℕ) → k < at → IsSlotFit window (get_or slots k None) (get_or fits k None)) → slot ≡ get_or slots at slot → IsSlotFit window slot f → now ≡ fits ++ f ∷ []
    → (k : ℕ) → k < at + 1 → IsSlotFit window (get_or slots k None) (get_or now k None)
fits_more window slots fits now at slot f long within each here fit is = λ k h. elim (cases_eq k at) [
  | inl e ↦
      let new : get_or now k None ≡ f = ap (λ (l : List (Option BufferFit)). get_or l k None) is ∙ get_or_push fits f None k (omega (arith, long, e)) in
      let old : get_or slots k None ≡ slot = ap (λ i. get_or slots i None) e ∙ get_or_default slots at None slot within ∙ sym here in
      subst (λ (o : Option Buffer). IsSlotFit window o (get_or now k None)) (sym old) (subst (λ (g : Option BufferFit). IsSlotFit window slot g) (sym new) fit)
  | inr ne ↦
      let lt : k < at = omega (arith, h, ne) in
      let new : get_or now k None ≡ get_or fits k None = ap (λ (l : List (Option BufferFit)). get_or l k None) is ∙ get_or-push_before fits f k (omega (arith, long, lt)) in
      subst (λ (g : Option BufferFit). IsSlotFit window (get_or slots k None) g) (sym new) (each k lt)
]

-- past the last place there is no buffer, and no fit
pub fits_all : (window : Size) (slots : List (Option Buffer)) (fits : List (Option BufferFit)) (at : ℕ) → length fits ≡ at → length slots ≤ at → ((k : ℕ) → k < at → IsSlotFit window (get_or slots k None) (get_or fits k None))
    → (k : ℕ) → IsSlotFit window (get_or slots k None) (get_or fits k None)
fits_all window slots fits at long end each = λ k. elim (cases_lt k at) [
  | inl lt ↦ each k lt
  | inr ge ↦
      subst (λ (o : Option Buffer). IsSlotFit window o (get_or fits k None)) (sym (get_or_past slots k None (omega (arith, end, ge))))
      (subst (λ (g : Option BufferFit). IsSlotFit window None g) (sym (get_or_past fits k None (omega (arith, long, ge)))) tt)
]

-- ---- resizing

pub record ResizedSo (window : Size) (slots : List (Option Buffer)) (fits : List (Option BufferFit)) (at : ℕ) (now : List (Option Buffer)) (left : List (Option BufferFit)) : Type 0 where
  pub count : length now ≡ length slots
  pub fits_count : length left ≡ length slots
  pub done : (k : ℕ) → k < at → get_or now k None ≡ option_map (buffer_resized window) (get_or slots k None)
  pub pages : (k : ℕ) → k < at → HasPages (get_or now k None)
  pub later : (k : ℕ) → at ≤ k → get_or now k None ≡ get_or slots k None
  pub fits_later : (k : ℕ) → at ≤ k → get_or left k None ≡ get_or fits k None

pub resized_first : (window : Size) (slots : List (Option Buffer)) (fits : List (Option BufferFit)) → length fits ≡ length slots → ResizedSo window slots fits 0 slots fits
resized_first window slots fits count = record { count = refl; fits_count = count; done = λ k h. absurd (omega (arith, h)); pages = λ k h. absurd (omega (arith, h)); later = λ k h. refl; fits_later = λ k h. refl }

pub resized_more : (window : Size) (slots : List (Option Buffer)) (fits : List (Option BufferFit)) (at : ℕ) (now new : List (Option Buffer)) (left after : List (Option BufferFit)) (was is : Option Buffer) → ResizedSo window slots fits at now left → at < length slots
    → was ≡ get_or now at was → is ≡ option_map (buffer_resized window) was → HasPages is → new ≡ set now at is → after ≡ set left at None → ResizedSo window slots fits (at + 1) new after
resized_more window slots fits at now new left after was is so within here made pages put gone =
    let long : at < length now = omega (arith, so.count, within) in
    let old : was ≡ get_or slots at None = here ∙ get_or_default now at was None long ∙ so.later at (omega arith) in
    let same : get_or new at None ≡ is = ap (λ (l : List (Option Buffer)). get_or l at None) put ∙ get_or-set_same now at is None long in
    let other : (k : ℕ) → (k ≡ at → ⊥) → get_or new k None ≡ get_or now k None = λ k ne. ap (λ (l : List (Option Buffer)). get_or l k None) put ∙ get_or-set_other now at k is None ne in
    record {
      count = ap (λ (l : List (Option Buffer)). length l) put ∙ length-set now at is ∙ so.count;
      fits_count = ap (λ (l : List (Option BufferFit)). length l) gone ∙ length-set left at None ∙ so.fits_count;
      done = λ k h. elim (cases_eq k at) [
        | inl e ↦ ap (λ i. get_or new i None) e ∙ same ∙ made ∙ ap (option_map (buffer_resized window)) (old ∙ ap (λ i. get_or slots i None) (sym e))
        | inr ne ↦ other k ne ∙ so.done k (omega (arith, h, ne))
      ];
      pages = λ k h. elim (cases_eq k at) [
        | inl e ↦ subst (λ (o : Option Buffer). HasPages o) (sym (ap (λ i. get_or new i None) e ∙ same)) pages
        | inr ne ↦ subst (λ (o : Option Buffer). HasPages o) (sym (other k ne)) (so.pages k (omega (arith, h, ne)))
      ];
      later = λ k h. let ne : k ≡ at → ⊥ = λ e. omega (arith, h, e) in other k ne ∙ so.later k (omega (arith, h));
      fits_later = λ k h. let ne : k ≡ at → ⊥ = λ e. omega (arith, h, e) in ap (λ (l : List (Option BufferFit)). get_or l k None) gone ∙ get_or-set_other left at k None None ne ∙ so.fits_later k (omega (arith, h));
    }

pub slot_taken : (window : Size) (slots : List (Option Buffer)) (fits : List (Option BufferFit)) (at : ℕ) (now : List (Option Buffer)) (left : List (Option BufferFit)) (was : Option Buffer) → ResizedSo window slots fits at now left → at < length slots → was ≡ get_or now at was → get_or slots at None ≡ was
slot_taken window slots fits at now left was so within here = sym (here ∙ get_or_default now at was None (omega (arith, so.count, within)) ∙ so.later at (omega arith))

pub fit_taken : (window : Size) (slots : List (Option Buffer)) (fits : List (Option BufferFit)) (at : ℕ) (now : List (Option Buffer)) (left : List (Option BufferFit)) (was : Option BufferFit) → ResizedSo window slots fits at now left → at < length slots → was ≡ get_or left at was → get_or fits at None ≡ was
fit_taken window slots fits at now left was so within here = sym (here ∙ get_or_default left at was None (omega (arith, so.fits_count, within)) ∙ so.fits_later at (omega arith))

same_map : (f : Option Buffer → Option Buffer) (xs ys : List (Option Buffer)) → length ys ≡ length xs → ((k : ℕ) → k < length xs → get_or ys k None ≡ f (get_or xs k None)) → ys ≡ map f xs
same_map f [] [] long each = refl
same_map f [] (y ∷ ys) long each = absurd (omega (arith, long))
same_map f (x ∷ xs) [] long each = absurd (omega (arith, long))
same_map f (x ∷ xs) (y ∷ ys) long each =
    ap (λ v. v ∷ ys) (each 0 (omega arith)) ∙ ap (λ (l : List (Option Buffer)). f x ∷ l) (same_map f xs ys (omega (arith, long)) (λ k h. each (suc k) (omega (arith, h))))

pub resized_all : (window : Size) (slots : List (Option Buffer)) (fits : List (Option BufferFit)) (at : ℕ) (now : List (Option Buffer)) (left : List (Option BufferFit)) → ResizedSo window slots fits at now left → length slots ≤ at → now ≡ map (option_map (buffer_resized window)) slots
resized_all window slots fits at now left so end = same_map (option_map (buffer_resized window)) slots now so.count (λ k h. so.done k (omega (arith, h, end)))

pub resized_pages : (window : Size) (slots : List (Option Buffer)) (fits : List (Option BufferFit)) (at : ℕ) (now : List (Option Buffer)) (left : List (Option BufferFit)) → ResizedSo window slots fits at now left → length slots ≤ at → (k : ℕ) → HasPages (get_or now k None)
resized_pages window slots fits at now left so end = λ k. elim (cases_lt k at) [
  | inl lt ↦ so.pages k lt
  | inr ge ↦ subst (λ (o : Option Buffer). HasPages o) (sym (get_or_past now k None (omega (arith, so.count, end, ge)))) tt
]

-- ---- the bounds

refitted_window : (b : Bool) (window : Size) (s : Screen) → IsPage (screen_resized b window s).page → HasWindow (screen_resized b window s) window.w window.h
unfolding refitted shown
refitted_window b window s page = record { page = page; wide = refl; tall = refl }

refitted_sides : (window : Size) (s : Screen) → ((screen_resized true window s).page.grid.width ≡ window.w) × ((screen_resized true window s).page.grid.height ≡ window.h)
unfolding refitted shown
refitted_sides window s = (refl, refl)

alternate_sides : (alternate : Bool) (window : Size) (s t : Screen)
    → ((cond alternate (screen_resized alternate window s) (screen_resized (not alternate) window t)).page.grid.width ≡ window.w) × ((cond alternate (screen_resized alternate window s) (screen_resized (not alternate) window t)).page.grid.height ≡ window.h)
alternate_sides true window s t = refitted_sides window s
alternate_sides false window s t = refitted_sides window t

pub buffer_resized_is : (w h n : ℕ) (window : Size) (b : Buffer) → IsBuffer w h n b → IsPage (buffer_resized window b).shown.page → IsPage (buffer_resized window b).hidden.page → IsBuffer window.w window.h n (buffer_resized window b)
buffer_resized_is w h n window b is shown hidden =
    let sides = alternate_sides b.alternate window b.shown b.hidden in
    record { shown = refitted_window b.alternate window b.shown shown; hidden = refitted_window (not b.alternate) window b.hidden hidden; columns = sides.0; rows = sides.1; born = is.born }

slot_resized_is : (w h n : ℕ) (window : Size) (o p : Option Buffer) → p ≡ option_map (buffer_resized window) o → IfSome o (IsBuffer w h n) → HasPages p → IfSome p (IsBuffer window.w window.h n)
slot_resized_is w h n window None p e is pages = subst (λ (v : Option Buffer). IfSome v (IsBuffer window.w window.h n)) (sym e) tt
slot_resized_is w h n window (Some b) p e is pages =
    let both : HasPages (Some (buffer_resized window b)) = subst (λ (v : Option Buffer). HasPages v) e pages in
    subst (λ (v : Option Buffer). IfSome v (IsBuffer window.w window.h n)) (sym e) (buffer_resized_is w h n window b is both.0 both.1)

get_or-map : (f : Option Buffer → Option Buffer) (xs : List (Option Buffer)) (k : ℕ) → f None ≡ None → get_or (map f xs) k None ≡ f (get_or xs k None)
get_or-map f [] k none = sym none
get_or-map f (x ∷ xs) zero none = refl
get_or-map f (x ∷ xs) (suc k) none = get_or-map f xs k none

live_mapped : (f : Buffer → Buffer) (o : Option Buffer) → IsSome o → IsSome (option_map f o)
live_mapped f None h = absurd cc
live_mapped f (Some b) h = refl

length-map' : (f : Option Buffer → Option Buffer) (xs : List (Option Buffer)) → length (map f xs) ≡ length xs
length-map' f [] = refl
length-map' f (x ∷ xs) = ap (λ n. suc n) (length-map' f xs)

pub keeps_resized : (s : Buffers) (window : Size) → AreBuffers s → (0 < window.w) × (0 < window.h) → (window.w ≤ 512) × (window.h ≤ 256) → ((id : ℕ) → HasPages (buffer_at (all_resized s window) id)) → AreBuffers (all_resized s window)
keeps_resized s window are some few pages =
    let f : Option Buffer → Option Buffer = option_map (buffer_resized window) in
    let at : (id : ℕ) → buffer_at (all_resized s window) id ≡ f (buffer_at s id) = λ id. get_or-map f s.slots id refl in
    record {
      eight = length-map' f s.slots ∙ are.eight;
      main = subst (λ (o : Option Buffer). IsSome o) (sym (at 0)) (live_mapped (buffer_resized window) (buffer_at s 0) are.main);
      active = subst (λ (o : Option Buffer). IsSome o) (sym (at s.active)) (live_mapped (buffer_resized window) (buffer_at s s.active) are.active);
      some = some;
      few = few;
      each = λ id. slot_resized_is s.w s.h s.births window (buffer_at s id) (buffer_at (all_resized s window) id) (at id) (are.each id) (pages id);
    }
