-- Nor does what is done to buffers.
use Rattle.std.proofs.Common.{◌≡◌, ℕ, Bool, true, false, cond, List, [], ◌∷◌, map, Option, None, Some, refl, sym, ap, ◌∙◌}
use Rattle.std.specs.Prelude.{fold, is_none, nat_le, ◌-◌, ◌+◌, ◌==◌}
use Rattle.std.specs.List.{position_or_len}
use Rattle.std.specs.Option.{option_map, option_map_or}
use Rattle.std.proofs.Math.ListN.{get_or-map}
use Rattle.std.proofs.lemmas.List.{map-set, length-map}
use Rattle.con_units.specs.Glyph.{Glyph}
use Rattle.con_units.specs.declared.place.Size.{Size}
use Rattle.con_page.specs.Echo.{changed, drawn_by, ended, cursor_at, origin_in}
use Rattle.con_screen.specs.Echo.{Echoed, echoed}
use Rattle.con_page.specs.Fit.{refitted}
use Rattle.con_page.specs.Page.{Page, down_in, shown}
use Rattle.con_screen.specs.Screen.{Screen}
use Rattle.con_screen.specs.Told.{Told}
use Rattle.con_screen.specs.Written.{Stage, written, switches}
use Rattle.con_page.specs.declared.origin.Origin.{Origin}
use Rattle.con_screens.specs.Buffer.{BufferStage, new_buffer, turned, unit_written, written_on, buffer_written, told_on}
use Rattle.con_screens.specs.Words.Buffer.{alternate_on, alternate_off, carried}
use Rattle.con_screens.specs.Buffers.{Buffers, buffer_at, screen_at, is_alternate, free_id, with_buffer, created, handles_of, handle_retained, gone, handle_released}
use Rattle.con_screens.specs.Words.Buffers.{screen_in, with_slot, with_handles}
use Rattle.con_screens.specs.Lending.{with_shown, screen_left}
use Rattle.con_screens.specs.Resize.{screen_resized, buffer_resized, all_resized}
use Rattle.con_screens.specs.Words.Resize.{target}
use Rattle.con_screens.specs.declared.buffer.Buffer.{Buffer}
use Rattle.con_machine.specs.Words.ScreenCalls.{page_at, page_left}
use Rattle.con_laws.specs.Unstamped.{unstamped_page, unstamped_screen, unstamped_buffer, unstamped_buffers}
use Rattle.con_laws.proofs.PageStamps.{down_in_same, shown_same, unstamped_stage, written_same, switches_same}

-- ---- echoes and sizes of a page

changed_same : (p : Page) (o : Origin) (n : ℕ) (rule : ℕ → Glyph → Glyph) (caret : ℕ)
    → unstamped_page (changed p o n rule caret) ≡ changed (unstamped_page p) o n rule caret
unfolding changed drawn_by shown
changed_same p o n rule caret = refl

abbrev pub unstamped_echo : Echoed → Echoed
unstamped_echo e = record e { screen = unstamped_screen e.screen }

pub echoed_same : (s : Screen) (o : Origin) (old new : List ℕ) (caret : ℕ)
    → unstamped_echo (echoed s o old new caret) ≡ echoed (unstamped_screen s) o old new caret
unfolding changed drawn_by shown
echoed_same s o old new caret = refl

pub ended_same : (p : Page) (o : Origin) (n : ℕ) → unstamped_page (ended p o n) ≡ ended (unstamped_page p) o n
unfolding ended
ended_same p o n =
    let q : Page = record (cursor_at p (origin_in p o) n) { x = 0 } in
    shown_same (down_in q None) ∙ ap shown (down_in_same q None)

pub refitted_same : (p : Page) (buffer window : Size) → unstamped_page (refitted p buffer window) ≡ refitted (unstamped_page p) buffer window
unfolding refitted shown
refitted_same p buffer window = refl

-- ---- one buffer

either : (b : Bool) (x y z w : Buffer) → unstamped_buffer x ≡ z → unstamped_buffer y ≡ w → unstamped_buffer (cond b x y) ≡ cond b z w
either true x y z w h k = h
either false x y z w h k = k

on_same : (b : Buffer) → unstamped_buffer (alternate_on b) ≡ alternate_on (unstamped_buffer b)
on_same b = search either depth 14

off_same : (b : Buffer) → unstamped_buffer (alternate_off b) ≡ alternate_off (unstamped_buffer b)
off_same b = search either depth 14

turned_same : (b : Buffer) (o : Option Bool) → unstamped_buffer (turned b o) ≡ turned (unstamped_buffer b) o
turned_same b None = refl
turned_same b (Some true) = on_same b
turned_same b (Some false) = off_same b

abbrev unstamped_both : BufferStage → BufferStage
unstamped_both s = record s { buffer = unstamped_buffer s.buffer }

carried_same : (b : Buffer) (st : Stage) (switch : Bool) → unstamped_both (carried b st switch) ≡ carried (unstamped_buffer b) (unstamped_stage st) switch
carried_same b st switch =
    let c : Buffer = record b { shown = st.screen } in
    ap (λ (x : Buffer). let r : BufferStage = record { buffer = x; told = st.told } in r)
    (either switch (turned c st.told.alternate) c (turned (unstamped_buffer c) st.told.alternate) (unstamped_buffer c) (turned_same c st.told.alternate) refl)

unit_same : (s : BufferStage) (u : ℕ) → unstamped_both (unit_written s u) ≡ unit_written (unstamped_both s) u
unfolding unit_written
unit_same s u =
    let st : Stage = written s.buffer.shown s.told (u ∷ []) in
    carried_same s.buffer st (switches s.buffer.shown (u ∷ []))
    ∙ ap (λ (x : Stage). carried (unstamped_buffer s.buffer) x (switches s.buffer.shown (u ∷ []))) (written_same s.buffer.shown s.told (u ∷ []))
    ∙ ap (λ (x : Bool). carried (unstamped_buffer s.buffer) (written (unstamped_screen s.buffer.shown) s.told (u ∷ [])) x)
    (switches_same s.buffer.shown (u ∷ []))

units_same : (s : BufferStage) (us : List ℕ) → unstamped_both (fold unit_written s us) ≡ fold unit_written (unstamped_both s) us
units_same s [] = refl
units_same s (u ∷ us) = units_same (unit_written s u) us ∙ ap (λ (x : BufferStage). fold unit_written x us) (unit_same s u)

written_on_same : (b : Buffer) (t : Told) (us : List ℕ) → unstamped_both (written_on b t us) ≡ written_on (unstamped_buffer b) t us
unfolding written_on
written_on_same b t us = units_same (record { buffer = b; told = t }) us

buffer_written_same : (t : Told) (us : List ℕ) (b : Buffer) → unstamped_buffer (buffer_written t us b) ≡ buffer_written t us (unstamped_buffer b)
buffer_written_same t us b = ap (λ (x : BufferStage). x.buffer) (written_on_same b t us)

screen_resized_same : (a : Bool) (window : Size) (s : Screen) → unstamped_screen (screen_resized a window s) ≡ screen_resized a window (unstamped_screen s)
screen_resized_same a window s = ap (λ (p : Page). let r : Screen = record s { page = p } in r) (refitted_same s.page (target a s.page window) window)

resized_same : (window : Size) (b : Buffer) → unstamped_buffer (buffer_resized window b) ≡ buffer_resized window (unstamped_buffer b)
unfolding refitted shown
resized_same window b = refl

-- ---- all buffers

abbrev Slot : Type 0
Slot = Option Buffer

pub buffer_same : (b : Buffers) (id : ℕ) → buffer_at (unstamped_buffers b) id ≡ option_map unstamped_buffer (buffer_at b id)
buffer_same b id = get_or-map (option_map unstamped_buffer) b.slots id None

screen_in_same : (b : Buffers) (o : Slot) → screen_in (unstamped_buffers b) (option_map unstamped_buffer o) ≡ unstamped_screen (screen_in b o)
screen_in_same b None = refl
screen_in_same b (Some x) = refl

pub screen_same : (b : Buffers) (id : ℕ) → screen_at (unstamped_buffers b) id ≡ unstamped_screen (screen_at b id)
screen_same b id = ap (screen_in (unstamped_buffers b)) (buffer_same b id) ∙ screen_in_same b (buffer_at b id)

pub page_same : (b : Buffers) (id : ℕ) → page_at (unstamped_buffers b) id ≡ unstamped_page (page_at b id)
page_same b id = ap (λ (s : Screen). s.page) (screen_same b id)

slot_same : (b : Buffers) (id : ℕ) (o : Slot) → unstamped_buffers (with_slot b id o) ≡ with_slot (unstamped_buffers b) id (option_map unstamped_buffer o)
slot_same b id o = ap (λ (xs : List Slot). let r : Buffers = record b { slots = xs } in r) (map-set (option_map unstamped_buffer) b.slots id o)

mapped : (f g : Buffer → Buffer) → ((x : Buffer) → unstamped_buffer (f x) ≡ g (unstamped_buffer x)) → (o : Slot)
    → option_map unstamped_buffer (option_map f o) ≡ option_map g (option_map unstamped_buffer o)
mapped f g k None = refl
mapped f g k (Some x) = ap (λ (y : Buffer). Some y) (k x)

pub with_same : (b : Buffers) (id : ℕ) (f g : Buffer → Buffer) → ((x : Buffer) → unstamped_buffer (f x) ≡ g (unstamped_buffer x))
    → unstamped_buffers (with_buffer b id f) ≡ with_buffer (unstamped_buffers b) id g
with_same b id f g k =
    slot_same b id (option_map f (buffer_at b id))
    ∙ ap (λ (o : Slot). with_slot (unstamped_buffers b) id o) (mapped f g k (buffer_at b id) ∙ ap (option_map g) (sym (buffer_same b id)))

pub text_same : (b : Buffers) (id : ℕ) (t : Told) (us : List ℕ)
    → unstamped_buffers (with_buffer b id (buffer_written t us)) ≡ with_buffer (unstamped_buffers b) id (buffer_written t us)
text_same b id t us = with_same b id (buffer_written t us) (buffer_written t us) (buffer_written_same t us)

told_on_by : (o : Slot) (t : Told) (us : List ℕ) → told_on (option_map unstamped_buffer o) t us ≡ told_on o t us
told_on_by None t us = refl
told_on_by (Some b) t us = sym (ap (λ (x : BufferStage). x.told) (written_on_same b t us))

pub told_on_same : (b : Buffers) (id : ℕ) (t : Told) (us : List ℕ) → told_on (buffer_at (unstamped_buffers b) id) t us ≡ told_on (buffer_at b id) t us
told_on_same b id t us = ap (λ (o : Slot). told_on o t us) (buffer_same b id) ∙ told_on_by (buffer_at b id) t us

pub left_same : (b : Buffers) (id : ℕ) (s : Screen) → unstamped_buffers (screen_left b id s) ≡ screen_left (unstamped_buffers b) id (unstamped_screen s)
left_same b id s = with_same b id (with_shown s) (with_shown (unstamped_screen s)) (λ x. refl)

pub page_left_same : (b : Buffers) (id : ℕ) (p : Page) → unstamped_buffers (page_left b id p) ≡ page_left (unstamped_buffers b) id (unstamped_page p)
page_left_same b id p =
    left_same b id (record (screen_at b id) { page = p })
    ∙ ap (λ (s : Screen). screen_left (unstamped_buffers b) id (record s { page = unstamped_page p })) (sym (screen_same b id))

handles_by : (o : Slot) → option_map_or (λ x. x.handles) (option_map unstamped_buffer o) 0 ≡ option_map_or (λ x. x.handles) o 0
handles_by None = refl
handles_by (Some b) = refl

handles_same : (b : Buffers) (id : ℕ) → handles_of (unstamped_buffers b) id ≡ handles_of b id
handles_same b id = ap (λ (o : Slot). option_map_or (λ x. x.handles) o 0) (buffer_same b id) ∙ handles_by (buffer_at b id)

alternate_by : (o : Slot) → option_map_or (λ x. x.alternate) (option_map unstamped_buffer o) false ≡ option_map_or (λ x. x.alternate) o false
alternate_by None = refl
alternate_by (Some b) = refl

pub alternate_same : (b : Buffers) (id : ℕ) → is_alternate (unstamped_buffers b) id ≡ is_alternate b id
alternate_same b id = ap (λ (o : Slot). option_map_or (λ x. x.alternate) o false) (buffer_same b id) ∙ alternate_by (buffer_at b id)

or_buffers : (t : Bool) (x y z w : Buffers) → unstamped_buffers x ≡ z → unstamped_buffers y ≡ w → unstamped_buffers (cond t x y) ≡ cond t z w
or_buffers true x y z w h k = h
or_buffers false x y z w h k = k

counted_same : (b : Buffers) (id n : ℕ) → unstamped_buffers (with_buffer b id (with_handles n)) ≡ with_buffer (unstamped_buffers b) id (with_handles n)
counted_same b id n = with_same b id (with_handles n) (with_handles n) (λ x. refl)

pub retained_one : (b : Buffers) (id : ℕ) → unstamped_buffers (handle_retained b id) ≡ handle_retained (unstamped_buffers b) id
retained_one b id =
    or_buffers (id == 0) b (with_buffer b id (with_handles (handles_of b id + 1))) (unstamped_buffers b)
    (with_buffer (unstamped_buffers b) id (with_handles (handles_of (unstamped_buffers b) id + 1))) refl
    (counted_same b id (handles_of b id + 1) ∙ ap (λ (n : ℕ). with_buffer (unstamped_buffers b) id (with_handles (n + 1))) (sym (handles_same b id)))

gone_same : (b : Buffers) (id : ℕ) → unstamped_buffers (gone b id) ≡ gone (unstamped_buffers b) id
gone_same b id = ap (λ (xs : List Slot). let r : Buffers = record (gone b id) { slots = xs } in r) (map-set (option_map unstamped_buffer) b.slots id None)

pub released_one : (b : Buffers) (id : ℕ) → unstamped_buffers (handle_released b id) ≡ handle_released (unstamped_buffers b) id
released_one b id =
    let c : Buffers = unstamped_buffers b in
    or_buffers (id == 0) b (cond (nat_le (handles_of b id) 1) (gone b id) (with_buffer b id (with_handles (handles_of b id - 1)))) c
    (cond (nat_le (handles_of c id) 1) (gone c id) (with_buffer c id (with_handles (handles_of c id - 1)))) refl
    (or_buffers (nat_le (handles_of b id) 1) (gone b id) (with_buffer b id (with_handles (handles_of b id - 1))) (gone c id)
    (with_buffer c id (with_handles (handles_of b id - 1)))
    (gone_same b id) (counted_same b id (handles_of b id - 1))
    ∙ ap (λ (n : ℕ). cond (nat_le n 1) (gone c id) (with_buffer c id (with_handles (n - 1)))) (sym (handles_same b id)))

pub created_same : (b : Buffers) (id : ℕ) → unstamped_buffers (created b id) ≡ created (unstamped_buffers b) id
created_same b id = ap (λ (xs : List Slot). let r : Buffers = record (created b id) { slots = xs } in r)
    (map-set (option_map unstamped_buffer) b.slots id (Some (new_buffer b.w b.h 1 b.births)))

all_mapped : (window : Size) (xs : List Slot) → map (option_map unstamped_buffer) (map (option_map (buffer_resized window)) xs) ≡ map
    (option_map (buffer_resized window)) (map (option_map unstamped_buffer) xs)
all_mapped window [] = refl
all_mapped window (x ∷ xs) =
    ap (λ (o : Slot). o ∷ map (option_map unstamped_buffer) (map (option_map (buffer_resized window)) xs))
    (mapped (buffer_resized window) (buffer_resized window) (resized_same window) x)
    ∙ ap (λ (ys : List Slot). option_map (buffer_resized window) (option_map unstamped_buffer x) ∷ ys) (all_mapped window xs)

pub all_resized_same : (b : Buffers) (window : Size) → unstamped_buffers (all_resized b window) ≡ all_resized (unstamped_buffers b) window
all_resized_same b window = ap (λ (xs : List Slot). let r : Buffers = record (all_resized b window) { slots = xs } in r) (all_mapped window b.slots)

-- the least free id
none_same : (o : Slot) → is_none (option_map unstamped_buffer o) ≡ is_none o
none_same None = refl
none_same (Some b) = refl

places_same : (xs : List Slot) → position_or_len is_none (map (option_map unstamped_buffer) xs) ≡ position_or_len is_none xs
places_same [] = refl
places_same (None ∷ xs) = refl
places_same (Some b ∷ xs) = rw (places_same xs) refl

pub free_same : (b : Buffers) → free_id (unstamped_buffers b) ≡ free_id b
free_same b = rw (places_same b.slots, length-map b.slots (option_map unstamped_buffer)) refl
