-- What was told before does not matter to the buffer that a text makes; so units written in turn are the whole written.
use Rattle.std.proofs.Common.{◌≡◌, ℕ, zero, suc, Bool, true, false, cond, ◌==◌, ◌&&◌, ◌||◌, List, []}
use Rattle.std.proofs.Common.{◌∷◌, ◌++◌, get_or, set, Option, None, Some, refl, sym, ap, ◌∙◌, arith}
use Rattle.std.specs.Prelude.{fold}
use Rattle.std.specs.Option.{option_map}
use Rattle.std.proofs.lemmas.List.{set-get_or}
use Rattle.std.proofs.lemmas.List.Sums.{fold-append}
use Rattle.std.proofs.lemmas.Bool.{and_parts}
use Rattle.std.proofs.lemmas.Bool.Decides.{nat_tests}
use Rattle.con_vtgram.specs.declared.item.Csi.{Csi}
use Rattle.con_vtgram.specs.declared.item.Item.{Item}
use Rattle.con_vtgram.specs.declared.item.Item.TheVariants as items
use Rattle.con_vtgram.specs.Spoken.{Spoken}
use Rattle.con_page.specs.Page.{Page}
use Rattle.con_screen.specs.Screen.{Screen}
use Rattle.con_page.specs.Effect.{effect, first}
use Rattle.con_screen.specs.Told.{Told, told_after, told_by, csi_told, switched, is_switch}
use Rattle.con_screen.specs.Words.Told.{private_told}
use Rattle.con_screen.specs.Written.{Stage, heard, written, switches, split_on}
use Rattle.con_screen.specs.Words.Written.{any_switch}
use Rattle.con_screens.specs.Buffer.{BufferStage, unit_written, written_on, buffer_written}
use Rattle.con_screens.specs.Words.Buffer.{carried}
use Rattle.con_screens.specs.Buffers.{Buffers, with_buffer}
use Rattle.con_screens.specs.declared.buffer.Buffer.{Buffer}

page_alone : (p : Page) (t u : Told) (items : List Spoken)
    → (fold heard (record { page = p; told = t }) items).page ≡ (fold heard (record { page = p; told = u }) items).page
unfolding heard
page_alone p t u [] = refl
page_alone p t u (s ∷ items) = page_alone (effect p s.item) (told_after p t s) (told_after p u s) items

screen_alone : (s : Screen) (t u : Told) (us : List ℕ) → (written s t us).screen ≡ (written s u us).screen
unfolding written
screen_alone s t u us = ap (λ (page : Page). record { page = page; text = (split_on s us).tail }) (page_alone s.page t u (split_on s us).items)

either : (b : Bool) (x y v w : Told) → x.alternate ≡ v.alternate → y.alternate ≡ w.alternate → (cond b x y).alternate ≡ (cond b v w).alternate
either true x y v w h k = h
either false x y v w h k = k

private_keeps : (t u : Told) (c : Csi) → t.alternate ≡ u.alternate → (private_told t c).alternate ≡ (private_told u c).alternate
private_keeps t u c h = let k : switched c t.alternate ≡ switched c u.alternate = ap (switched c) h in search (either, h, k) depth 14

csi_keeps : (p : Page) (t u : Told) (c : Csi) → t.alternate ≡ u.alternate → (csi_told p t c).alternate ≡ (csi_told p u c).alternate
unfolding csi_told
csi_keeps p t u c h = let k = private_keeps t u c h in search (either, h, k) depth 14

item_keeps : (p : Page) (t u : Told) (title : List ℕ) (i : Item) → t.alternate ≡ u.alternate → (told_by p t title i).alternate ≡ (told_by p u title i).alternate
item_keeps p t u title (items.Print n) h = h
item_keeps p t u title (items.Control n) h = h
item_keeps p t u title (items.Csi c) h = csi_keeps p t u c h
item_keeps p t u title (items.Escape n) h = h
item_keeps p t u title (items.Charset n) h = h
item_keeps p t u title items.Title h = h

by_last : (k l : Bool) (x y : Option Bool) → (k || l) ≡ true → cond k (Some true) (cond l (Some false) x) ≡ cond k (Some true) (cond l (Some false) y)
by_last true l x y h = refl
by_last false true x y h = refl
by_last false false x y h = absurd (cc)

csi_switches : (p : Page) (t u : Told) (c : Csi) → is_switch (items.Csi c) ≡ true → (csi_told p t c).alternate ≡ (csi_told p u c).alternate
unfolding csi_told is_switch
csi_switches p t u c h =
    let a = and_parts ((c.inter == 0) && c.private && (first c == 1049)) ((c.last == 0x68) || (c.last == 0x6C)) h in
    let b = and_parts ((c.inter == 0) && c.private) (first c == 1049) a.0 in
    let d = and_parts (c.inter == 0) c.private b.0 in
    let e : (first c == 1049) ≡ true = b.1 in
    let one : (first c == 1) ≡ false = grind (arith, nat_tests) in
    let inter : c.inter ≡ 0 = grind (arith, nat_tests, d.0) in
    rw (inter, d.1, one, e) (by_last (c.last == 0x68) (c.last == 0x6C) t.alternate u.alternate a.1)

item_switches : (p : Page) (t u : Told) (title : List ℕ) (i : Item) → is_switch i ≡ true → (told_by p t title i).alternate ≡ (told_by p u title i).alternate
unfolding is_switch
item_switches p t u title (items.Print n) h = absurd (cc)
item_switches p t u title (items.Control n) h = absurd (cc)
item_switches p t u title (items.Csi c) h = csi_switches p t u c h
item_switches p t u title (items.Escape n) h = absurd (cc)
item_switches p t u title (items.Charset n) h = absurd (cc)
item_switches p t u title items.Title h = absurd (cc)

all_keep : (p : Page) (t u : Told) (items : List Spoken) → t.alternate ≡ u.alternate
    → (fold heard (record { page = p; told = t }) items).told.alternate ≡ (fold heard (record { page = p; told = u }) items).told.alternate
unfolding heard told_after
all_keep p t u [] h = h
all_keep p t u (s ∷ items) h = all_keep (effect p s.item) (told_after p t s) (told_after p u s) items (item_keeps p t u s.title s.item h)

either_way : {P : Type 0} {x : Bool} (b : Bool) → x ≡ b → (x ≡ true → P) → (x ≡ false → P) → P
either_way true e on off = on e
either_way false e on off = off e

all_switch : (p : Page) (t u : Told) (items : List Spoken) → any_switch items ≡ true
    → (fold heard (record { page = p; told = t }) items).told.alternate ≡ (fold heard (record { page = p; told = u }) items).told.alternate
unfolding heard told_after
all_switch p t u [] h = absurd (cc)
all_switch p t u (s ∷ items) h = either_way (is_switch s.item) refl
    (λ e. all_keep (effect p s.item) (told_after p t s) (told_after p u s) items (item_switches p t u s.title s.item e))
    (λ e. all_switch (effect p s.item) (told_after p t s) (told_after p u s) items (rw e at h))

alternate_alone : (s : Screen) (t u : Told) (us : List ℕ) → switches s us ≡ true → (written s t us).told.alternate ≡ (written s u us).told.alternate
unfolding written switches
alternate_alone s t u us h = all_switch s.page t u (split_on s us).items h

carried_alone : (b : Buffer) (st su : Stage) (switch : Bool) → st.screen ≡ su.screen → (switch ≡ true → st.told.alternate ≡ su.told.alternate)
    → (carried b st switch).buffer ≡ (carried b su switch).buffer
carried_alone b st su true h k = rw (h, k refl) refl
carried_alone b st su false h k = rw h refl

unit_alone : (b : Buffer) (t u : Told) (n : ℕ)
    → (unit_written (record { buffer = b; told = t }) n).buffer ≡ (unit_written (record { buffer = b; told = u }) n).buffer
unfolding unit_written
unit_alone b t u n = carried_alone b (written b.shown t (n ∷ [])) (written b.shown u (n ∷ [])) (switches b.shown (n ∷ []))
    (screen_alone b.shown t u (n ∷ [])) (alternate_alone b.shown t u (n ∷ []))

-- the buffer after units, whatever was told before
from_stage : (x y : BufferStage) (us : List ℕ) → x.buffer ≡ y.buffer → (fold unit_written x us).buffer ≡ (fold unit_written y us).buffer
from_stage x y [] h = h
from_stage x y (n ∷ us) h = from_stage (unit_written x n) (unit_written y n) us
    (unit_alone x.buffer x.told y.told n ∙ ap (λ (b : Buffer). (unit_written (record { buffer = b; told = y.told }) n).buffer) h)

pub buffer_alone : (b : Buffer) (t u : Told) (us : List ℕ) → (written_on b t us).buffer ≡ (written_on b u us).buffer
unfolding written_on
buffer_alone b t u us = from_stage (record { buffer = b; told = t }) (record { buffer = b; told = u }) us refl

pub buffer_nothing : (b : Buffer) (t : Told) → (written_on b t []).buffer ≡ b
unfolding written_on
buffer_nothing b t = refl

pub buffer_in_turn : (b : Buffer) (t u v : Told) (xs ys : List ℕ) → (written_on (written_on b t xs).buffer u ys).buffer ≡ (written_on b v (xs ++ ys)).buffer
unfolding written_on
buffer_in_turn b t u v xs ys =
    let first = fold unit_written (record { buffer = b; told = t }) xs in
    buffer_alone first.buffer u first.told ys
    ∙ ap (λ (x : BufferStage). x.buffer) (sym (fold-append unit_written (record { buffer = b; told = t }) xs ys)) ∙ buffer_alone b t v (xs ++ ys)

-- ---- the buffers of a console

slots_nothing : (slots : List (Option Buffer)) (id : ℕ) (t : Told) → set slots id (option_map (buffer_written t []) (get_or slots id None)) ≡ slots
slots_nothing slots id t = ap (λ (o : Option Buffer). set slots id o) (by_slot (get_or slots id None)) ∙ set-get_or slots id None
  where
    by_slot : (o : Option Buffer) → option_map (buffer_written t []) o ≡ o
    by_slot None = refl
    by_slot (Some b) = ap (λ (c : Buffer). Some c) (buffer_nothing b t)

slot_in_turn : (o : Option Buffer) (t u v : Told) (xs ys : List ℕ)
    → option_map (buffer_written u ys) (option_map (buffer_written t xs) o) ≡ option_map (buffer_written v (xs ++ ys)) o
slot_in_turn None t u v xs ys = refl
slot_in_turn (Some b) t u v xs ys = ap (λ (c : Buffer). Some c) (buffer_in_turn b t u v xs ys)

slots_in_turn : (slots : List (Option Buffer)) (id : ℕ) (t u v : Told) (xs ys : List ℕ)
    → set (set slots id (option_map (buffer_written t xs) (get_or slots id None))) id
    (option_map (buffer_written u ys) (get_or (set slots id (option_map (buffer_written t xs) (get_or slots id None))) id None))
    ≡ set slots id (option_map (buffer_written v (xs ++ ys)) (get_or slots id None))
slots_in_turn [] id t u v xs ys = refl
slots_in_turn (o ∷ slots) zero t u v xs ys = ap (λ (x : Option Buffer). x ∷ slots) (slot_in_turn o t u v xs ys)
slots_in_turn (o ∷ slots) (suc id) t u v xs ys = ap (λ (l : List (Option Buffer)). o ∷ l) (slots_in_turn slots id t u v xs ys)

-- A text of no units changes nothing.
pub written_nothing : (s : Buffers) (id : ℕ) (t : Told) → with_buffer s id (buffer_written t []) ≡ s
written_nothing s id t = ap (λ (l : List (Option Buffer)). record s { slots = l }) (slots_nothing s.slots id t)

-- Two texts in turn are the whole text, whatever was told before each.
pub written_in_turn : (s : Buffers) (id : ℕ) (t u v : Told) (xs ys : List ℕ)
    → with_buffer (with_buffer s id (buffer_written t xs)) id (buffer_written u ys) ≡ with_buffer s id (buffer_written v (xs ++ ys))
written_in_turn s id t u v xs ys = ap (λ (l : List (Option Buffer)). record s { slots = l }) (slots_in_turn s.slots id t u v xs ys)
