-- No effect on a page depends on the stamps of its rows.
use Rattle.std.proofs.Common.{◌≡◌, ℕ, Bool, true, false, cond, List, [], ◌∷◌, Option, None, Some, refl, ap, ◌∙◌}
use Rattle.std.specs.Prelude.{fold}
use Rattle.con_vtgram.specs.declared.item.Csi.{Csi}
use Rattle.con_vtgram.specs.declared.item.Item.{Item}
use Rattle.con_vtgram.specs.declared.item.Item.TheVariants as items
use Rattle.con_vtgram.specs.Spoken.{Spoken}
use Rattle.con_page.specs.Page.{Page, down, down_in, shown}
use Rattle.con_page.specs.Print.{wrapped, put, advanced, printed}
use Rattle.con_page.specs.Effect.{effect, follow, act, sequence_effect, plain_effect, setting, edit, control_effect, escape_effect, part_erased}
use Rattle.con_page.specs.Kinds.{line_feed}
use Rattle.con_screen.specs.Told.{Told, told_by, told_after, csi_told}
use Rattle.con_screen.specs.Screen.{Screen}
use Rattle.con_screen.specs.Written.{Heard, heard, Stage, written, split_on, switches}
use Rattle.con_page.specs.declared.margins.Margins.{Margins}
use Rattle.con_laws.specs.Unstamped.{unstamped_page, unstamped_screen}

either : (b : Bool) (x y z w : Page) → unstamped_page x ≡ z → unstamped_page y ≡ w → unstamped_page (cond b x y) ≡ cond b z w
either true x y z w h k = h
either false x y z w h k = k

pub down_in_same : (p : Page) (o : Option Margins) → unstamped_page (down_in p o) ≡ down_in (unstamped_page p) o
down_in_same p None = search either depth 14
down_in_same p (Some g) = search either depth 14

down_same : (p : Page) → unstamped_page (down p) ≡ down (unstamped_page p)
unfolding down
down_same p = down_in_same p p.margins

wrapped_same : (p : Page) → unstamped_page (wrapped p) ≡ wrapped (unstamped_page p)
unfolding wrapped
wrapped_same p = either p.late (down (record p { x = 0; late = false })) p _ _ (down_same (record p { x = 0; late = false })) refl

advanced_same : (p : Page) → unstamped_page (advanced p) ≡ advanced (unstamped_page p)
unfolding advanced
advanced_same p = search (either, down_same) depth 14

put_same : (u : ℕ) (p : Page) → unstamped_page (put u p) ≡ put u (unstamped_page p)
unfolding put
put_same u p = refl

printed_same : (u : ℕ) (p : Page) → unstamped_page (printed u p) ≡ printed u (unstamped_page p)
unfolding printed
printed_same u p = advanced_same (put u (wrapped p)) ∙ ap advanced (put_same u (wrapped p) ∙ ap (put u) (wrapped_same p))

pub shown_same : (p : Page) → unstamped_page (shown p) ≡ shown (unstamped_page p)
unfolding shown
shown_same p = refl

line_feed_same : (p : Page) → unstamped_page (line_feed p) ≡ line_feed (unstamped_page p)
line_feed_same p =
    let q : Page = cond p.mode.keeps_column p (record p { x = 0 }) in
    ap (λ (r : Page). let o : Page = record r { late = false } in o) (down_same q ∙ ap down (either p.mode.keeps_column p (record p { x = 0 }) _ _ refl refl))

control_same : (p : Page) (u : ℕ) → unstamped_page (control_effect p u) ≡ control_effect (unstamped_page p) u
unfolding control_effect
control_same p u = search (either, line_feed_same) depth 14

setting_same : (p : Page) (c : Csi) → unstamped_page (setting p c) ≡ setting (unstamped_page p) c
unfolding setting
setting_same p c = search either depth 14

part_same : (p : Page) (from upto n : ℕ) → unstamped_page (part_erased p from upto n) ≡ part_erased (unstamped_page p) from upto n
unfolding part_erased
part_same p from upto n = search either depth 14

edit_same : (p : Page) (c : Csi) → unstamped_page (edit p c) ≡ edit (unstamped_page p) c
unfolding edit
edit_same p c = search (either, part_same, setting_same) depth 14

plain_same : (p : Page) (c : Csi) → unstamped_page (plain_effect p c) ≡ plain_effect (unstamped_page p) c
unfolding plain_effect
plain_same p c = search (either, edit_same) depth 16

sequence_same : (p : Page) (c : Csi) → unstamped_page (sequence_effect p c) ≡ sequence_effect (unstamped_page p) c
unfolding sequence_effect
sequence_same p c = search (either, plain_same) depth 14

escape_same : (p : Page) (u : ℕ) → unstamped_page (escape_effect p u) ≡ escape_effect (unstamped_page p) u
unfolding escape_effect
escape_same p u = search either depth 14

act_same : (p : Page) (i : Item) → unstamped_page (act p i) ≡ act (unstamped_page p) i
unfolding act
act_same p (items.Print u) = printed_same u p
act_same p (items.Control u) = control_same p u
act_same p (items.Csi c) = sequence_same p c
act_same p (items.Escape u) = escape_same p u
act_same p (items.Charset u) = search either depth 14
act_same p items.Title = refl

follow_same : (old new : Page) → unstamped_page (follow old new) ≡ follow (unstamped_page old) (unstamped_page new)
unfolding follow shown
follow_same old new = search either depth 14

pub effect_same : (p : Page) (i : Item) → unstamped_page (effect p i) ≡ effect (unstamped_page p) i
unfolding effect
effect_same p i = follow_same p (act p i) ∙ ap (follow (unstamped_page p)) (act_same p i)

-- ---- what texts tell

told_same : (p : Page) (t : Told) (s : Spoken) → told_after p t s ≡ told_after (unstamped_page p) t s
unfolding told_after csi_told
told_same p t s = by s.item
  where
    by : (i : Item) → told_by p t s.title i ≡ told_by (unstamped_page p) t s.title i
    by (items.Print u) = refl
    by (items.Control u) = refl
    by (items.Csi c) = refl
    by (items.Escape u) = refl
    by (items.Charset u) = refl
    by items.Title = refl

abbrev unstamped_heard : Heard → Heard
unstamped_heard b = record b { page = unstamped_page b.page }

heard_same : (b : Heard) (i : Spoken) → unstamped_heard (heard b i) ≡ heard (unstamped_heard b) i
unfolding heard
heard_same b i =
    ap (λ (p : Page). let h : Heard = record { page = p; told = told_after b.page b.told i } in h) (effect_same b.page i.item)
    ∙ ap (λ (t : Told). let h : Heard = record { page = effect (unstamped_page b.page) i.item; told = t } in h) (told_same b.page b.told i)

all_heard : (b : Heard) (is : List Spoken) → unstamped_heard (fold heard b is) ≡ fold heard (unstamped_heard b) is
all_heard b [] = refl
all_heard b (i ∷ is) = all_heard (heard b i) is ∙ ap (λ (h : Heard). fold heard h is) (heard_same b i)

abbrev pub unstamped_stage : Stage → Stage
unstamped_stage s = record s { screen = unstamped_screen s.screen }

pub written_same : (s : Screen) (t : Told) (us : List ℕ) → unstamped_stage (written s t us) ≡ written (unstamped_screen s) t us
unfolding written
written_same s t us =
    ap (λ (h : Heard). let r : Stage = record { screen = record { page = h.page; text = (split_on s us).tail }; told = h.told } in r)
    (all_heard (record { page = s.page; told = t }) (split_on s us).items)

pub switches_same : (s : Screen) (us : List ℕ) → switches s us ≡ switches (unstamped_screen s) us
unfolding switches
switches_same s us = refl
