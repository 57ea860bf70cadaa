-- No item changes the mode.
use Rattle.std.proofs.Common.{◌≡◌, ℕ, Bool, true, false, cond, Option, None, Some, refl, ◌∙◌}
use Rattle.con_vtgram.specs.declared.item.Csi.{Csi}
use Rattle.con_vtgram.specs.declared.item.Item.{Item}
use Rattle.con_vtgram.specs.declared.item.Item.TheVariants as items
use Rattle.con_page.specs.Page.{Page, down, down_in, shown}
use Rattle.con_page.specs.Print.{wrapped, put, advanced, printed}
use Rattle.con_page.specs.Effect.{effect, follow, act, sequence_effect, plain_effect, setting, edit, control_effect, escape_effect, part_erased}
use Rattle.con_page.specs.declared.mode.Mode.{Mode}
use Rattle.con_page.specs.declared.margins.Margins.{Margins}

either : (b : Bool) (x y : Page) (m : Mode) → x.mode ≡ m → y.mode ≡ m → (cond b x y).mode ≡ m
either true x y m h k = h
either false x y m h k = k

down_in_mode : (p : Page) (o : Option Margins) → (down_in p o).mode ≡ p.mode
down_in_mode p None = search either depth 14
down_in_mode p (Some g) = search either depth 14

down_mode : (p : Page) → (down p).mode ≡ p.mode
unfolding down
down_mode p = down_in_mode p p.margins

wrapped_mode : (p : Page) → (wrapped p).mode ≡ p.mode
unfolding wrapped
wrapped_mode p = search (either, down_mode) depth 14

advanced_mode : (p : Page) → (advanced p).mode ≡ p.mode
unfolding advanced
advanced_mode p = search (either, down_mode) depth 14

printed_mode : (u : ℕ) (p : Page) → (printed u p).mode ≡ p.mode
unfolding printed put
printed_mode u p = advanced_mode (put u (wrapped p)) ∙ wrapped_mode p

control_mode : (p : Page) (u : ℕ) → (control_effect p u).mode ≡ p.mode
unfolding control_effect
control_mode p u = search (either, fed) depth 14
  where
    fed : (down (cond p.mode.keeps_column p (record p { x = 0 }))).mode ≡ p.mode
    fed = down_mode (cond p.mode.keeps_column p (record p { x = 0 })) ∙ search either depth 14

setting_mode : (p : Page) (c : Csi) → (setting p c).mode ≡ p.mode
unfolding setting
setting_mode p c = search either depth 14

part_mode : (p : Page) (from upto n : ℕ) → (part_erased p from upto n).mode ≡ p.mode
unfolding part_erased
part_mode p from upto n = search either depth 14

edit_mode : (p : Page) (c : Csi) → (edit p c).mode ≡ p.mode
unfolding edit
edit_mode p c = search (either, part_mode, setting_mode) depth 14

plain_mode : (p : Page) (c : Csi) → (plain_effect p c).mode ≡ p.mode
unfolding plain_effect
plain_mode p c = search (either, edit_mode) depth 16

sequence_mode : (p : Page) (c : Csi) → (sequence_effect p c).mode ≡ p.mode
unfolding sequence_effect
sequence_mode p c = search (either, plain_mode) depth 14

escape_mode : (p : Page) (u : ℕ) → (escape_effect p u).mode ≡ p.mode
unfolding escape_effect
escape_mode p u = search either depth 14

act_mode : (p : Page) (i : Item) → (act p i).mode ≡ p.mode
unfolding act
act_mode p (items.Print u) = printed_mode u p
act_mode p (items.Control u) = control_mode p u
act_mode p (items.Csi c) = sequence_mode p c
act_mode p (items.Escape u) = escape_mode p u
act_mode p (items.Charset u) = search either depth 14
act_mode p items.Title = refl

follow_mode : (old new : Page) → (follow old new).mode ≡ new.mode
unfolding follow shown
follow_mode old new = search either depth 14

pub effect_mode : (p : Page) (i : Item) → (effect p i).mode ≡ p.mode
unfolding effect
effect_mode p i = follow_mode p (act p i) ∙ act_mode p i
