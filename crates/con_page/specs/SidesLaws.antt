-- No item changes the sides of the buffer or of the window.
use Rattle.std.proofs.Common.{◌≡◌, ℕ, Bool, true, false, cond, Option, None, Some, refl, ◌∙◌}
use Rattle.con_vtgram.specs.declared.item.Csi.{Csi}
use Rattle.con_vtgram.specs.declared.item.Item.{Item}
use Rattle.con_vtgram.specs.declared.item.Item.TheVariants as items
use Rattle.con_page.specs.Page.{Page, down, down_in, shown}
use Rattle.con_page.specs.Print.{wrapped, put, advanced, printed}
use Rattle.con_page.specs.Effect.{effect, follow, act, sequence_effect, plain_effect, setting, edit, control_effect, escape_effect, part_erased}
use Rattle.con_page.specs.Sides.{Sides, sides}
use Rattle.con_page.specs.declared.margins.Margins.{Margins}

either : (b : Bool) (x y : Page) (m : Sides) → sides x ≡ m → sides y ≡ m → sides (cond b x y) ≡ m
either true x y m h k = h
either false x y m h k = k

pub down_in_sides : (p : Page) (o : Option Margins) → sides (down_in p o) ≡ sides p
down_in_sides p None = search either depth 14
down_in_sides p (Some g) = search either depth 14

down_sides : (p : Page) → sides (down p) ≡ sides p
unfolding down
down_sides p = down_in_sides p p.margins

wrapped_sides : (p : Page) → sides (wrapped p) ≡ sides p
unfolding wrapped
wrapped_sides p = search (either, down_sides) depth 14

advanced_sides : (p : Page) → sides (advanced p) ≡ sides p
unfolding advanced
advanced_sides p = search (either, down_sides) depth 14

printed_sides : (u : ℕ) (p : Page) → sides (printed u p) ≡ sides p
unfolding printed put
printed_sides u p = advanced_sides (put u (wrapped p)) ∙ wrapped_sides p

control_sides : (p : Page) (u : ℕ) → sides (control_effect p u) ≡ sides p
unfolding control_effect
control_sides p u = search (either, fed) depth 14
  where
    fed : sides (down (cond p.mode.keeps_column p (record p { x = 0 }))) ≡ sides p
    fed = down_sides (cond p.mode.keeps_column p (record p { x = 0 })) ∙ search either depth 14

setting_sides : (p : Page) (c : Csi) → sides (setting p c) ≡ sides p
unfolding setting
setting_sides p c = search either depth 14

part_sides : (p : Page) (from upto n : ℕ) → sides (part_erased p from upto n) ≡ sides p
unfolding part_erased
part_sides p from upto n = search either depth 14

edit_sides : (p : Page) (c : Csi) → sides (edit p c) ≡ sides p
unfolding edit
edit_sides p c = search (either, part_sides, setting_sides) depth 14

plain_sides : (p : Page) (c : Csi) → sides (plain_effect p c) ≡ sides p
unfolding plain_effect
plain_sides p c = search (either, edit_sides) depth 16

sequence_sides : (p : Page) (c : Csi) → sides (sequence_effect p c) ≡ sides p
unfolding sequence_effect
sequence_sides p c = search (either, plain_sides) depth 14

escape_sides : (p : Page) (u : ℕ) → sides (escape_effect p u) ≡ sides p
unfolding escape_effect
escape_sides p u = search either depth 14

act_sides : (p : Page) (i : Item) → sides (act p i) ≡ sides p
unfolding act
act_sides p (items.Print u) = printed_sides u p
act_sides p (items.Control u) = control_sides p u
act_sides p (items.Csi c) = sequence_sides p c
act_sides p (items.Escape u) = escape_sides p u
act_sides p (items.Charset u) = search either depth 14
act_sides p items.Title = refl

follow_sides : (old new : Page) → sides (follow old new) ≡ sides new
unfolding follow shown
follow_sides old new = search either depth 14

pub effect_sides : (p : Page) (i : Item) → sides (effect p i) ≡ sides p
unfolding effect
effect_sides p i = follow_sides p (act p i) ∙ act_sides p i
