-- Laws of sides: no item changes them, so no text does.
use Rattle.std.proofs.Common.{◌≡◌, ℕ, Bool, true, false, cond, ◌==◌, ◌&&◌, ◌||◌, ◌+◌, nat_lt, List, [], ◌∷◌, refl, ◌∙◌}
use Rattle.std.specs.Prelude.{fold, slice_index}
use Rattle.con_vtgram.specs.declared.item.Csi.{Csi}
use Rattle.con_vtgram.specs.declared.item.Item.{Item}
use Rattle.con_vtgram.specs.declared.item.Item.TheVariants as items
use Rattle.con_term.specs.Page.{Page, lowered, wrapped, printed}
use Rattle.con_term.specs.Effect.{part_erased, plain_effect, private_effect, control_effect, effect}

-- the same sides
abbrev pub HasSidesOf : Page → Page → Type 0
HasSidesOf s t = (t.w ≡ s.w) × (t.h ≡ s.h)

same : (s : Page) → HasSidesOf s s
same s = (refl, refl)

either : (s x y : Page) (b : Bool) → HasSidesOf s x → HasSidesOf s y → HasSidesOf s (cond b x y)
either s x y true h k = h
either s x y false h k = k

lowered-sides : (s : Page) → HasSidesOf s (lowered s)
unfolding lowered
lowered-sides s = either s _ _ (nat_lt (s.y + 1) s.h) (refl, refl) (refl, refl)

wrapped-sides : (s : Page) → HasSidesOf s (wrapped s)
wrapped-sides s = either s (record (lowered s) { x = 0; pending = false }) s s.pending (lowered-sides s) (same s)

printed-sides : (u : ℕ) (s : Page) → HasSidesOf s (printed u s)
unfolding printed
printed-sides u s = either s _ _ (nat_lt ((wrapped s).x + 1) (wrapped s).w) (wrapped-sides s) (wrapped-sides s)

part-sides : (s : Page) (first end n : ℕ) → HasSidesOf s (part_erased s first end n)
unfolding part_erased
part-sides s first end n = either s _ _ (n == 0) (refl, refl) (either s _ _ (n == 1) (refl, refl) (either s _ _ (n == 2) (refl, refl) (refl, refl)))

private-sides : (s : Page) (c : Csi) → HasSidesOf s (private_effect s c)
unfolding private_effect
private-sides s c = either s (record s { visible = c.last == 0x68 }) s ((slice_index c.params 0 == 25) && ((c.last == 0x68) || (c.last == 0x6C))) (refl, refl) (refl, refl)

plain-sides : (s : Page) (c : Csi) → HasSidesOf s (plain_effect s c)
unfolding plain_effect
plain-sides s c =
    either s _ _ (c.last == 0x41) (refl, refl)
    (either s _ _ (c.last == 0x42) (refl, refl)
    (either s _ _ (c.last == 0x43) (refl, refl)
    (either s _ _ (c.last == 0x44) (refl, refl)
    (either s _ _ (c.last == 0x48) (refl, refl)
    (either s _ _ (c.last == 0x66) (refl, refl)
    (either s _ _ (c.last == 0x53) (refl, refl)
    (either s _ _ (c.last == 0x4A) (part-sides s _ _ (slice_index c.params 0))
    (either s _ _ (c.last == 0x4B) (part-sides s _ _ (slice_index c.params 0))
    (either s _ _ (c.last == 0x58) (refl, refl)
    (either s _ _ (c.last == 0x6D) (refl, refl) (refl, refl)))))))))))

control-sides : (s : Page) (u : ℕ) → HasSidesOf s (control_effect s u)
control-sides s u = either s _ _ (u == 8) (refl, refl) (either s _ _ (u == 10) (lowered-sides s) (either s _ _ (u == 13) (refl, refl) (refl, refl)))

pub effect-sides : (s : Page) (i : Item) → HasSidesOf s (effect s i)
unfolding effect
effect-sides s (items.Print u) = printed-sides u s
effect-sides s (items.Control u) = control-sides s u
effect-sides s (items.Csi c) = either s _ _ (c.inter == 0) (either s _ _ c.private (private-sides s c) (plain-sides s c)) (refl, refl)
effect-sides s (items.Escape u) = same s
effect-sides s (items.Charset u) = same s
effect-sides s items.Title = same s

pub effects-sides : (s : Page) (is : List Item) → HasSidesOf s (fold effect s is)
effects-sides s [] = same s
effects-sides s (i ∷ is) = let h = effects-sides (effect s i) is in let k = effect-sides s i in (h.0 ∙ k.0, h.1 ∙ k.1)
