-- An alternate screen is as large as the window.
use Rattle.std.proofs.Common.{◌≡◌, ℕ, ◌&&◌, ◌||◌, Bool, true, false, not, sym, ap, ◌∙◌, arith, nat_le}
use Rattle.std.specs.Prelude.{◌==◌}
use Rattle.std.proofs.lemmas.Bool.{and_parts}
use Rattle.std.proofs.lemmas.Bool.Decides.{nat_tests}
use Rattle.con_units.specs.declared.place.Size.{Size}
use Rattle.con_page.specs.Words.Fit.{Fit}
use Rattle.con_screens.specs.Buffers.{Buffers, is_alternate}
use Rattle.con_machine.specs.Words.ScreenCalls.{is_size}

last_of : (a b c d e : Bool) → (a && b && c && d && e) ≡ true → e ≡ true
last_of true true true true e h = h
last_of true true true false e h = cc
last_of true true false d e h = cc
last_of true false c d e h = cc
last_of false b c d e h = cc

when_shown : (a m n : Bool) → (not a || (m && n)) ≡ true → a ≡ true → (m ≡ true) × (n ≡ true)
when_shown true m n h e = and_parts m n h
when_shown false m n h e = cc

size_is : (a b : Size) → a.w ≡ b.w → a.h ≡ b.h → a ≡ b
size_is a b w h = ap (λ x. (let s : Size = record { w = x; h = a.h } in s)) w ∙ ap (λ y. (let s : Size = record { w = b.w; h = y } in s)) h

pub alternate_size : (b : Buffers) (id w h : ℕ) (f : Fit) → is_size b id w h ≡ true → f.buffer ≡ record { w = w; h = h } → f.window ≡ record { w = b.w; h = b.h } → is_alternate b id ≡ true → f.buffer ≡ f.window
alternate_size b id w h f size buffer window shown =
    let both = when_shown (is_alternate b id) (w == b.w) (h == b.h) (last_of (nat_le b.w w) (nat_le b.h h) (nat_le w 512) (nat_le h 2048) (not (is_alternate b id) || ((w == b.w) && (h == b.h))) size) shown in
    let wide : w ≡ b.w = (let t : (w == b.w) ≡ true = both.0 in grind (arith, nat_tests)) in
    let tall : h ≡ b.h = (let t : (h == b.h) ≡ true = both.1 in grind (arith, nat_tests)) in
    buffer ∙ size_is (record { w = w; h = h }) (record { w = b.w; h = b.h }) wide tall ∙ sym window
