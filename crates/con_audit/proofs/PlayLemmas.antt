-- What a unit, a character and a byte make of a partial terminal.
use Rattle.std.proofs.Common.{◌≡◌, ℕ, List, [], ◌∷◌, ◌++◌, ◌+◌, ◌-◌, ◌/◌, ◌%◌, ◌<◌, ◌≤◌, false, nat_lt, take, length, get_or, arith, refl, sym, ap, ◌∙◌}
use Rattle.std.specs.Prelude.{flat_map, fold}
use Rattle.std.proofs.lemmas.Grind.{flat_map-append}
use Rattle.std.proofs.lemmas.List.{take_more, take_all}
use Rattle.std.proofs.lemmas.Bool.Decides.{nat_tests}
use Rattle.con_units.specs.Split.{Split, next, split_after}
use Rattle.con_units.specs.Utf8.{utf8}
use Rattle.con_units.specs.SplitLaws.{split_after-one, split_after-append}
use Rattle.con_vtgram.specs.Text.{grammar}
use Rattle.con_vtgram.specs.declared.item.Item.{Item}
use Rattle.con_term.specs.Page.{Page}
use Rattle.con_term.specs.Effect.{effect}
use Rattle.con_term.specs.Play.{units_of, play}
use Rattle.con_term.specs.Steps.{typed}
use Rattle.con_term.specs.PlayLaws.{typed-append, play-append}
use Rattle.con_term.specs.Terminal.{Terminal}
use Rattle.con_audit.specs.Known.{Known, learned, all_learned}
use Rattle.con_audit.specs.Partial.{Partial, played}
use Rattle.con_audit.specs.Playing.{typed_partial, items_of}

learned-append : (s : Page) (k : Known) (is js : List Item) → all_learned s k (is ++ js) ≡ all_learned (fold effect s is) (all_learned s k is) js
learned-append s k [] js = refl
learned-append s k (i ∷ is) js = learned-append (effect s i) (learned s k i) is js

same_partial : (t u : Terminal) (k l : Known) → t ≡ u → k ≡ l → ◌≡◌ {A = Partial} (record { terminal = t; known = k }) (record { terminal = u; known = l })
same_partial t u k l e f = rw (e, f) refl

pub typed_partial-append : (p : Partial) (xs ys : List ℕ) → typed_partial (typed_partial p xs) ys ≡ typed_partial p (xs ++ ys)
unfolding typed_partial typed
typed_partial-append p xs ys =
    let first = split_after grammar p.terminal.units xs in let second = split_after grammar first.tail ys in
    same_partial _ _ _ _ (typed-append p.terminal xs ys)
    (sym (ap (all_learned p.terminal.page p.known) (ap (λ (s : Split Item). s.items) (split_after-append grammar p.terminal.units xs ys)) ∙ learned-append p.terminal.page p.known first.items second.items))

pub typed_partial-none : (p : Partial) → p ≡ typed_partial p []
unfolding typed_partial typed split_after
typed_partial-none p = refl

pub unit_any : (p : Partial) (u : ℕ) (items : List Item) (page : Page) (known : Known) (tail : List ℕ) → items ≡ (next grammar p.terminal.units u).items → tail ≡ (next grammar p.terminal.units u).tail
    → page ≡ fold effect p.terminal.page items → known ≡ all_learned p.terminal.page p.known items
    → ◌≡◌ {A = Partial} (record { terminal = record { page = page; bytes = p.terminal.bytes; units = tail }; known = known }) (typed_partial p (u ∷ []))
unfolding typed_partial typed
unit_any p u items page known tail is rest e f = rw (split_after-one grammar p.terminal.units u, ← is, e, f, rest) refl

pub pair : (p mid after : Partial) (c : ℕ) → 0x10000 ≤ c → mid ≡ typed_partial p ((0xD800 + (c - 0x10000) / 1024) ∷ []) → after ≡ typed_partial mid ((0xDC00 + (c - 0x10000) % 1024) ∷ []) → after ≡ typed_partial p (units_of c)
unfolding units_of
pair p mid after c large first second = let b : nat_lt c 0x10000 ≡ false = grind (arith, nat_tests) in
    second ∙ ap (λ s. typed_partial s ((0xDC00 + (c - 0x10000) % 1024) ∷ [])) first ∙ typed_partial-append p _ _ ∙ rw b refl

played_is : (p : Partial) (bytes : List ℕ) → played p bytes ≡ typed_partial (record { terminal = record p.terminal { bytes = (split_after utf8 p.terminal.bytes bytes).tail }; known = p.known }) (flat_map units_of (split_after utf8 p.terminal.bytes bytes).items)
unfolding played play typed typed_partial
played_is p bytes = refl

pub byte : (p mid after : Partial) (b : ℕ) (held first second : List ℕ) → first ++ second ≡ (next utf8 p.terminal.bytes b).items → held ≡ (next utf8 p.terminal.bytes b).tail
    → mid ≡ typed_partial (record { terminal = record p.terminal { bytes = held }; known = p.known }) (flat_map units_of first) → after ≡ typed_partial mid (flat_map units_of second) → after ≡ played p (b ∷ [])
byte p mid after b held first second items rest one two =
    two ∙ ap (λ s. typed_partial s (flat_map units_of second)) one ∙ typed_partial-append (record { terminal = record p.terminal { bytes = held }; known = p.known }) _ _
    ∙ sym (played_is p (b ∷ []) ∙ rw (split_after-one utf8 p.terminal.bytes b, ← items, flat_map-append units_of first second, rest) refl)

items-append : (t : Terminal) (xs ys : List ℕ) → items_of t (xs ++ ys) ≡ items_of t xs ++ items_of (play t xs) ys
unfolding play typed
items-append t xs ys =
    let c1 = split_after utf8 t.bytes xs in let c2 = split_after utf8 c1.tail ys in
    let us = flat_map units_of c1.items in let vs = flat_map units_of c2.items in
    let e : flat_map units_of (split_after utf8 t.bytes (xs ++ ys)).items ≡ us ++ vs = ap (λ (s : Split ℕ). flat_map units_of s.items) (split_after-append utf8 t.bytes xs ys) ∙ flat_map-append units_of c1.items c2.items in
    ap (λ (ws : List ℕ). (split_after grammar t.units ws).items) e ∙ ap (λ (s : Split Item). s.items) (split_after-append grammar t.units us vs)

known-append : (p : Partial) (xs ys : List ℕ) → all_learned (play p.terminal xs).page (all_learned p.terminal.page p.known (items_of p.terminal xs)) (items_of (play p.terminal xs) ys) ≡ all_learned p.terminal.page p.known (items_of p.terminal (xs ++ ys))
unfolding play typed
known-append p xs ys = sym (ap (all_learned p.terminal.page p.known) (items-append p.terminal xs ys) ∙ learned-append p.terminal.page p.known (items_of p.terminal xs) (items_of (play p.terminal xs) ys))

pub played-append : (p : Partial) (xs ys : List ℕ) → played (played p xs) ys ≡ played p (xs ++ ys)
unfolding played
played-append p xs ys = same_partial _ _ _ _ (play-append p.terminal xs ys) (known-append p xs ys)

pub played_more : (p before after : Partial) (bytes : List ℕ) (at : ℕ) → at < length bytes → before ≡ played p (take at bytes) → after ≡ played before (get_or bytes at 0 ∷ []) → after ≡ played p (take (at + 1) bytes)
played_more p before after bytes at lt first second =
    second ∙ ap (λ s. played s (get_or bytes at 0 ∷ [])) first ∙ played-append p (take at bytes) (get_or bytes at 0 ∷ []) ∙ ap (played p) (sym (take_more bytes at 0 lt))

pub played-none : (p : Partial) → p ≡ played p []
unfolding played play typed split_after
played-none p = refl

pub played_whole : (p after : Partial) (bytes : List ℕ) (at : ℕ) → length bytes ≤ at → after ≡ played p (take at bytes) → after ≡ played p bytes
played_whole p after bytes at le e = e ∙ ap (played p) (take_all at bytes le)
