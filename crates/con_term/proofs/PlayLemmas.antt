-- What a unit, a character and a byte make of a terminal.
use Rattle.std.proofs.Common.{◌≡◌, ℕ, List, [], ◌∷◌, ◌++◌, ◌+◌, ◌-◌, ◌<◌, ◌≤◌, take, drop, length, length-drop, get_or, arith, refl, sym, ap, ◌∙◌}
use Rattle.std.specs.Prelude.{flat_map, fold}
use Rattle.std.proofs.lemmas.Grind.{flat_map-append}
use Rattle.std.proofs.lemmas.List.{take_more, take_all, length-take}
use Rattle.std.proofs.Math.Seq.{take-add}
use Rattle.con_units.specs.Split.{next}
use Rattle.con_units.specs.Utf8.{utf8}
use Rattle.con_units.specs.SplitLaws.{split_after-one}
use Rattle.con_vtgram.specs.Text.{grammar}
use Rattle.con_vtgram.specs.declared.item.Item.{Item}
use Rattle.con_term.specs.Page.{Page}
use Rattle.con_term.specs.Effect.{effect}
use Rattle.con_term.specs.Play.{units_of, play}
use Rattle.con_term.specs.Steps.{typed}
use Rattle.con_term.specs.Terminal.{Terminal}
use Rattle.con_term.specs.PlayLaws.{typed-append, play-append}

pub unit_any : (t : Terminal) (u : ℕ) (items : List Item) (page : Page) (tail : List ℕ) → items ≡ (next grammar t.units u).items → tail ≡ (next grammar t.units u).tail → page ≡ fold effect t.page items
    → record t { page = page; units = tail } ≡ typed t (u ∷ [])
unfolding typed
unit_any t u items page tail is rest e = rw (split_after-one grammar t.units u, ← is, e, rest) refl

pub pair : (t mid after : Terminal) (c high low : ℕ) → high ∷ low ∷ [] ≡ units_of c → mid ≡ typed t (high ∷ []) → after ≡ typed mid (low ∷ []) → after ≡ typed t (units_of c)
pair t mid after c high low is first second =
    second ∙ ap (λ s. typed s (low ∷ [])) first ∙ typed-append t (high ∷ []) (low ∷ []) ∙ ap (typed t) is

pub byte : (t mid after : Terminal) (b : ℕ) (held first second : List ℕ) → first ++ second ≡ (next utf8 t.bytes b).items → held ≡ (next utf8 t.bytes b).tail
    → mid ≡ typed (record t { bytes = held }) (flat_map units_of first) → after ≡ typed mid (flat_map units_of second) → after ≡ play t (b ∷ [])
unfolding play typed
byte t mid after b held first second items rest one two =
    two ∙ ap (λ s. typed s (flat_map units_of second)) one ∙ typed-append (record t { bytes = held }) _ _
    ∙ rw (split_after-one utf8 t.bytes b, ← items, flat_map-append units_of first second, rest) refl

-- a run
pub played_run : (t before mid : Terminal) (bytes : List ℕ) (at count : ℕ) → before ≡ play t (take at bytes) → mid ≡ play before (take count (take (length bytes - at) (drop at bytes))) → mid ≡ play t (take (at + count) bytes)
played_run t before mid bytes at count first second =
    let all : take (length bytes - at) (drop at bytes) ≡ drop at bytes = take_all (length bytes - at) (drop at bytes) (omega (arith, length-drop {A = ℕ} at bytes)) in
    second ∙ ap (λ xs. play before (take count xs)) all ∙ ap (λ s. play s (take count (drop at bytes))) first ∙ play-append t (take at bytes) (take count (drop at bytes)) ∙ ap (play t) (sym (take-add at count bytes))

-- a run of none
pub played_none : (t before mid : Terminal) (bytes : List ℕ) (at count : ℕ) → count ≡ 0 → before ≡ play t (take at bytes) → mid ≡ play before (take count (take (length bytes - at) (drop at bytes))) → mid ≡ play t (take at bytes)
played_none t before mid bytes at count none first second =
    let same : at + count ≡ at = omega (arith, none) in
    played_run t before mid bytes at count first second ∙ ap (λ n. play t (take n bytes)) same

-- one byte
pub played_byte : (t before after : Terminal) (bytes : List ℕ) (at : ℕ) → at < length bytes → before ≡ play t (take at bytes) → after ≡ play before (get_or bytes at 0 ∷ []) → after ≡ play t (take (at + 1) bytes)
played_byte t before after bytes at lt first second =
    second ∙ ap (λ s. play s (get_or bytes at 0 ∷ [])) first ∙ play-append t (take at bytes) (get_or bytes at 0 ∷ []) ∙ ap (play t) (sym (take_more bytes at 0 lt))

pub run_fits : (bytes : List ℕ) (at count : ℕ) → at ≤ length bytes → count ≤ length (take (length bytes - at) (drop at bytes)) → at + count ≤ length bytes
run_fits bytes at count inside few = omega (arith, length-take (length bytes - at) (drop at bytes))
