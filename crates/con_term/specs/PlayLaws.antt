-- Laws of play: however units and bytes are cut, the terminal is that of the whole.
use Rattle.std.proofs.Common.{◌≡◌, ℕ, List, [], ◌++◌, refl, sym}
use Rattle.std.specs.Prelude.{flat_map}
use Rattle.std.proofs.lemmas.List.Sums.{fold-append}
use Rattle.std.proofs.lemmas.Grind.{flat_map-append}
use Rattle.con_units.specs.Split.{split_after}
use Rattle.con_units.specs.Utf8.{utf8}
use Rattle.con_units.specs.SplitLaws.{split_after-append}
use Rattle.con_vtgram.specs.Text.{grammar}
use Rattle.con_term.specs.Effect.{effect}
use Rattle.con_term.specs.Play.{units_of, play}
use Rattle.con_term.specs.Steps.{typed}
use Rattle.con_term.specs.SidesLaws.{HasSidesOf, effects-sides}
use Rattle.con_term.specs.Terminal.{Terminal}

pub typed-none : (t : Terminal) → typed t [] ≡ t
unfolding typed split_after
typed-none t = refl

pub typed-append : (t : Terminal) (xs ys : List ℕ) → typed (typed t xs) ys ≡ typed t (xs ++ ys)
unfolding typed
typed-append t xs ys = let first = split_after grammar t.units xs in let second = split_after grammar first.tail ys in
    sym (rw (split_after-append grammar t.units xs ys, fold-append effect t.page first.items second.items) refl)

pub play-append : (t : Terminal) (xs ys : List ℕ) → play (play t xs) ys ≡ play t (xs ++ ys)
unfolding play typed
play-append t xs ys =
    let c1 = split_after utf8 t.bytes xs in let c2 = split_after utf8 c1.tail ys in
    let s1 = split_after grammar t.units (flat_map units_of c1.items) in let s2 = split_after grammar s1.tail (flat_map units_of c2.items) in
    let units = split_after-append grammar t.units (flat_map units_of c1.items) (flat_map units_of c2.items) in
    sym (rw (split_after-append utf8 t.bytes xs ys, flat_map-append units_of c1.items c2.items, units, fold-append effect t.page s1.items s2.items) refl)

pub play-none : (t : Terminal) → t ≡ play t []
unfolding play typed split_after
play-none t = refl

-- no text changes a terminal's sides
pub play-sides : (t : Terminal) (bytes : List ℕ) → HasSidesOf t.page (play t bytes).page
unfolding play typed
play-sides t bytes = effects-sides t.page (split_after grammar t.units (flat_map units_of (split_after utf8 t.bytes bytes).items)).items
