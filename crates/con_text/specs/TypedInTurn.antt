-- Two pieces typed in turn are the whole typed.
use Rattle.std.proofs.Common.{◌≡◌, ℕ, List, [], ◌++◌, sym, ap, ◌∙◌}
use Rattle.std.specs.Prelude.{flat_map}
use Rattle.std.proofs.lemmas.Grind.{flat_map-append}
use Rattle.con_units.specs.Split.{split_after}
use Rattle.con_units.specs.Utf8.{utf8}
use Rattle.con_units.specs.SplitLaws.{split_after-append}
use Rattle.con_term.specs.Play.{units_of}
use Rattle.con_screen.specs.Told.{nothing_told}
use Rattle.con_screens.specs.Buffers.{Buffers}
use Rattle.con_screens.specs.WrittenInTurn.{written_nothing, written_in_turn}
use Rattle.con_text.specs.Words.Typing.{Typing, heard, units_typed}

pub typed_none : (s : Buffers) → s ≡ units_typed s []
typed_none s = sym (written_nothing s 0 nothing_told)

pub units_in_turn : (s : Buffers) (xs ys : List ℕ) → units_typed (units_typed s xs) ys ≡ units_typed s (xs ++ ys)
units_in_turn s xs ys = written_in_turn s 0 nothing_told nothing_told nothing_told xs ys

pub typed_nothing : (t : Typing) → t ≡ heard t []
unfolding heard split_after
typed_nothing t = ap (λ (s : Buffers). record t { buffers = s }) (typed_none t.buffers)

pub heard-append : (t : Typing) (a b : List ℕ) → heard (heard t a) b ≡ heard t (a ++ b)
unfolding heard
heard-append t a b =
    let first = split_after utf8 t.held a in let second = split_after utf8 first.tail b in
    sym (rw (split_after-append utf8 t.held a b, flat_map-append units_of first.items second.items)
    (ap (λ (s : Buffers). record { buffers = s; held = second.tail })
    (sym (units_in_turn t.buffers (flat_map units_of first.items) (flat_map units_of second.items)))))

pub typed_in_turn : (a b : List ℕ) (s t u : Typing) → t ≡ heard s a → u ≡ heard t b → u ≡ heard s (a ++ b)
typed_in_turn a b s t u p q = q ∙ (ap (λ x. heard x b) p ∙ heard-append s a b)
