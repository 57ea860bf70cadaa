-- Printable ASCII.
use Rattle.std.proofs.Common.{◌≡◌, ℕ, true, false, ◌==◌, List, [], ◌∷◌, map, refl, ap, ◌∙◌, arith}
use Rattle.std.specs.List.{list_all}
use Rattle.std.proofs.lemmas.Bool.{and_parts}
use Rattle.std.proofs.lemmas.Bool.Decides.{nat_tests}
use Rattle.con_units.specs.Stored.{is_control}
use Rattle.con_units.specs.Split.{split, split_after, with_items}
use Rattle.con_units.specs.ReadLaws.{read_so}
use Rattle.con_vtgram.specs.Text.{grammar, is_front, whole, is_acting}
use Rattle.con_vtgram.specs.Spoken.{spoken}
use Rattle.con_units.specs.Plain.{is_plain}
use Rattle.con_vtgram.specs.Plain.{spoken_print, PlainIsPrinted}
use Rattle.con_vtgram.specs.declared.item.Item.TheVariants.{Print}

no_escape : (u : ℕ) → is_plain u ≡ true → (u == 0x1B) ≡ false
no_escape u h = grind (arith, nat_tests)

no_acting : (u : ℕ) → is_plain u ≡ true → is_acting u ≡ false
no_acting u h = grind (arith, nat_tests)

no_control : (u : ℕ) → is_plain u ≡ true → is_control u ≡ false
no_control u h = grind (arith, nat_tests)

plain_items : (us : List ℕ) → list_all is_plain us ≡ true → split grammar us ≡ record { items = map (λ u. Print u) us; tail = [] }
unfolding split_after is_front whole
plain_items [] h = refl
plain_items (u ∷ us) h = let k = and_parts (is_plain u) (list_all is_plain us) h in
    (read_so grammar).whole [] us u (Print u ∷ []) tt (rw (no_escape u k.0) refl) (rw (no_escape u k.0, no_acting u k.0, no_control u k.0) refl)
    ∙ ap (with_items (Print u ∷ [])) (plain_items us k.1)

plain_spoken : (us : List ℕ) → list_all is_plain us ≡ true → split spoken us ≡ record { items = map spoken_print us; tail = [] }
unfolding split_after is_front whole
plain_spoken [] h = refl
plain_spoken (u ∷ us) h = let k = and_parts (is_plain u) (list_all is_plain us) h in
    (read_so spoken).whole [] us u (spoken_print u ∷ []) tt (rw (no_escape u k.0) refl) (rw (no_escape u k.0, no_acting u k.0, no_control u k.0) refl)
    ∙ ap (with_items (spoken_print u ∷ [])) (plain_spoken us k.1)

pub plain_is_printed : PlainIsPrinted
plain_is_printed us h = record { items = plain_items us h; spoken = plain_spoken us h }
