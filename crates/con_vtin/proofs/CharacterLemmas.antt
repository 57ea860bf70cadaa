-- Bytes without ESC are read as their characters.
use Rattle.std.proofs.Common.{◌≡◌, ℕ, true, false, ◌==◌, List, [], ◌∷◌, refl, sym, ap, ◌∙◌}
use Rattle.std.specs.Prelude.{not, fold}
use Rattle.std.specs.List.{list_all}
use Rattle.con_units.specs.Split.{Split, next, split_after, with_items}
use Rattle.con_units.specs.Words.Split.{read_on}
use Rattle.con_units.specs.Utf8.{utf8}
use Rattle.con_records.specs.declared.record.Key.{Key}
use Rattle.con_vtin.specs.Words.Keys.{grammar}
use Rattle.con_vtin.specs.Holding.{is_text}
use Rattle.con_vtin.specs.Characters.{is_plain, ReadsCharacters}
use Rattle.con_vtin.proofs.Lists.{both, not_true}
use Rattle.con_vtin.proofs.TextLemmas.{as_keys, keys_of, keys_of-append, next_text, tail_text}

one_more : (s : Split ℕ) (u : ℕ) → is_text s.tail ≡ true → (u == 0x1B) ≡ false → read_on grammar (as_keys s) u ≡ as_keys (read_on utf8 s u)
one_more s u h n = ap (with_items (keys_of s.items)) (next_text s.tail u h n)
    ∙ ap (λ (ks : List Key). record { items = ks; tail = (next utf8 s.tail u).tail }) (sym (keys_of-append s.items (next utf8 s.tail u).items))

read_from : (s : Split ℕ) (bytes : List ℕ) → is_text s.tail ≡ true → list_all is_plain bytes ≡ true → fold (read_on grammar) (as_keys s) bytes ≡ as_keys (fold (read_on utf8) s bytes)
read_from s [] h n = refl
read_from s (u ∷ us) h n =
    let parts = both (not (u == 0x1B)) (list_all is_plain us) n in
    let other = not_true (u == 0x1B) parts.0 in
    ap (λ t. fold (read_on grammar) t us) (one_more s u h other) ∙ read_from (read_on utf8 s u) us (tail_text s.tail u h other) parts.1

pub reads_characters : ReadsCharacters
unfolding split_after
reads_characters bytes n = read_from (record { items = []; tail = [] }) bytes refl n
