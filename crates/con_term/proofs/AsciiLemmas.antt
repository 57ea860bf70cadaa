-- Bytes of ASCII are characters and units by themselves.
use Rattle.std.proofs.Common.{◌≡◌, ℕ, Bool, true, false, nat_lt, List, [], ◌∷◌, ◌<◌, length, map, refl, sym, ap, ◌∙◌, arith}
use Rattle.std.specs.Prelude.{flat_map, fold}
use Rattle.std.specs.List.{list_all}
use Rattle.std.proofs.lemmas.Bool.{and_parts}
use Rattle.std.proofs.lemmas.Bool.Decides.{nat_tests}
use Rattle.con_units.specs.Split.{split, with_items, split_after}
use Rattle.con_units.specs.ReadLaws.{read_so}
use Rattle.con_units.specs.Utf8.{utf8, is_cut_character}
use Rattle.con_units.specs.Plain.{is_plain}
use Rattle.con_vtgram.specs.Plain.{PlainIsPrinted}
use Rattle.con_vtgram.specs.declared.item.Item.TheVariants.{Print}
use Rattle.con_term.specs.Ascii.{is_ascii_byte}
use Rattle.con_term.specs.Page.{Page}
use Rattle.con_term.specs.Effect.{effect}
use Rattle.con_term.specs.Run.{printed_next, all_printed}
use Rattle.con_term.specs.Terminal.{Terminal}
use Rattle.con_term.specs.Play.{units_of, play}
use Rattle.con_term.specs.Steps.{typed}

not_cut : (u : ℕ) → is_ascii_byte u ≡ true → is_cut_character (u ∷ []) ≡ false
not_cut u h = grind (arith, nat_tests)

one_unit : (c : ℕ) → is_ascii_byte c ≡ true → units_of c ≡ c ∷ []
unfolding units_of
one_unit c h = let small : nat_lt c 0x10000 ≡ true = grind (arith, nat_tests) in rw small refl

ascii_next : (b : ℕ) → is_ascii_byte b ≡ true → split utf8 (b ∷ []) ≡ record { items = b ∷ []; tail = [] }
unfolding split_after
ascii_next b h = (read_so utf8).whole [] [] b (b ∷ []) tt (not_cut b h) (rw h refl)

pub none_held : (xs : List ℕ) (n : ℕ) → n ≡ length xs → n ≡ 0 → xs ≡ []
none_held [] n h k = refl
none_held (x ∷ xs) n h k = absurd (omega arith)

-- one byte of ASCII
pub ascii_byte : (t after : Terminal) (b : ℕ) → t.bytes ≡ [] → b < 0x80 → after ≡ typed t (b ∷ []) → after ≡ play t (b ∷ [])
unfolding play typed
ascii_byte t after b none small e = let h : is_ascii_byte b ≡ true = grind (arith, nat_tests) in e ∙ sym (rw (none, ascii_next b h, one_unit b h) refl)

plain_ascii : (u : ℕ) → is_plain u ≡ true → is_ascii_byte u ≡ true
plain_ascii u h = grind (arith, nat_tests)

-- units that are all ASCII, by any test
pub ascii_split : (p : ℕ → Bool) → ((u : ℕ) → p u ≡ true → is_ascii_byte u ≡ true) → (bytes : List ℕ) → list_all p bytes ≡ true → split utf8 bytes ≡ record { items = bytes; tail = [] }
unfolding split_after
ascii_split p law [] h = refl
ascii_split p law (b ∷ bs) h = let k = and_parts (p b) (list_all p bs) h in
    (read_so utf8).whole [] bs b (b ∷ []) tt (not_cut b (law b k.0)) (rw (law b k.0) refl) ∙ ap (with_items (b ∷ [])) (ascii_split p law bs k.1)

pub ascii_units : (p : ℕ → Bool) → ((u : ℕ) → p u ≡ true → is_ascii_byte u ≡ true) → (bytes : List ℕ) → list_all p bytes ≡ true → flat_map units_of bytes ≡ bytes
ascii_units p law [] h = refl
ascii_units p law (b ∷ bs) h = let k = and_parts (p b) (list_all p bs) h in rw (one_unit b (law b k.0)) (ap (λ xs. b ∷ xs) (ascii_units p law bs k.1))

pub prints_fold : (s : Page) (us : List ℕ) → fold effect s (map (λ u. Print u) us) ≡ all_printed s us
unfolding effect all_printed
prints_fold s [] = refl
prints_fold s (u ∷ us) = prints_fold (printed_next s u) us

-- a run of printable ASCII
pub plain_run : (t : Terminal) (page : Page) (bytes : List ℕ) → PlainIsPrinted → t.bytes ≡ [] → t.units ≡ [] → list_all is_plain bytes ≡ true → page ≡ all_printed t.page bytes
    → record t { page = page } ≡ play t bytes
unfolding play typed
plain_run t page bytes law none rest h e =
    whole t page none rest
    ∙ sym (rw (none, rest, ascii_split is_plain plain_ascii bytes h, ascii_units is_plain plain_ascii bytes h, (law bytes h).items) (ap (λ s. record t { page = s; bytes = []; units = [] }) (prints_fold t.page bytes ∙ sym e)))
  where
    whole : (t : Terminal) (page : Page) → t.bytes ≡ [] → t.units ≡ [] → record t { page = page } ≡ record t { page = page; bytes = []; units = [] }
    whole t page none rest = rw (none, rest) refl
