-- What was taken for a frame, piece by piece.
use Rattle.std.proofs.Common.{◌≡◌, ℕ, ◌+◌, ◌-◌, ◌/◌, ◌%◌, ◌<◌, ◌≤◌, List, [], ◌∷◌, ◌++◌, length, get_or, sym, ap, ◌∙◌, arith, length-append, append_assoc, Option, Result, Err, refl, true}
use Rattle.std.specs.Prelude.{◌&&◌, nat_lt}
use Rattle.std.proofs.lemmas.Bool.Decides.{nat_tests}
use Rattle.con_outside.specs.Outside.{then_left, Rose}
use Rattle.con_outside.specs.Laws.{then_left-more}
use Rattle.con_units.specs.declared.view.Frame.{Frame}
use Rattle.con_link.specs.declared.fault.LinkFault.{LinkFault}
use Rattle.con_link.specs.declared.fault.LinkFault.TheVariants as faults
use Rattle.con_link.specs.declared.fill.Filled.{Filled}
use Rattle.con_link.specs.declared.fill.Filled.TheVariants.{Full, Cut, TooLong, Failed}
use Rattle.con_link.specs.Frames.{two, is_length}
use Rattle.con_link.specs.Walked.{Takes, Fills, HasLast, fault_as, is_less, is_part}

one : (xs : List ℕ) → length xs ≡ 1 → xs ≡ get_or xs 0 0 ∷ []
one [] e = absurd (omega arith)
one (a ∷ []) e = refl
one (a ∷ b ∷ xs) e = absurd (omega arith)

pub pair : (xs : List ℕ) → length xs ≡ 2 → xs ≡ get_or xs 0 0 ∷ get_or xs 1 0 ∷ []
pair [] e = absurd (omega arith)
pair (a ∷ xs) e = ap (λ t. a ∷ t) (one xs (omega arith))

triple : (xs : List ℕ) → length xs ≡ 3 → xs ≡ get_or xs 0 0 ∷ get_or xs 1 0 ∷ get_or xs 2 0 ∷ []
triple [] e = absurd (omega arith)
triple (a ∷ xs) e = ap (λ t. a ∷ t) (pair xs (omega arith))

pub four : (xs : List ℕ) → length xs ≡ 4 → xs ≡ get_or xs 0 0 ∷ get_or xs 1 0 ∷ get_or xs 2 0 ∷ get_or xs 3 0 ∷ []
four [] e = absurd (omega arith)
four (a ∷ xs) e = ap (λ t. a ∷ t) (triple xs (omega arith))

-- fewer than one
pub none_is_less : (xs : List ℕ) → length xs < 1 → is_less xs ≡ true
none_is_less [] h = refl
none_is_less (x ∷ xs) h = absurd (omega arith)

-- some bytes have a last one
pub has_last : (xs : List ℕ) (room : ℕ) → 0 < length xs → length xs ≤ room → HasLast xs room
has_last [] room some fits = absurd (omega arith)
has_last (x ∷ []) room some fits = ([], x, refl, omega arith)
has_last (x ∷ y ∷ xs) room some fits =
    let rest = has_last (y ∷ xs) (room - 1) (omega arith) (omega arith) in
    (x ∷ rest.0, rest.1, ap (λ t. x ∷ t) rest.2, omega (arith, rest.3))

pub high_of : (a b n : ℕ) → b < 256 → n ≡ two a b → n / 256 ≡ a
high_of a b n fits is = omega arith

pub low_of : (a b n : ℕ) → b < 256 → n ≡ two a b → n % 256 ≡ b
low_of a b n fits is = omega arith

-- the four bytes of a size
pub size_is : (text : List ℕ) (a b c d w h : ℕ) → text ≡ a ∷ b ∷ c ∷ d ∷ [] → b < 256 → d < 256 → w ≡ two a b → h ≡ two c d
    → ◌≡◌ {A = List ℕ} (82 ∷ text) (82 ∷ w / 256 ∷ w % 256 ∷ h / 256 ∷ h % 256 ∷ [])
size_is text a b c d w h is p q wide high =
    rw (is, high_of a b w p wide, low_of a b w p wide, high_of c d h q high, low_of c d h q high) refl

-- the bytes of a length and what it counts
pub bytes_are : (front bytes : List ℕ) (a b n : ℕ) → front ≡ a ∷ b ∷ [] → b < 256 → n ≡ two a b → length bytes ≡ n
    → ◌≡◌ {A = List ℕ} (66 ∷ (front ++ bytes)) (66 ∷ length bytes / 256 ∷ length bytes % 256 ∷ bytes)
bytes_are front bytes a b n is p count long =
    rw (is, high_of a b (length bytes) p (long ∙ count), low_of a b (length bytes) p (long ∙ count)) refl

-- what was taken behind the first bytes of a frame, where the buffer for more was not filled
pub gap_after : (tag : ℕ) (head : List ℕ) (gap : Filled) (text buf : List ℕ) (place taken : ℕ) (left : Option (List ℕ)) → (gap ≡ Full → ⊥)
    → Fills gap text buf left taken → taken ≡ place + 1 + length head + length text
    → ((front : List ℕ) → length front < length buf → is_part (tag ∷ (head ++ front)) ≡ true)
    → Takes (Err (fault_as gap place)) place (tag ∷ (head ++ text)) left
gap_after tag head Full text buf place taken left not_full fills total parts = absurd (not_full refl)
gap_after tag head Cut text buf place taken left not_full fills total parts =
    (refl, (parts text fills.0, fills.2), omega (arith, fills.1, length-append head text))
gap_after tag head TooLong text buf place taken left not_full fills total parts =
    let over = fills.1 in (
      omega (arith, fills.0, length-append head text),
      (tag ∷ (head ++ over.0), over.1, ap (λ t. tag ∷ (head ++ t)) over.2 ∙ ap (λ t. tag ∷ t) (sym (append_assoc head over.0 (over.1 ∷ []))), parts over.0 over.3),
    )
gap_after tag head Failed text buf place taken left not_full fills total parts =
    (parts text fills.0, omega (arith, fills.1, length-append head text))

-- the tag and one byte more at most are less than a frame of bytes
pub bytes_begun : (front : List ℕ) → length front < 2 → is_part (66 ∷ front) ≡ true
bytes_begun [] h = refl
bytes_begun (a ∷ []) h = refl
bytes_begun (a ∷ b ∷ more) h = absurd (omega arith)

pub size_begun : (front : List ℕ) → length front < 4 → is_part (82 ∷ front) ≡ true
size_begun front h = grind (arith, nat_tests)

-- a length's bytes and fewer bytes than it says
pub bytes_cut : (front more : List ℕ) (a b n : ℕ) → front ≡ a ∷ b ∷ [] → n ≡ two a b → 0 < n → n ≤ 4096 → length more < n
    → is_part (66 ∷ (front ++ more)) ≡ true
bytes_cut front more a b n is count some few less =
    let test : is_length n && nat_lt (length more) n ≡ true = grind (arith, nat_tests) in
    rw is (rw (← count) test)

-- a frame's first byte, and then what was taken behind it
pub tagged : (P : List ℕ → Type 0) (front buf text : List ℕ) (place before taken : ℕ) (first between last : Option (List ℕ))
    → buf ≡ front → length buf ≡ 1 → before ≡ place + length front → first ≡ then_left front between → between ≡ then_left text last
    → taken ≡ before + length text → P (get_or buf 0 0 ∷ text)
    → (x : List ℕ) × (first ≡ then_left x last) × (taken ≡ place + length x) × P x
tagged P front buf text place before taken first between last is long total p q more answers =
    let tag = get_or buf 0 0 in
    let e : front ≡ tag ∷ [] = sym is ∙ one buf long in
    let l : length front ≡ 1 = ap length e in
    (tag ∷ text, then_left-more (tag ∷ []) text first between last (p ∙ ap (λ f. then_left f between) e) q, omega arith, answers)

-- an answer Failed came from a failed read
pub failed_gap : (gap : Filled) (place : ℕ) (fault : LinkFault) → (gap ≡ Full → ⊥) → fault ≡ fault_as gap place
    → ◌≡◌ {A = Result Frame LinkFault} (Err fault) (Err faults.Failed) → gap ≡ Failed
failed_gap Full place fault not_full is e = absurd (not_full refl)
failed_gap Cut place fault not_full is e = cc
failed_gap TooLong place fault not_full is e = cc
failed_gap Failed place fault not_full is e = refl

pub rose_later : (first between last : ℕ) → first ≤ between → Rose between last → Rose first last
rose_later first between last p q = grind arith
