-- Arrays, value by value.
use Rattle.std.specs.Prelude.{ℤ, pos, negsuc, codes, decimal}
use Rattle.std.specs.Fmt.{signed_decimal}
use Rattle.std.proofs.Common.{◌≡◌, ℕ, ◌<◌, arith, List, [], ◌∷◌, ◌++◌, map, true, false, refl, ap, sym, ◌∙◌, append_assoc}
use Rattle.json.specs.Print.{escape, quoted}
use Rattle.serde_json.specs.Data.{Data, null, boolean, string}
use Rattle.serde_json.specs.Written.{compact_text, comma_if, items_text}
use Rattle.con_events.specs.Arg.{Arg}
use Rattle.con_events.specs.Words.Arg.{put_all}
use Rattle.con_lines.specs.Hex.{hex_units, hex_bytes}
use Rattle.con_lines.specs.Shown.{shown, list_of, natural, whole, units_text}
use Rattle.con_lines.specs.Words.Shown.{items}
use Rattle.con_lines.specs.Writing.{Written, more, parted, put, opened, shut, put_each, put_arg}
use Rattle.con_lines.proofs.Plain.{units_plain, bytes_plain, client_plain}

-- one more value is its bytes, behind a comma where one is due
put_is : (w : Written) (d : Data) (text : List ℕ) → text ≡ compact_text d → more (parted w) text ≡ put w d
unfolding put more parted
put_is w d text e = rw e (ap (λ b. record { bytes = b; later = true }) (append_assoc w.bytes (comma_if w.later) (compact_text d)))

pub natural_is : (w : Written) (n : ℕ) → more (parted w) (decimal n) ≡ put w (natural n)
natural_is w n = put_is w (natural n) (decimal n) refl

pub whole_is : (w : Written) (z : ℤ) → more (parted w) (signed_decimal z) ≡ put w (whole z)
whole_is w (pos n) = put_is w (natural n) (decimal n) refl
whole_is w (negsuc n) = put_is w (whole (negsuc n)) (signed_decimal (negsuc n)) refl

pub true_is : (w : Written) → more (parted w) (codes "true") ≡ put w (boolean true)
true_is w = put_is w (boolean true) (codes "true") refl

pub false_is : (w : Written) → more (parted w) (codes "false") ≡ put w (boolean false)
false_is w = put_is w (boolean false) (codes "false") refl

pub null_is : (w : Written) → more (parted w) (codes "null") ≡ put w null
null_is w = put_is w null (codes "null") refl

-- bytes behind bytes
two_are : (w : Written) (a b : List ℕ) → more (more w a) b ≡ more w (a ++ b)
unfolding more
two_are w a b = ap (λ t. record { bytes = t; later = w.later }) (append_assoc w.bytes a b)

-- a text between quotes, in which nothing is escaped
pub text_is : (w : Written) (text : List ℕ) → escape text ≡ text → more (more (more (parted w) (34 ∷ [])) text) (34 ∷ []) ≡ put w (string text)
text_is w text plain =
    two_are (more (parted w) (34 ∷ [])) text (34 ∷ [])
    ∙ (two_are (parted w) (34 ∷ []) (text ++ 34 ∷ [])
    ∙ put_is w (string text) (34 ∷ (text ++ 34 ∷ [])) (ap (λ t. 34 ∷ (t ++ 34 ∷ [])) (sym plain)))

pub units_are : (w : Written) (us : List ℕ) → more (more (more (parted w) (34 ∷ [])) (hex_units us)) (34 ∷ []) ≡ put w (units_text us)
units_are w us = text_is w (hex_units us) (units_plain us)

pub bytes_are : (w : Written) (bs : List ℕ) → more (more (more (parted w) (34 ∷ [])) (hex_bytes bs)) (34 ∷ []) ≡ put w (string (hex_bytes bs))
bytes_are w bs = text_is w (hex_bytes bs) (bytes_plain bs)

-- a client's number behind a `c`
pub client_is : (w : Written) (n : ℕ) → n < 256 → more (more (more (parted w) (34 ∷ 99 ∷ [])) (decimal n)) (34 ∷ []) ≡ put w (string (99 ∷ decimal n))
client_is w n small =
    ap (λ v. more v (34 ∷ [])) (two_are (parted w) (34 ∷ 99 ∷ []) (decimal n) ∙ sym (two_are (parted w) (34 ∷ []) (99 ∷ decimal n)))
    ∙ text_is w (99 ∷ decimal n) (client_plain n (omega arith))

-- a text between quotes
pub quoted_is : (w : Written) (text : List ℕ) → more (parted w) (quoted text) ≡ put w (string text)
quoted_is w text = put_is w (string text) (quoted text) refl

pub ruleset values = (quoted_is, natural_is, whole_is, true_is, false_is, null_is, text_is, units_are, bytes_are)

-- values one after another, and then the end of their array
each_is : (w : Written) (ds : List Data) → (put_each w ds).bytes ++ 93 ∷ [] ≡ w.bytes ++ items_text w.later (items ds)
unfolding put
each_is w [] = refl
each_is w (d ∷ ds) = each_is (put w d) ds
    ∙ (append_assoc w.bytes (comma_if w.later ++ compact_text d) (items_text true (items ds))
    ∙ ap (λ t. w.bytes ++ t) (append_assoc (comma_if w.later) (compact_text d) (items_text true (items ds))))

-- an array of values is one value
pub array_is : (w : Written) (ds : List Data) → shut (put_each (opened w) ds) ≡ put w (list_of ds)
unfolding put opened shut
array_is w ds = ap (λ b. record { bytes = b; later = true }) (each_is (opened w) ds
    ∙ (append_assoc w.bytes (comma_if w.later ++ 91 ∷ []) (items_text false (items ds))
    ∙ ap (λ t. w.bytes ++ t) (append_assoc (comma_if w.later) (91 ∷ []) (items_text false (items ds)))))

-- arguments are values as they are shown
pub args_are : (w : Written) (xs : List Arg) → put_all put_arg w xs ≡ put_each w (map shown xs)
args_are w [] = refl
args_are w (a ∷ xs) = args_are (put_arg w a) xs

-- arrays of so many values, and of some behind a first one
pub array_one : (w : Written) (a : Data) → shut (put (opened w) a) ≡ put w (list_of (a ∷ []))
array_one w a = array_is w (a ∷ [])

pub array_two : (w : Written) (a b : Data) → shut (put (put (opened w) a) b) ≡ put w (list_of (a ∷ b ∷ []))
array_two w a b = array_is w (a ∷ b ∷ [])

pub array_three : (w : Written) (a b c : Data) → shut (put (put (put (opened w) a) b) c) ≡ put w (list_of (a ∷ b ∷ c ∷ []))
array_three w a b c = array_is w (a ∷ b ∷ c ∷ [])

pub array_four : (w : Written) (a b c d : Data) → shut (put (put (put (put (opened w) a) b) c) d) ≡ put w (list_of (a ∷ b ∷ c ∷ d ∷ []))
array_four w a b c d = array_is w (a ∷ b ∷ c ∷ d ∷ [])

pub array_more : (w : Written) (a : Data) (ds : List Data) → shut (put_each (put (opened w) a) ds) ≡ put w (list_of (a ∷ ds))
array_more w a ds = array_is w (a ∷ ds)

pub array_two_more : (w : Written) (a b : Data) (ds : List Data) → shut (put_each (put (put (opened w) a) b) ds) ≡ put w (list_of (a ∷ b ∷ ds))
array_two_more w a b ds = array_is w (a ∷ b ∷ ds)

pub ruleset arrays = (array_is, array_one, array_two, array_three, array_four, array_more)
