-- A compact text is read as what it was written for.
use Rattle.std.proofs.Common.{◌≡◌, ℕ, zero, suc, ◌+◌, ◌/◌, ◌%◌, ◌^◌, ◌<◌, ◌≤◌, List, [], ◌∷◌, ◌++◌, refl, ap, sym, ◌∙◌, arith, Bool, true, false, Some, append-nil}
use Rattle.std.specs.Prelude.{pos, negsuc, decimal, nat_lt, option_and_then}
use Rattle.std.specs.Char.{digit_char}
use Rattle.std.specs.Fmt.{signed_decimal}
use Rattle.std.specs.Str.{IsUtf8}
use Rattle.std.proofs.lemmas.Bool.Decides.{nat_tests}
use Rattle.std.proofs.lemmas.Bool.{cond_both}
use Rattle.std.proofs.lemmas.Fmt.{decimal_by_steps, IsAscii-decimal, IsAscii-signed}
use Rattle.std.proofs.lemmas.Str.{IsUtf8-from_ascii, IsUtf8-append}
use Rattle.json.specs.Json.{value, if_last}
use Rattle.json.specs.Lex.{tokens}
use Rattle.json.specs.Print.{quoted, escape, escape_byte, escape_letter}
use Rattle.json.specs.Tree as tree
use Rattle.json.specs.Tree.{HasNumbers, ItemsHaveNumbers, json_tokens}
use Rattle.json.proofs.Printed.Decimals.{IsNumber-decimal, IsNumber-signed_decimal}
use Rattle.json.proofs.Printed.Tokens.{tokens-print}
use Rattle.json.proofs.Printed.Trees.{ArePrintable-json_tokens, value-json_tokens}
use Rattle.json.proofs.Printed.Utf8.{IsUtf8-are_ascii, IsUtf8-quoted, IsUtf8-boolean}
use Rattle.serde_json.proofs.Numbers.{number_of-decimal, number_of-negative}
use Rattle.serde_json.proofs.Texts.{print-outline}
use Rattle.serde_json.specs.Data.{Data, null, boolean, number, string, array, object, unsigned, negative, float, Items, no_items, item}
use Rattle.serde_json.specs.Read.{read, of_json, of_items}
use Rattle.serde_json.specs.Written.{compact_text, items_text, comma_if, outline, items_outline}

-- numbers of 64 bits, texts in UTF-8, and arrays within each other to a depth
abbrev mutual
  pub IsPlain : Data → ℕ → Type 0
  IsPlain null k = Unit {0}
  IsPlain (boolean b) k = Unit {0}
  IsPlain (number (unsigned n)) k = n < 18446744073709551616
  IsPlain (number (negative (pos n))) k = ⊥
  IsPlain (number (negative (negsuc n))) k = n < 9223372036854775808
  IsPlain (number (float x)) k = ⊥
  IsPlain (string s) k = IsUtf8 s
  IsPlain (array ds) zero = ⊥
  IsPlain (array ds) (suc k) = ArePlain ds k
  IsPlain (object ms) k = ⊥

  pub ArePlain : Items → ℕ → Type 0
  ArePlain no_items k = Unit {0}
  ArePlain (item d ds) k = IsPlain d k × ArePlain ds k

mutual
  numbers : (d : Data) (k : ℕ) → IsPlain d k → HasNumbers (outline d)
  numbers null k p = tt
  numbers (boolean b) k p = tt
  numbers (number (unsigned n)) k p = IsNumber-decimal n p
  numbers (number (negative (pos n))) k p = absurd p
  numbers (number (negative (negsuc n))) k p = IsNumber-signed_decimal (negsuc n) (omega (arith, p))
  numbers (number (float x)) k p = absurd p
  numbers (string s) k p = tt
  numbers (array ds) zero p = absurd p
  numbers (array ds) (suc k) p = all_numbers ds k p
  numbers (object ms) k p = absurd p

  all_numbers : (ds : Items) (k : ℕ) → ArePlain ds k → ItemsHaveNumbers (items_outline ds)
  all_numbers no_items k p = tt
  all_numbers (item d ds) k p = (numbers d k p.0, all_numbers ds k p.1)

mutual
  shallow : (d : Data) (k : ℕ) → IsPlain d k → tree.depth (outline d) ≤ k
  shallow null k p = omega arith
  shallow (boolean b) k p = omega arith
  shallow (number (unsigned n)) k p = omega arith
  shallow (number (negative (pos n))) k p = absurd p
  shallow (number (negative (negsuc n))) k p = omega arith
  shallow (number (float x)) k p = absurd p
  shallow (string s) k p = omega arith
  shallow (array ds) zero p = absurd p
  shallow (array ds) (suc k) p = omega (arith, all_shallow ds k p)
  shallow (object ms) k p = absurd p

  all_shallow : (ds : Items) (k : ℕ) → ArePlain ds k → tree.items_depth (items_outline ds) ≤ k
  all_shallow no_items k p = omega arith
  all_shallow (item d ds) k p = omega (arith, shallow d k p.0, all_shallow ds k p.1)

mutual
  of_outline : (d : Data) (k : ℕ) → IsPlain d k → of_json (outline d) ≡ Some d
  of_outline null k p = refl
  of_outline (boolean b) k p = refl
  of_outline (number (unsigned n)) k p = rw (number_of-decimal n p) refl
  of_outline (number (negative (pos n))) k p = absurd p
  of_outline (number (negative (negsuc n))) k p = rw (number_of-negative n p) refl
  of_outline (number (float x)) k p = absurd p
  of_outline (string s) k p = refl
  of_outline (array ds) zero p = absurd p
  of_outline (array ds) (suc k) p = rw (of_outlines ds k p) refl
  of_outline (object ms) k p = absurd p

  of_outlines : (ds : Items) (k : ℕ) → ArePlain ds k → of_items (items_outline ds) ≡ Some ds
  of_outlines no_items k p = refl
  of_outlines (item d ds) k p = rw (of_outline d k p.0, of_outlines ds k p.1) refl

-- the tokens of the text are those of the tree, and they read as it
pub read_back : (d : Data) (k : ℕ) → IsPlain d k → k ≤ 127 → read (compact_text d) ≡ Some d
read_back d k p few =
    let j = outline d in
    let deep : tree.depth j ≤ 127 = omega (arith, shallow d k p, few) in
    ap (option_and_then of_json)
    (ap (option_and_then (λ p. if_last p.0 p.1))
    (ap (λ t. value 127 (tokens t)) (sym (print-outline d))
    ∙ (ap (value 127) (tokens-print (json_tokens j) (ArePrintable-json_tokens j (numbers d k p)) ∙ sym (append-nil (json_tokens j)))
    ∙ value-json_tokens j 127 [] deep)))
    ∙ of_outline d k p

-- ---- the text is UTF-8

ascii_end : IsUtf8 (93 ∷ [])
ascii_end = IsUtf8-are_ascii (93 ∷ []) refl

comma_utf8 : (later : Bool) → IsUtf8 (comma_if later)
comma_utf8 true = IsUtf8-are_ascii (44 ∷ []) refl
comma_utf8 false = IsUtf8-are_ascii [] refl

mutual
  pub utf8 : (d : Data) (k : ℕ) → IsPlain d k → IsUtf8 (compact_text d)
  utf8 null k p = IsUtf8-are_ascii _ refl
  utf8 (boolean b) k p = IsUtf8-boolean b
  utf8 (number (unsigned n)) k p = IsUtf8-from_ascii (decimal n) (IsAscii-decimal n p)
  utf8 (number (negative (pos n))) k p = absurd p
  utf8 (number (negative (negsuc n))) k p = IsUtf8-from_ascii (signed_decimal (negsuc n)) (IsAscii-signed (negsuc n) (omega (arith, p)))
  utf8 (number (float x)) k p = absurd p
  utf8 (string s) k p = IsUtf8-quoted s p
  utf8 (array ds) zero p = absurd p
  utf8 (array ds) (suc k) p = IsUtf8-append (91 ∷ []) (items_text false ds) (IsUtf8-are_ascii (91 ∷ []) refl) (items_utf8 false ds k p)
  utf8 (object ms) k p = absurd p

  items_utf8 : (later : Bool) (ds : Items) (k : ℕ) → ArePlain ds k → IsUtf8 (items_text later ds)
  items_utf8 later no_items k p = ascii_end
  items_utf8 later (item d ds) k p = IsUtf8-append (comma_if later) (compact_text d ++ items_text true ds) (comma_utf8 later)
      (IsUtf8-append (compact_text d) (items_text true ds) (utf8 d k p.0) (items_utf8 true ds k p.1))

-- ---- no byte of it is a control byte, so a line feed ends it

-- printable, or part of a longer character
abbrev pub Clear : List ℕ → Type 0
Clear [] = Unit {0}
Clear (b ∷ bytes) = (32 ≤ b) × Clear bytes

pub Clear-append : (xs ys : List ℕ) → Clear xs → Clear ys → Clear (xs ++ ys)
Clear-append [] ys p q = q
Clear-append (x ∷ xs) ys p q = (p.0, Clear-append xs ys p.1 q)

Clear-decimal : (n : ℕ) → n < 2 ^ 64 → Clear (decimal n)
Clear-decimal n small = decimal_by_steps (λ n ds. Clear ds) (λ n h. (omega arith, tt)) (λ n ds h p. Clear-append ds ((48 + n % 10) ∷ []) p (omega arith, tt)) n small

letter_clear : (x : ℕ) → 0 < escape_letter x → 32 ≤ escape_letter x
letter_clear x h = grind (arith, nat_tests)

digit_clear : (d : ℕ) → 32 ≤ digit_char d
digit_clear d = cond_both (nat_lt d 10) (48 + d) (87 + d) (λ c. 32 ≤ c) (λ _. omega arith) (λ _. omega arith)

Clear-escape_byte : (x : ℕ) → Clear (escape_byte x)
unfolding escape_byte
Clear-escape_byte x = cond_both (nat_lt 0 (escape_letter x)) (92 ∷ escape_letter x ∷ []) _ Clear
    (λ h. (omega arith, (letter_clear x (grind (arith, nat_tests)), tt)))
    (λ _. cond_both (nat_lt x 32) _ (x ∷ []) Clear (λ _. (omega arith, (omega arith, (omega arith, (omega arith, (digit_clear (x / 16), (digit_clear (x % 16), tt))))))) (λ h. (grind (arith, nat_tests), tt)))

Clear-escape : (s : List ℕ) → Clear (escape s)
Clear-escape [] = tt
Clear-escape (x ∷ s) = Clear-append (escape_byte x) (escape s) (Clear-escape_byte x) (Clear-escape s)

Clear-quoted : (s : List ℕ) → Clear (quoted s)
Clear-quoted s = (omega arith, Clear-append (escape s) (34 ∷ []) (Clear-escape s) (omega arith, tt))

Clear-comma : (later : Bool) → Clear (comma_if later)
Clear-comma true = (omega arith, tt)
Clear-comma false = tt

mutual
  pub clear : (d : Data) (k : ℕ) → IsPlain d k → Clear (compact_text d)
  clear null k p = (omega arith, (omega arith, (omega arith, (omega arith, tt))))
  clear (boolean true) k p = (omega arith, (omega arith, (omega arith, (omega arith, tt))))
  clear (boolean false) k p = (omega arith, (omega arith, (omega arith, (omega arith, (omega arith, tt)))))
  clear (number (unsigned n)) k p = Clear-decimal n p
  clear (number (negative (pos n))) k p = absurd p
  clear (number (negative (negsuc n))) k p = (omega arith, Clear-decimal (suc n) (omega (arith, p)))
  clear (number (float x)) k p = absurd p
  clear (string s) k p = Clear-quoted s
  clear (array ds) zero p = absurd p
  clear (array ds) (suc k) p = (omega arith, items_clear false ds k p)
  clear (object ms) k p = absurd p

  items_clear : (later : Bool) (ds : Items) (k : ℕ) → ArePlain ds k → Clear (items_text later ds)
  items_clear later no_items k p = (omega arith, tt)
  items_clear later (item d ds) k p = Clear-append (comma_if later) (compact_text d ++ items_text true ds) (Clear-comma later)
      (Clear-append (compact_text d) (items_text true ds) (clear d k p.0) (items_clear true ds k p.1))
