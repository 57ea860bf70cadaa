-- Small lines, computed: how a wanted line is told, and how a row of a picture is shown.
use Rattle.std.proofs.Common.{◌≡◌, true, false, [], ◌∷◌, ◌++◌, refl}
use Rattle.std.specs.Prelude.{codes}
use Rattle.case_lines.specs.Wanted.{is_told, is_shown, is_blank, begins_with, same_len}
use Rattle.case_lines.specs.declared.wanted.Way.TheVariants as way

-- the byte 0 stands for a number of any length, and for no other text
number_told : is_told (codes "[\"ok\"," ++ 0 ∷ codes "]") (codes "[\"ok\",120]") ≡ true
number_told = refl

one_digit_told : is_told (0 ∷ []) (codes "7") ≡ true
one_digit_told = refl

no_number : is_told (codes "[" ++ 0 ∷ codes "]") (codes "[]") ≡ false
no_number = refl

word_for_a_number : is_told (codes "[" ++ 0 ∷ codes "]") (codes "[x]") ≡ false
word_for_a_number = refl

-- it stands for the digits from there on, so a digit before it is told by itself; a sign is none of them
digit_before_a_number : is_told (codes "5" ++ 0 ∷ []) (codes "55") ≡ true
digit_before_a_number = refl

sign_before_a_number : is_told (0 ∷ []) (codes "-5") ≡ false
sign_before_a_number = refl

-- a number goes up to the first byte that is no digit, so a digit behind it is never told
digit_behind_a_number : is_told (0 ∷ codes "5") (codes "15") ≡ false
digit_behind_a_number = refl

-- any other byte stands for itself, and a line ends where the wanted one does
line_that_goes_on : is_told (codes "[\"end\",0]") (codes "[\"end\",0],") ≡ false
line_that_goes_on = refl

line_cut_short : is_told (codes "[\"end\",0]") (codes "[\"end\",0") ≡ false
line_cut_short = refl

-- `>` ends a row whose rest is blank
row_with_blanks : is_shown (codes "|ls>") (codes "|ls  |") ≡ true
row_with_blanks = refl

row_without_blanks : is_shown (codes "|ls>") (codes "|ls|") ≡ true
row_without_blanks = refl

row_with_a_unit_more : is_shown (codes "|ls>") (codes "|ls x|") ≡ false
row_with_a_unit_more = refl

row_without_its_end : is_shown (codes "|ls>") (codes "|ls  ") ≡ false
row_without_its_end = refl

whole_row : is_shown (codes "|ls  |") (codes "|ls  |") ≡ true
whole_row = refl

whole_row_of_another_width : is_shown (codes "|ls |") (codes "|ls  |") ≡ false
whole_row_of_another_width = refl

blank_rows : is_blank (codes "|   |") ≡ true
blank_rows = refl

blank_up_to_its_sign : is_blank (codes "|>") ≡ true
blank_up_to_its_sign = refl

row_with_a_unit : is_blank (codes "| x |") ≡ false
row_with_a_unit = refl

row_without_a_side : is_blank (codes "   |") ≡ false
row_without_a_side = refl

-- wanted lines stand one behind another, at the front of those that came
two_of_three : begins_with way.Report (codes "a" ∷ codes "b" ∷ []) (codes "a" ∷ codes "b" ∷ codes "c" ∷ []) ≡ true
two_of_three = refl

one_between : begins_with way.Report (codes "a" ∷ codes "c" ∷ []) (codes "a" ∷ codes "b" ∷ codes "c" ∷ []) ≡ false
one_between = refl

three_of_two : begins_with way.Picture (codes "a" ∷ codes "b" ∷ codes "c" ∷ []) (codes "a" ∷ codes "b" ∷ []) ≡ false
three_of_two = refl

second_differs : same_len way.Dump (codes "|a>" ∷ codes "|b>" ∷ []) (codes "|a |" ∷ codes "|c |" ∷ []) ≡ 1
second_differs = refl
