-- Where a fault shows, no frame stands.
use Rattle.std.proofs.Common.{◌≡◌, ℕ, ◌+◌, ◌/◌, ◌%◌, ◌<◌, List, [], ◌∷◌, ◌++◌, length, get_or, refl, ap, sym, ◌∙◌, arith, Bool, true, false, Option, Some, subst, length-append}
use Rattle.std.specs.Prelude.{IfSome, nat_lt, ◌&&◌, not}
use Rattle.std.proofs.lemmas.Bool.Decides.{nat_tests}
use Rattle.con_units.specs.declared.view.Frame.{Frame}
use Rattle.con_units.specs.declared.view.Frame.TheVariants.{Bytes, Quiet, Resize, Ask, Hangup, End}
use Rattle.con_units.specs.declared.view.FrameFault.{FrameFault}
use Rattle.con_units.specs.declared.view.FrameFault.TheVariants as kinds
use Rattle.con_link.specs.Frames.{spelling, is_frame, two, is_length, is_size}
use Rattle.con_link.specs.Walked.{is_bad_tag, is_tag, is_part, Fails}
use Rattle.con_link.specs.Only.{NoFrame}
use Rattle.con_link.proofs.Said.{fault_back}

again : (n : ℕ) → two (n / 256) (n % 256) ≡ n
again n = omega arith

-- the number of the two bytes at a place
abbrev number_at : ℕ → List ℕ → ℕ
number_at i xs = two (get_or xs i 0) (get_or xs (i + 1) 0)

abbrev first : List ℕ → ℕ
first xs = get_or xs 0 0

-- a frame begins with a tag
tagged : (f : Frame) (s : List ℕ) → (f ≡ End → ⊥) → is_tag (first (spelling f ++ s)) ≡ true
tagged (Bytes b) s p = refl
tagged Quiet s p = refl
tagged (Resize z) s p = refl
tagged Ask s p = refl
tagged Hangup s p = refl
tagged End s p = absurd (p refl)

clash : (b : Bool) → b ≡ false → b ≡ true → ⊥
clash b p q = let e : false ≡ true = sym p ∙ q in absurd (cc)

untrue : (b : Bool) → not b ≡ true → b ≡ false
untrue true p = absurd (cc)
untrue false p = refl

bad_tag : (text rest : List ℕ) → is_bad_tag text ≡ true → is_tag (first (text ++ rest)) ≡ false
bad_tag [] rest p = absurd (cc)
bad_tag (t ∷ []) rest p = untrue (is_tag t) p
bad_tag (t ∷ u ∷ more) rest p = absurd (cc)

-- a frame whose first byte is 66 is one of bytes, and states its length
length_told : (f : Frame) (s xs : List ℕ) → is_frame f ≡ true → (f ≡ End → ⊥) → xs ≡ spelling f ++ s → first xs ≡ 66 → is_length (number_at 1 xs) ≡ true
length_told (Bytes b) s xs fine p e tag = ap (λ n. is_length n) (ap (number_at 1) e ∙ again (length b)) ∙ fine
length_told Quiet s xs fine p e tag = absurd (omega (arith, ap first e, tag))
length_told (Resize z) s xs fine p e tag = absurd (omega (arith, ap first e, tag))
length_told Ask s xs fine p e tag = absurd (omega (arith, ap first e, tag))
length_told Hangup s xs fine p e tag = absurd (omega (arith, ap first e, tag))
length_told End s xs fine p e tag = absurd (p refl)

size_told : (f : Frame) (s xs : List ℕ) → is_frame f ≡ true → (f ≡ End → ⊥) → xs ≡ spelling f ++ s → first xs ≡ 82 → is_size (number_at 1 xs) (number_at 3 xs) ≡ true
size_told (Bytes b) s xs fine p e tag = absurd (omega (arith, ap first e, tag))
size_told Quiet s xs fine p e tag = absurd (omega (arith, ap first e, tag))
size_told (Resize z) s xs fine p e tag =
    ap (λ w. is_size w (number_at 3 xs)) (ap (number_at 1) e ∙ again z.w) ∙ (ap (λ h. is_size z.w h) (ap (number_at 3) e ∙ again z.h) ∙ fine)
size_told Ask s xs fine p e tag = absurd (omega (arith, ap first e, tag))
size_told Hangup s xs fine p e tag = absurd (omega (arith, ap first e, tag))
size_told End s xs fine p e tag = absurd (p refl)

second : (a b : Bool) → a && b ≡ true → b ≡ true
second true b p = p
second false b p = absurd (cc)

less : (m n : ℕ) → nat_lt m n ≡ true → m < n
less m n p = grind (arith, nat_tests)

-- what is less than a whole frame is no frame
cut : (f : Frame) (s text : List ℕ) → (f ≡ End → ⊥) → is_part text ≡ true → text ≡ spelling f ++ s → ⊥
cut (Bytes b) s text p part e =
    let there : is_part (spelling (Bytes b) ++ s) ≡ true = ap is_part (sym e) ∙ part in
    let few = less (length (b ++ s)) (two (length b / 256) (length b % 256)) (second (is_length (two (length b / 256) (length b % 256))) _ there) in
    absurd (omega (arith, few, again (length b), length-append b s))
cut Quiet s text p part e = clash (is_part (spelling Quiet ++ s)) refl (ap is_part (sym e) ∙ part)
cut (Resize z) s text p part e = absurd (omega (arith, less _ _ (ap is_part (sym e) ∙ part)))
cut Ask s text p part e = clash (is_part (spelling Ask ++ s)) refl (ap is_part (sym e) ∙ part)
cut Hangup s text p part e = clash (is_part (spelling Hangup ++ s)) refl (ap is_part (sym e) ∙ part)
cut End s text p part e = absurd (p refl)

none_after : (xs : List ℕ) → xs ++ [] ≡ xs
none_after [] = refl
none_after (x ∷ xs) = ap (λ l. x ∷ l) (none_after xs)

rest_none : (left : Option (List ℕ)) (rest : List ℕ) → IfSome left (λ r. r ≡ []) → left ≡ Some rest → rest ≡ []
rest_none left rest p e = let P : Option (List ℕ) → Type 0 = λ o. IfSome o (λ r. r ≡ []) in subst P e p

by_fault : (kind : FrameFault) (text rest : List ℕ) (left : Option (List ℕ)) → Fails kind text left → left ≡ Some rest
    → (f : Frame) (s : List ℕ) → is_frame f ≡ true → (f ≡ End → ⊥) → text ++ rest ≡ spelling f ++ s → ⊥
by_fault kinds.Tag text rest left shows is f s fine p e = clash (is_tag (first (text ++ rest))) (bad_tag text rest shows) (ap (λ xs. is_tag (first xs)) e ∙ tagged f s p)
by_fault kinds.Length text rest left shows is f s fine p e =
    let at : text ++ rest ≡ 66 ∷ shows.0 ∷ shows.1 ∷ rest = ap (λ t. t ++ rest) shows.2 in
    clash (is_length (two shows.0 shows.1)) shows.3 (ap (λ xs. is_length (number_at 1 xs)) (sym at) ∙ length_told f s (text ++ rest) fine p e (ap first at))
by_fault kinds.Size text rest left shows is f s fine p e =
    let at : text ++ rest ≡ 82 ∷ shows.0 ∷ shows.1 ∷ shows.2 ∷ shows.3 ∷ rest = ap (λ t. t ++ rest) shows.4 in
    clash (is_size (two shows.0 shows.1) (two shows.2 shows.3)) shows.5 (ap (λ xs. is_size (number_at 1 xs) (number_at 3 xs)) (sym at) ∙ size_told f s (text ++ rest) fine p e (ap first at))
by_fault kinds.Cut text rest left shows is f s fine p e =
    let none : rest ≡ [] = rest_none left rest shows.1 is in
    cut f s text p shows.0 (sym (none_after text) ∙ (ap (λ r. text ++ r) (sym none) ∙ e))

pub no_frame : NoFrame
no_frame kind text rest left shows is f s fine p e = by_fault kind text rest left (fault_back kind text left shows) is f s fine p e
