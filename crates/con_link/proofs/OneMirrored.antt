-- What the bytes of a link with a second terminal determine, by those of any link: but for the first byte, A is spelled as a new size and D as an ask.
-- So each is read as that (`as_ever`), and the first byte tells which of both it was.
use Rattle.std.proofs.Common.{◌≡◌, ℕ, Bool, true, false, List, [], ◌∷◌, ◌++◌, length, length-append, drop, get_or, Some, Result, Ok, Err, refl, sym, ap, ◌∙◌, subst, inl, inr, arith}
use Rattle.std.specs.Prelude.{◌||◌, ◌&&◌, not, nat_eq, nat_lt, if◌then◌else◌}
use Rattle.std.proofs.lemmas.Bool.Decides.{nat_tests}
use Rattle.con_units.specs.declared.view.Frame.{Frame}
use Rattle.con_units.specs.declared.view.Frame.TheVariants.{Bytes, Quiet, Resize, Ask, Hangup, End}
use Rattle.con_units.specs.declared.view.FrameFault.TheVariants as kinds
use Rattle.con_units.specs.declared.place.Size.{Size}
use Rattle.con_link.specs.declared.fault.LinkFault.{LinkFault}
use Rattle.con_link.specs.declared.fault.LinkFault.TheVariants as faults
use Rattle.con_link.specs.declared.mirror.MirrorFrame.{MirrorFrame}
use Rattle.con_link.specs.declared.mirror.MirrorFrame.TheVariants.{Plain, Attach, Detach}
use Rattle.con_link.specs.Frames.{spelling, is_frame}
use Rattle.con_link.specs.Walked.{is_part, is_less, is_tag, is_bad_tag, Takes}
use Rattle.con_link.specs.Words.Mirrored.{mirror_spelling, is_mirror_frame}
use Rattle.con_link.specs.Walked.{is_mirror_less, is_mirror_part, is_bad_mirror_tag, MirrorTakes}
use Rattle.con_link.specs.MirrorOnly.{OneMirrorFrame, OneMirrorAnswer, is_mirror_told}
use Rattle.con_link.specs.Only.{is_told}
use Rattle.con_link.proofs.Said.{said, mirror_back}
use Rattle.con_link.proofs.OneFrame.{one_frame}
use Rattle.con_link.proofs.OneAnswer.{one_answer}

-- ---- as ever

abbrev tag_as : ℕ → ℕ
tag_as t = if nat_eq t 65 then 82 else (if nat_eq t 68 then 80 else t)

abbrev as_ever : List ℕ → List ℕ
as_ever [] = []
as_ever (t ∷ more) = tag_as t ∷ more

abbrev frame_as : MirrorFrame → Frame
frame_as (Plain frame) = frame
frame_as (Attach size) = Resize size
frame_as Detach = Ask

abbrev answer_as : Result MirrorFrame LinkFault → Result Frame LinkFault
answer_as (Ok frame) = Ok (frame_as frame)
answer_as (Err fault) = Err fault

abbrev first : List ℕ → ℕ
first xs = get_or xs 0 0

spelled_as : (f : MirrorFrame) → as_ever (mirror_spelling f) ≡ spelling (frame_as f)
spelled_as (Plain (Bytes bytes)) = refl
spelled_as (Plain Quiet) = refl
spelled_as (Plain (Resize z)) = refl
spelled_as (Plain Ask) = refl
spelled_as (Plain Hangup) = refl
spelled_as (Plain End) = refl
spelled_as (Attach z) = refl
spelled_as Detach = refl

is_as : (f : MirrorFrame) → is_mirror_frame f ≡ is_frame (frame_as f)
is_as (Plain frame) = refl
is_as (Attach z) = refl
is_as Detach = refl

ever_append : (x : ℕ) (xs ys : List ℕ) → as_ever ((x ∷ xs) ++ ys) ≡ as_ever (x ∷ xs) ++ ys
ever_append x xs ys = refl

-- ---- one frame

abbrev size_of : Frame → Size
size_of (Resize z) = z
size_of _ = record { w = 0; h = 0 }

-- two frames that are the same as ever, and begin alike
same_frame : (f g : MirrorFrame) → frame_as f ≡ frame_as g → first (mirror_spelling f) ≡ first (mirror_spelling g) → f ≡ g
same_frame (Plain f) (Plain g) e t = ap Plain e
same_frame (Plain f) (Attach z) e t = absurd (let u : first (spelling (Resize z)) ≡ 65 = ap (λ (x : Frame). first (spelling x)) (sym e) ∙ t in omega (arith, u))
same_frame (Plain f) Detach e t = absurd (let u : first (spelling Ask) ≡ 68 = ap (λ (x : Frame). first (spelling x)) (sym e) ∙ t in omega (arith, u))
same_frame (Attach z) (Plain g) e t = absurd (let u : 65 ≡ first (spelling (Resize z)) = t ∙ ap (λ (x : Frame). first (spelling x)) (sym e) in omega (arith, u))
same_frame (Attach z) (Attach y) e t = ap Attach (ap size_of e)
same_frame (Attach z) Detach e t = absurd (omega (arith, t))
same_frame Detach (Plain g) e t = absurd (let u : 68 ≡ first (spelling Ask) = t ∙ ap (λ (x : Frame). first (spelling x)) (sym e) in omega (arith, u))
same_frame Detach (Attach y) e t = absurd (omega (arith, t))
same_frame Detach Detach e t = refl

some_bytes : (f : MirrorFrame) → (f ≡ Plain End → ⊥) → (x : ℕ) × (xs : List ℕ) × (mirror_spelling f ≡ x ∷ xs)
some_bytes (Plain (Bytes bytes)) n = (66, _, refl)
some_bytes (Plain Quiet) n = (81, [], refl)
some_bytes (Plain (Resize z)) n = (82, _, refl)
some_bytes (Plain Ask) n = (80, [], refl)
some_bytes (Plain Hangup) n = (88, [], refl)
some_bytes (Plain End) n = absurd (n refl)
some_bytes (Attach z) n = (65, _, refl)
some_bytes Detach n = (68, [], refl)

no_end : (f : MirrorFrame) → (f ≡ Plain End → ⊥) → frame_as f ≡ End → ⊥
no_end (Plain frame) n e = n (ap Plain e)
no_end (Attach z) n e = absurd (cc)
no_end Detach n e = absurd (cc)

ever_front : (xs : List ℕ) (x : ℕ) (more r : List ℕ) → xs ≡ x ∷ more → as_ever (xs ++ r) ≡ as_ever xs ++ r
ever_front xs x more r e = ap (λ (z : List ℕ). as_ever (z ++ r)) e ∙ ap (λ (z : List ℕ). as_ever z ++ r) (sym e)

first_front : (xs : List ℕ) (x : ℕ) (more r : List ℕ) → xs ≡ x ∷ more → first (xs ++ r) ≡ first xs
first_front xs x more r e = ap (λ (z : List ℕ). first (z ++ r)) e ∙ ap (λ (z : List ℕ). first z) (sym e)

pub one_mirror_frame : OneMirrorFrame
one_mirror_frame f g r s a b n m e =
    let p = some_bytes f n in
    let q = some_bytes g m in
    let ever : spelling (frame_as f) ++ r ≡ spelling (frame_as g) ++ s
    = ap (λ (z : List ℕ). z ++ r) (sym (spelled_as f)) ∙ (sym (ever_front (mirror_spelling f) p.0 p.1 r p.2)
    ∙ (ap as_ever e ∙ (ever_front (mirror_spelling g) q.0 q.1 s q.2 ∙ ap (λ (z : List ℕ). z ++ s) (spelled_as g)))) in
    let both = one_frame (frame_as f) (frame_as g) r s (sym (is_as f) ∙ a) (sym (is_as g) ∙ b) (no_end f n) (no_end g m) ever in
    let t : first (mirror_spelling f) ≡ first (mirror_spelling g)
    = sym (first_front (mirror_spelling f) p.0 p.1 r p.2) ∙ (ap first e ∙ first_front (mirror_spelling g) q.0 q.1 s q.2) in
    (same_frame f g both.0 t, both.1)

-- ---- one answer

-- a part of a frame
part_as : (t : ℕ) (more : List ℕ) → (a b : Bool) → nat_eq t 65 ≡ a → nat_eq t 68 ≡ b → is_mirror_part (t ∷ more) ≡ true → is_part (tag_as t ∷ more) ≡ true
part_as t more true b e f p =
    let is : t ≡ 65 = grind (arith, nat_tests) in
    let P : ℕ → Type 0 = λ z. is_mirror_part (z ∷ more) ≡ true in
    let q : is_mirror_part (65 ∷ more) ≡ true = subst P is p in
    ap (λ (z : ℕ). is_part (tag_as z ∷ more)) is ∙ q
part_as t more false true e f p =
    let is : t ≡ 68 = grind (arith, nat_tests) in
    let P : ℕ → Type 0 = λ z. is_mirror_part (z ∷ more) ≡ true in
    let q : is_mirror_part (68 ∷ more) ≡ true = subst P is p in absurd (cc)
part_as t more false false e f p =
    let P : Bool → Type 0 = λ z. (is_part (t ∷ more) || (z && nat_lt (length more) 4)) ≡ true in
    rw (e, f) (only (is_part (t ∷ more)) (subst P e p))
  where
    only : (c : Bool) → (c || (false && nat_lt (length more) 4)) ≡ true → c ≡ true
    only true p = refl
    only false p = absurd (cc)

less_as : (text : List ℕ) → is_mirror_less text ≡ true → is_less (as_ever text) ≡ true
less_as [] p = refl
less_as (t ∷ more) p = part_as t more (nat_eq t 65) (nat_eq t 68) refl refl p

bad_as : (text : List ℕ) → is_bad_mirror_tag text ≡ true → is_bad_tag (as_ever text) ≡ true
bad_as [] p = absurd (cc)
bad_as (t ∷ []) p = by_test (nat_eq t 65) (nat_eq t 68) refl refl
  where
    none : (c : Bool) → not (c || true) ≡ true → ⊥
    none true q = absurd (cc)
    none false q = absurd (cc)

    only : (c : Bool) → not (c || (false || false)) ≡ true → not c ≡ true
    only true q = absurd (cc)
    only false q = refl

    by_test : (a b : Bool) → nat_eq t 65 ≡ a → nat_eq t 68 ≡ b → not (is_tag (tag_as t)) ≡ true
    by_test true b e f = absurd (none (is_tag t) (let P : Bool → Type 0 = λ z. not (is_tag t || (z || nat_eq t 68)) ≡ true in subst P e p))
    by_test false true e f =
        let P : Bool → Type 0 = λ z. not (is_tag t || (z || nat_eq t 68)) ≡ true in
        let Q : Bool → Type 0 = λ z. not (is_tag t || (false || z)) ≡ true in
        absurd (none (is_tag t) (subst Q f (subst P e p)))
    by_test false false e f =
        let P : Bool → Type 0 = λ z. not (is_tag t || (z || nat_eq t 68)) ≡ true in
        let Q : Bool → Type 0 = λ z. not (is_tag t || (false || z)) ≡ true in
        rw (e, f) (only (is_tag t) (subst Q f (subst P e p)))
bad_as (t ∷ u ∷ more) p = absurd (cc)

last_as : (text front : List ℕ) (byte : ℕ) → text ≡ front ++ byte ∷ [] → is_mirror_less front ≡ true
    → (f : List ℕ) × (b : ℕ) × (as_ever text ≡ f ++ b ∷ []) × (is_less f ≡ true)
last_as text [] byte e l = ([], tag_as byte, ap as_ever e, refl)
last_as text (t ∷ more) byte e l = (tag_as t ∷ more, byte, ap as_ever e, less_as (t ∷ more) l)

length_as : (text : List ℕ) → length (as_ever text) ≡ length text
length_as [] = refl
length_as (t ∷ more) = refl

-- an answer, read as ever
answers_as : (a : Result MirrorFrame LinkFault) (place : ℕ) (x l : List ℕ) → MirrorTakes a place x (Some l) → Takes (answer_as a) place (as_ever x) (Some l)
answers_as (Ok (Plain frame)) place x l (e, f, g, n) = (ap as_ever e ∙ spelled_as (Plain frame), f, g, omega (arith, n, length_as x))
answers_as (Ok (Attach z)) place x l (e, f, g, n) = (ap as_ever e ∙ spelled_as (Attach z), f, tt, omega (arith, n, length_as x))
answers_as (Ok Detach) place x l (e, f, g, n) = (ap as_ever e ∙ spelled_as Detach, f, tt, omega (arith, n, length_as x))
answers_as (Err (faults.Bad at kinds.Tag)) place x l (e, s, n) = (e, bad_as x s, omega (arith, n, length_as x))
answers_as (Err (faults.Bad at kinds.Length)) place x l (e, s, n) = (e, (s.0, s.1, ap as_ever s.2, s.3), omega (arith, n, length_as x))
answers_as (Err (faults.Bad at kinds.Size)) place x l (e, s, n) =
    (e, elim s [ inl t ↦ (t.0, t.1, t.2, t.3, ap as_ever t.4, t.5) | inr t ↦ (t.0, t.1, t.2, t.3, ap as_ever t.4, t.5) ], omega (arith, n, length_as x))
answers_as (Err (faults.Bad at kinds.Cut)) place x l (e, (p, c), n) = (e, (cut_as x p, c), omega (arith, n, length_as x))
  where
    cut_as : (text : List ℕ) → is_mirror_part text ≡ true → is_part (as_ever text) ≡ true
    cut_as [] q = absurd (cc)
    cut_as (t ∷ more) q = part_as t more (nat_eq t 65) (nat_eq t 68) refl refl q
answers_as (Err faults.TooLong) place x l (e, (front, byte, is, less)) = (omega (arith, e, length_as x), last_as x front byte is less)
answers_as (Err faults.Failed) place x l (p, n) = (less_as x p, omega (arith, n, length_as x))
answers_as (Err faults.OutOfMemory) place x l (p, n) = (less_as x p, omega (arith, n, length_as x))

told_as : (a : Result MirrorFrame LinkFault) → is_mirror_told a ≡ is_told (answer_as a)
told_as (Ok frame) = refl
told_as (Err faults.Failed) = refl
told_as (Err faults.TooLong) = refl
told_as (Err (faults.Bad at kind)) = refl
told_as (Err faults.OutOfMemory) = refl

-- where nothing was taken, nothing is left
none_left : (a : Result MirrorFrame LinkFault) (place : ℕ) (l : List ℕ) → is_mirror_told a ≡ true → MirrorTakes a place [] (Some l) → l ≡ []
none_left (Ok (Plain End)) place l t (e, f, g, n) = g
none_left (Ok (Plain (Bytes bytes))) place l t (e, f, g, n) = absurd (omega (arith, ap length e))
none_left (Ok (Plain Quiet)) place l t (e, f, g, n) = absurd (omega (arith, ap length e))
none_left (Ok (Plain (Resize z))) place l t (e, f, g, n) = absurd (omega (arith, ap length e))
none_left (Ok (Plain Ask)) place l t (e, f, g, n) = absurd (omega (arith, ap length e))
none_left (Ok (Plain Hangup)) place l t (e, f, g, n) = absurd (omega (arith, ap length e))
none_left (Ok (Attach z)) place l t (e, f, g, n) = absurd (omega (arith, ap length e))
none_left (Ok Detach) place l t (e, f, g, n) = absurd (omega (arith, ap length e))
none_left (Err (faults.Bad at kinds.Tag)) place l t (e, s, n) = absurd (cc)
none_left (Err (faults.Bad at kinds.Length)) place l t (e, s, n) = absurd (omega (arith, ap length s.2))
none_left (Err (faults.Bad at kinds.Size)) place l t (e, s, n) =
    elim s [ inl u ↦ absurd (omega (arith, ap length u.4)) | inr u ↦ absurd (omega (arith, ap length u.4)) ]
none_left (Err (faults.Bad at kinds.Cut)) place l t (e, (p, c), n) = absurd (cc)
none_left (Err faults.TooLong) place l t (e, (front, byte, is, less)) = absurd (omega (arith, ap length is, length-append front (byte ∷ [])))
none_left (Err faults.Failed) place l t a = absurd (cc)
none_left (Err faults.OutOfMemory) place l t a = absurd (cc)

append_none : (xs : List ℕ) → xs ++ [] ≡ xs
append_none [] = refl
append_none (x ∷ xs) = ap (λ (ys : List ℕ). x ∷ ys) (append_none xs)

-- what is left may be read as ever as well, where nothing was taken
ever_more : (a : Result MirrorFrame LinkFault) (place : ℕ) (x l : List ℕ) → is_mirror_told a ≡ true → MirrorTakes a place x (Some l)
    → as_ever (x ++ l) ≡ as_ever x ++ l
ever_more a place [] l t k = let e = none_left a place l t k in ap as_ever e ∙ sym e
ever_more a place (x ∷ xs) l t k = refl

abbrev frame_in : Result Frame LinkFault → Frame
frame_in (Ok z) = z
frame_in (Err z) = End

abbrev fault_in : Result Frame LinkFault → LinkFault
fault_in (Ok z) = faults.Failed
fault_in (Err z) = z

-- answers that are the same as ever, over bytes that begin alike
same_answer : (a b : Result MirrorFrame LinkFault) (place : ℕ) (x y l m : List ℕ)
    → MirrorTakes a place x (Some l) → MirrorTakes b place y (Some m) → answer_as a ≡ answer_as b → first x ≡ first y → a ≡ b
same_answer (Ok f) (Ok g) place x y l m p q e t =
    ap (λ (z : MirrorFrame). let r : Result MirrorFrame LinkFault = Ok z in r) (same_frame f g (ap frame_in e) (ap first (sym p.0) ∙ (t ∙ ap first q.0)))
same_answer (Ok f) (Err g) place x y l m p q e t = absurd (cc)
same_answer (Err f) (Ok g) place x y l m p q e t = absurd (cc)
same_answer (Err f) (Err g) place x y l m p q e t = ap (λ (z : LinkFault). let r : Result MirrorFrame LinkFault = Err z in r) (ap fault_in e)

-- bytes that are the same as ever and begin alike
same_bytes : (x y : List ℕ) → as_ever x ≡ as_ever y → first x ≡ first y → x ≡ y
same_bytes [] [] e t = refl
same_bytes [] (b ∷ bs) e t = absurd (omega (arith, ap length e))
same_bytes (a ∷ as') [] e t = absurd (omega (arith, ap length e))
same_bytes (a ∷ as') (b ∷ bs) e t = ap (λ (z : ℕ). z ∷ as') t ∙ ap (λ (zs : List ℕ). b ∷ zs) (ap (drop 1) e)

-- they begin alike
starts : (a b : Result MirrorFrame LinkFault) (place : ℕ) (x y l m : List ℕ) → is_mirror_told a ≡ true → is_mirror_told b ≡ true
    → MirrorTakes a place x (Some l) → MirrorTakes b place y (Some m) → x ++ l ≡ y ++ m → first x ≡ first y
starts a b place [] [] l m s t p q e = refl
starts a b place [] (y ∷ ys) l m s t p q e = absurd (let n = none_left a place l s p in omega (arith, ap length e, ap length n))
starts a b place (x ∷ xs) [] l m s t p q e = absurd (let n = none_left b place m t q in omega (arith, ap length e, ap length n))
starts a b place (x ∷ xs) (y ∷ ys) l m s t p q e = ap first e

by_takes : (a b : Result MirrorFrame LinkFault) (place : ℕ) (x y l m : List ℕ) → is_mirror_told a ≡ true → is_mirror_told b ≡ true
    → MirrorTakes a place x (Some l) → MirrorTakes b place y (Some m) → x ++ l ≡ y ++ m → (a ≡ b) × (x ≡ y)
by_takes a b place x y l m s t p q e =
    let ever : as_ever x ++ l ≡ as_ever y ++ m = sym (ever_more a place x l s p) ∙ (ap as_ever e ∙ ever_more b place y m t q) in
    let both = one_answer (answer_as a) (answer_as b) place (as_ever x) (as_ever y) l m (sym (told_as a) ∙ s) (sym (told_as b) ∙ t)
    (said _ place _ _ (answers_as a place x l p)) (said _ place _ _ (answers_as b place y m q)) ever in
    let begin = starts a b place x y l m s t p q e in
    (same_answer a b place x y l m p q both.0 begin, same_bytes x y both.1 begin)

pub one_mirror_answer : OneMirrorAnswer
one_mirror_answer a b place x y l m s t p q e = by_takes a b place x y l m s t (mirror_back a place x (Some l) p) (mirror_back b place y (Some m) q) e
