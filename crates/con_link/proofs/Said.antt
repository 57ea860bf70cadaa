-- What the reader takes, as its code goes over the bytes, is what is promised of it, and back.
use Rattle.std.proofs.Common.{◌≡◌, ℕ, Bool, true, false, List, [], ◌∷◌, length, get_or, Option, Result, Ok, Err, refl, sym, ap, ◌∙◌, inl, inr, arith, cond}
use Rattle.std.specs.Prelude.{◌||◌, ◌&&◌, not, nat_eq, nat_lt}
use Rattle.std.proofs.lemmas.Bool.Decides.{nat_tests}
use Rattle.con_units.specs.declared.view.Frame.{Frame}
use Rattle.con_units.specs.declared.view.Frame.TheVariants.{Bytes, Quiet, Resize, Ask, Hangup, End}
use Rattle.con_units.specs.declared.view.FrameFault.{FrameFault}
use Rattle.con_units.specs.declared.view.FrameFault.TheVariants as kinds
use Rattle.con_units.specs.declared.place.Size.{Size}
use Rattle.con_link.specs.declared.fault.LinkFault.{LinkFault}
use Rattle.con_link.specs.declared.fault.LinkFault.TheVariants as faults
use Rattle.con_link.specs.declared.mirror.MirrorFrame.{MirrorFrame}
use Rattle.con_link.specs.declared.mirror.MirrorFrame.TheVariants.{Plain, Attach, Detach}
use Rattle.con_link.specs.Frames.{spelling}
use Rattle.con_link.specs.LinkReading.{plainly, mirrored, is_part_of_bytes, is_sized, AnswersBy, ShowsBy}
use Rattle.con_link.specs.LinkReading as reading
use Rattle.con_link.specs.Words.Mirrored.{mirror_spelling}
use Rattle.con_link.specs.Walked.{is_tag, is_bad_tag, is_part, is_less, Takes, Fails, is_mirror_tag, is_bad_mirror_tag, is_mirror_part, is_mirror_less, MirrorTakes, MirrorFails}

-- ---- another first byte

abbrev first : List ℕ → ℕ
first xs = get_or xs 0 0

-- a byte that no frame begins with is no such byte
begins : (test : ℕ → Bool) (t u : ℕ) (r s : List ℕ) → u ∷ r ≡ t ∷ s → test u ≡ true → not (test t) ≡ true → ⊥
begins test t u r s e yes' none =
    let is : test t ≡ true = ap test (sym (ap first e)) ∙ yes' in
    let n : not (test t) ≡ false = ap not is in
    let f : false ≡ true = sym n ∙ none in absurd (cc)

no_frame_begins : (t : ℕ) → not (is_tag t) ≡ true → (f : Frame) (more : List ℕ) → spelling f ≡ t ∷ more → ⊥
no_frame_begins t n (Bytes bytes) more e = begins is_tag t 66 _ more e refl n
no_frame_begins t n Quiet more e = begins is_tag t 81 _ more e refl n
no_frame_begins t n (Resize size) more e = begins is_tag t 82 _ more e refl n
no_frame_begins t n Ask more e = begins is_tag t 80 _ more e refl n
no_frame_begins t n Hangup more e = begins is_tag t 88 _ more e refl n
no_frame_begins t n End more e = absurd (omega (arith, ap length e))

no_mirror_frame_begins : (t : ℕ) → not (is_mirror_tag t) ≡ true → (f : MirrorFrame) (more : List ℕ) → mirror_spelling f ≡ t ∷ more → ⊥
no_mirror_frame_begins t n (Plain (Bytes bytes)) more e = begins is_mirror_tag t 66 _ more e refl n
no_mirror_frame_begins t n (Plain Quiet) more e = begins is_mirror_tag t 81 _ more e refl n
no_mirror_frame_begins t n (Plain (Resize size)) more e = begins is_mirror_tag t 82 _ more e refl n
no_mirror_frame_begins t n (Plain Ask) more e = begins is_mirror_tag t 80 _ more e refl n
no_mirror_frame_begins t n (Plain Hangup) more e = begins is_mirror_tag t 88 _ more e refl n
no_mirror_frame_begins t n (Plain End) more e = absurd (omega (arith, ap length e))
no_mirror_frame_begins t n (Attach size) more e = begins is_mirror_tag t 65 _ more e refl n
no_mirror_frame_begins t n Detach more e = begins is_mirror_tag t 68 _ more e refl n

-- where no bytes that begin with k begin with t, t is not k
other : (t k : ℕ) (xs : List ℕ) → ((more : List ℕ) → k ∷ xs ≡ t ∷ more → ⊥) → nat_eq t k ≡ false
other t k xs n = by_test (nat_eq t k) refl
  where
    by_test : (b : Bool) → nat_eq t k ≡ b → b ≡ false
    by_test true e = let is : k ≡ t = grind (arith, nat_tests) in absurd (n xs (ap (λ (z : ℕ). z ∷ xs) is))
    by_test false e = refl

none_size : Size
none_size = record { w = 0; h = 0 }

bad_plain : (t : ℕ) → ((f : Frame) (more : List ℕ) → spelling f ≡ t ∷ more → ⊥) → is_tag t ≡ false
bad_plain t n =
    rw (other t 66 _ (n (Bytes [])), other t 81 _ (n Quiet), other t 82 _ (n (Resize none_size)), other t 80 _ (n Ask), other t 88 _ (n Hangup)) refl

bad_mirrored : (t : ℕ) → ((f : MirrorFrame) (more : List ℕ) → mirror_spelling f ≡ t ∷ more → ⊥) → is_mirror_tag t ≡ false
bad_mirrored t n =
    rw (bad_plain t (λ f. n (Plain f)), other t 65 _ (n (Attach none_size)), other t 68 _ (n Detach)) refl

tag_said : (text : List ℕ) (left : Option (List ℕ)) → is_bad_tag text ≡ true → ShowsBy plainly kinds.Tag text left
tag_said [] left e = absurd (cc)
tag_said (t ∷ []) left e = (t, refl, no_frame_begins t e)
tag_said (t ∷ u ∷ more) left e = absurd (cc)

tag_back : (text : List ℕ) (left : Option (List ℕ)) → ShowsBy plainly kinds.Tag text left → is_bad_tag text ≡ true
tag_back text left (t, is, n) = ap is_bad_tag is ∙ ap not (bad_plain t n)

mirror_tag_said : (text : List ℕ) (left : Option (List ℕ)) → is_bad_mirror_tag text ≡ true → ShowsBy mirrored kinds.Tag text left
mirror_tag_said [] left e = absurd (cc)
mirror_tag_said (t ∷ []) left e = (t, refl, no_mirror_frame_begins t e)
mirror_tag_said (t ∷ u ∷ more) left e = absurd (cc)

mirror_tag_back : (text : List ℕ) (left : Option (List ℕ)) → ShowsBy mirrored kinds.Tag text left → is_bad_mirror_tag text ≡ true
mirror_tag_back text left (t, is, n) = ap is_bad_mirror_tag is ∙ ap not (bad_mirrored t n)

-- ---- less than a frame

less_same : (text : List ℕ) → is_less text ≡ reading.is_less false text
less_same [] = refl
less_same (t ∷ more) = refl

mirror_less_same : (text : List ℕ) → is_mirror_less text ≡ reading.is_less true text
mirror_less_same [] = refl
mirror_less_same (t ∷ more) = by (nat_eq t 66) (nat_eq t 82) (nat_eq t 65) (nat_lt (length more) 4) (is_part_of_bytes more) (λ e. not_both e)
  where
    not_both : nat_eq t 66 ≡ true → nat_eq t 65 ≡ false
    not_both e = let is : t ≡ 66 = grind (arith, nat_tests) in rw is refl

    by : (c s a l b : Bool) → (c ≡ true → a ≡ false) → (cond c b (s && l) || (a && l)) ≡ cond c b ((a || s) && l)
    by true s true l b n = let f : true ≡ false = n refl in absurd (cc)
    by true s false l true n = refl
    by true s false l false n = refl
    by false true true true b n = refl
    by false true true false b n = refl
    by false true false true b n = refl
    by false true false false b n = refl
    by false false true l b n = refl
    by false false false l b n = refl

part_back : (text : List ℕ) → (text ≡ [] → ⊥) → reading.is_less false text ≡ true → is_part text ≡ true
part_back [] n e = absurd (n refl)
part_back (t ∷ more) n e = e

part_some : (text : List ℕ) → is_part text ≡ true → text ≡ [] → ⊥
part_some text p e = let f : false ≡ true = sym (ap is_part e) ∙ p in absurd (cc)

mirror_part_some : (text : List ℕ) → is_mirror_part text ≡ true → text ≡ [] → ⊥
mirror_part_some text p e = let f : false ≡ true = sym (ap is_mirror_part e) ∙ p in absurd (cc)

part_less : (text : List ℕ) → is_part text ≡ true → reading.is_less false text ≡ true
part_less [] p = refl
part_less (t ∷ more) p = p

mirror_part_less : (text : List ℕ) → is_mirror_part text ≡ true → reading.is_less true text ≡ true
mirror_part_less [] p = refl
mirror_part_less (t ∷ more) p = sym (mirror_less_same (t ∷ more)) ∙ p

mirror_part_back : (text : List ℕ) → (text ≡ [] → ⊥) → reading.is_less true text ≡ true → is_mirror_part text ≡ true
mirror_part_back [] n e = absurd (n refl)
mirror_part_back (t ∷ more) n e = mirror_less_same (t ∷ more) ∙ e

-- ---- a fault

pub fault_said : (kind : FrameFault) (text : List ℕ) (left : Option (List ℕ)) → Fails kind text left → ShowsBy plainly kind text left
fault_said kinds.Tag text left s = tag_said text left s
fault_said kinds.Length text left s = s
fault_said kinds.Size text left (a, b, c, d, is, n) = (82, a, b, c, d, is, refl, n)
fault_said kinds.Cut text left (p, c) = (part_some text p, part_less text p, c)

-- the first byte of a frame of a size is R
sized_is : (t : ℕ) → is_sized false t ≡ true → t ≡ 82
sized_is t e = grind (arith, nat_tests)

pub fault_back : (kind : FrameFault) (text : List ℕ) (left : Option (List ℕ)) → ShowsBy plainly kind text left → Fails kind text left
fault_back kinds.Tag text left s = tag_back text left s
fault_back kinds.Length text left s = s
fault_back kinds.Size text left (t, a, b, c, d, is, sized, n) = (a, b, c, d, is ∙ ap (λ (z : ℕ). z ∷ a ∷ b ∷ c ∷ d ∷ []) (sized_is t sized), n)
fault_back kinds.Cut text left (n, p, c) = (part_back text n p, c)

mirror_fault_said : (kind : FrameFault) (text : List ℕ) (left : Option (List ℕ)) → MirrorFails kind text left → ShowsBy mirrored kind text left
mirror_fault_said kinds.Tag text left s = mirror_tag_said text left s
mirror_fault_said kinds.Length text left s = s
mirror_fault_said kinds.Size text left (inl (a, b, c, d, is, n)) = (82, a, b, c, d, is, refl, n)
mirror_fault_said kinds.Size text left (inr (a, b, c, d, is, n)) = (65, a, b, c, d, is, refl, n)
mirror_fault_said kinds.Cut text left (p, c) = (mirror_part_some text p, mirror_part_less text p, c)

mirror_fault_back : (kind : FrameFault) (text : List ℕ) (left : Option (List ℕ)) → ShowsBy mirrored kind text left → MirrorFails kind text left
mirror_fault_back kinds.Tag text left s = mirror_tag_back text left s
mirror_fault_back kinds.Length text left s = s
mirror_fault_back kinds.Size text left (t, a, b, c, d, is, sized, n) = by (nat_eq t 65) refl sized
  where
    at : (k : ℕ) → t ≡ k → text ≡ k ∷ a ∷ b ∷ c ∷ d ∷ []
    at k e = is ∙ ap (λ (z : ℕ). z ∷ a ∷ b ∷ c ∷ d ∷ []) e

    by : (u : Bool) → nat_eq t 65 ≡ u → (u || nat_eq t 82) ≡ true → MirrorFails kinds.Size text left
    by true e s = inr (a, b, c, d, at 65 (grind (arith, nat_tests)), n)
    by false e s = inl (a, b, c, d, at 82 (grind (arith, nat_tests)), n)
mirror_fault_back kinds.Cut text left (n, p, c) = (mirror_part_back text n p, c)

-- ---- any answer

pub said : (r : Result Frame LinkFault) (place : ℕ) (text : List ℕ) (left : Option (List ℕ)) → Takes r place text left → AnswersBy plainly r place text left
said (Ok f) place text left a = a
said (Err (faults.Bad at kind)) place text left (e, s, l) = (e, fault_said kind text left s, l)
said (Err faults.TooLong) place text left (e, (front, byte, is, less)) = (e, front, byte, is, sym (less_same front) ∙ less)
said (Err faults.Failed) place text left (p, l) = (sym (less_same text) ∙ p, l)
said (Err faults.OutOfMemory) place text left (p, l) = (sym (less_same text) ∙ p, l)

pub back : (r : Result Frame LinkFault) (place : ℕ) (text : List ℕ) (left : Option (List ℕ)) → AnswersBy plainly r place text left → Takes r place text left
back (Ok f) place text left a = a
back (Err (faults.Bad at kind)) place text left (e, s, l) = (e, fault_back kind text left s, l)
back (Err faults.TooLong) place text left (e, front, byte, is, less) = (e, (front, byte, is, less_same front ∙ less))
back (Err faults.Failed) place text left (p, l) = (less_same text ∙ p, l)
back (Err faults.OutOfMemory) place text left (p, l) = (less_same text ∙ p, l)

pub mirror_said : (r : Result MirrorFrame LinkFault) (place : ℕ) (text : List ℕ) (left : Option (List ℕ)) → MirrorTakes r place text left
    → AnswersBy mirrored r place text left
mirror_said (Ok f) place text left a = a
mirror_said (Err (faults.Bad at kind)) place text left (e, s, l) = (e, mirror_fault_said kind text left s, l)
mirror_said (Err faults.TooLong) place text left (e, (front, byte, is, less)) = (e, front, byte, is, sym (mirror_less_same front) ∙ less)
mirror_said (Err faults.Failed) place text left (p, l) = (sym (mirror_less_same text) ∙ p, l)
mirror_said (Err faults.OutOfMemory) place text left (p, l) = (sym (mirror_less_same text) ∙ p, l)

pub mirror_back : (r : Result MirrorFrame LinkFault) (place : ℕ) (text : List ℕ) (left : Option (List ℕ)) → AnswersBy mirrored r place text left
    → MirrorTakes r place text left
mirror_back (Ok f) place text left a = a
mirror_back (Err (faults.Bad at kind)) place text left (e, s, l) = (e, mirror_fault_back kind text left s, l)
mirror_back (Err faults.TooLong) place text left (e, front, byte, is, less) = (e, (front, byte, is, mirror_less_same front ∙ less))
mirror_back (Err faults.Failed) place text left (p, l) = (mirror_less_same text ∙ p, l)
mirror_back (Err faults.OutOfMemory) place text left (p, l) = (mirror_less_same text ∙ p, l)
