-- The link's bytes and the place determine the answer, and what is taken.
use Rattle.std.proofs.Common.{◌≡◌, ℕ, ◌+◌, ◌-◌, ◌/◌, ◌%◌, ◌<◌, ◌≤◌, List, [], ◌∷◌, ◌++◌, length, take, refl, ap, sym, ◌∙◌, arith, Bool, true, false, cond, Some, length-append, append_assoc, take_at, min, Result, Ok, Err, lit≤, lit<}
use Rattle.std.specs.Prelude.{nat_eq, nat_lt, nat_le, ◌&&◌, ◌||◌, not}
use Rattle.std.proofs.lemmas.Bool.Decides.{nat_tests}
use Rattle.con_units.specs.declared.view.Frame.{Frame}
use Rattle.con_units.specs.declared.view.Frame.TheVariants.{Bytes, Quiet, Resize, Ask, Hangup, End}
use Rattle.con_units.specs.declared.view.FrameFault.{FrameFault}
use Rattle.con_units.specs.declared.view.FrameFault.TheVariants as kinds
use Rattle.con_link.specs.declared.fault.LinkFault.{LinkFault}
use Rattle.con_link.specs.declared.fault.LinkFault.TheVariants as faults
use Rattle.con_link.specs.Frames.{spelling, is_frame, two, IsEnd, is_length, is_size}
use Rattle.con_link.specs.LinkReading.{is_part_of_bytes}
use Rattle.con_link.specs.Walked.{Takes, IsLessButLast, is_less, is_bad_tag, is_part}
use Rattle.con_link.specs.Only.{is_told, OneAnswer}
use Rattle.con_link.proofs.Said.{back}

again : (n : ℕ) → two (n / 256) (n % 256) ≡ n
again n = omega arith

both : (a b : Bool) → (a && b) ≡ true → (a ≡ true) × (b ≡ true)
both true b h = (refl, h)
both false b h = cc

-- ---- the answer and what it takes, read from the bytes

abbrev need_bytes : List ℕ → ℕ
need_bytes [] = 1
need_bytes (h ∷ []) = 2
need_bytes (h ∷ l ∷ bytes) = cond (is_length (two h l)) (3 + min (two h l) (length bytes)) 3

abbrev need : List ℕ → ℕ
need [] = 0
need (t ∷ more) = cond (nat_eq t 66) (need_bytes more) (cond (nat_eq t 82) (1 + min 4 (length more)) 1)

abbrev cut : ℕ → Result Frame LinkFault
cut place = Err (faults.Bad place kinds.Cut)

abbrev bytes_answer : ℕ → List ℕ → Result Frame LinkFault
bytes_answer place [] = cut place
bytes_answer place (h ∷ []) = cut place
bytes_answer place (h ∷ l ∷ bytes) = cond (is_length (two h l)) (cond (nat_le (two h l) (length bytes)) (Ok (Bytes (take (two h l) bytes))) (cut place)) (Err (faults.Bad place kinds.Length))

abbrev size_answer : ℕ → List ℕ → Result Frame LinkFault
size_answer place [] = cut place
size_answer place (a ∷ []) = cut place
size_answer place (a ∷ b ∷ []) = cut place
size_answer place (a ∷ b ∷ c ∷ []) = cut place
size_answer place (a ∷ b ∷ c ∷ d ∷ more) = cond (is_size (two a b) (two c d)) (Ok (Resize (record { w = two a b; h = two c d }))) (Err (faults.Bad place kinds.Size))

abbrev answer : ℕ → List ℕ → Result Frame LinkFault
answer place [] = Ok End
answer place (t ∷ more) = cond (nat_eq t 66) (bytes_answer place more) (cond (nat_eq t 82) (size_answer place more)
    (cond (nat_eq t 81) (Ok Quiet) (cond (nat_eq t 80) (Ok Ask) (cond (nat_eq t 88) (Ok Hangup) (Err (faults.Bad place kinds.Tag))))))

abbrev fits : ℕ → List ℕ → Bool
fits place rest = nat_le (place + need rest) 16777216

abbrev found : ℕ → List ℕ → Result Frame LinkFault
found place rest = cond (fits place rest) (answer place rest) (Err faults.TooLong)

abbrev taken : ℕ → List ℕ → ℕ
taken place rest = cond (fits place rest) (need rest) (16777217 - place)

-- what stands in these bytes is this answer, and takes so many of them
record IsFound (a : Result Frame LinkFault) (place count : ℕ) (rest : List ℕ) : Type 0 where
  is : a ≡ found place rest
  takes : count ≡ taken place rest

within : (n : ℕ) → n ≤ 16777216 → nat_le n 16777216 ≡ true
within n h = grind (arith, nat_tests)

past : (n : ℕ) → 16777217 ≤ n → nat_le n 16777216 ≡ false
past n h = grind (arith, nat_tests)

found_by : (a : Result Frame LinkFault) (place count : ℕ) (rest : List ℕ) → place + count ≤ 16777216 → count ≡ need rest → a ≡ answer place rest → IsFound a place count rest
found_by a place count rest few n e =
    let fit : fits place rest ≡ true = within (place + need rest) (omega (arith, few, n)) in
    record { is = rw fit e; takes = rw fit n }

over_by : (place count : ℕ) (rest : List ℕ) → place + count ≡ 16777217 → count ≤ need rest → IsFound (Err faults.TooLong) place count rest
over_by place count rest most n =
    let over : fits place rest ≡ false = past (place + need rest) (omega (arith, most, n)) in
    record { is = rw over refl; takes = rw over (omega (arith, most)) }

-- ---- a frame

none_left : (f : Frame) (l : List ℕ) → IsEnd End (Some l) → l ≡ []
none_left f l h = h

frame_need : (f : Frame) (l : List ℕ) → is_frame f ≡ true → IsEnd f (Some l) → length (spelling f) ≡ need (spelling f ++ l)
frame_need (Bytes b) l fine e = rw (again (length b), fine) (omega (arith, length-append b l))
frame_need Quiet l fine e = refl
frame_need (Resize z) l fine e = omega arith
frame_need Ask l fine e = refl
frame_need Hangup l fine e = refl
frame_need End l fine e = rw e refl

no_more : (n : ℕ) (b l : List ℕ) → n ≡ length b → nat_le n (length (b ++ l)) ≡ true
no_more n b l h = rw (length-append b l) (grind (arith, nat_tests))

frame_answer : (f : Frame) (place : ℕ) (l : List ℕ) → is_frame f ≡ true → IsEnd f (Some l) → Ok f ≡ answer place (spelling f ++ l)
frame_answer (Bytes b) place l fine e = rw (again (length b), fine, no_more (length b) b l refl, take_at b l (length b) refl) refl
frame_answer Quiet place l fine e = refl
frame_answer (Resize z) place l fine e = rw (again z.w, again z.h, fine) refl
frame_answer Ask place l fine e = refl
frame_answer Hangup place l fine e = refl
frame_answer End place l fine e = rw e refl

-- ---- a fault

off : (a b c d e : Bool) → not (a || b || c || d || e) ≡ true → (a ≡ false) × (b ≡ false) × (c ≡ false) × (d ≡ false) × (e ≡ false)
off true b c d e h = cc
off false true c d e h = cc
off false false true d e h = cc
off false false false true e h = cc
off false false false false true h = cc
off false false false false false h = (refl, refl, refl, refl, refl)

tag_found : (place : ℕ) (text l : List ℕ) → is_bad_tag text ≡ true → place + length text ≤ 16777216 → IsFound (Err (faults.Bad place kinds.Tag)) place (length text) (text ++ l)
tag_found place [] l h few = cc
tag_found place (t ∷ []) l h few = let o = off (nat_eq t 66) (nat_eq t 81) (nat_eq t 82) (nat_eq t 80) (nat_eq t 88) h in
    found_by _ place 1 (t ∷ l) few (rw (o.0, o.2) refl) (rw (o.0, o.2, o.1, o.3, o.4) refl)
tag_found place (t ∷ u ∷ more) l h few = cc

length_found : (place high low : ℕ) (l : List ℕ) → is_length (two high low) ≡ false → place + 3 ≤ 16777216 → IsFound (Err (faults.Bad place kinds.Length)) place 3 (66 ∷ high ∷ low ∷ l)
length_found place high low l h few = found_by _ place 3 (66 ∷ high ∷ low ∷ l) few (rw h refl) (rw h refl)

size_found : (place a b c d : ℕ) (l : List ℕ) → is_size (two a b) (two c d) ≡ false → place + 5 ≤ 16777216 → IsFound (Err (faults.Bad place kinds.Size)) place 5 (82 ∷ a ∷ b ∷ c ∷ d ∷ l)
size_found place a b c d l h few = found_by _ place 5 (82 ∷ a ∷ b ∷ c ∷ d ∷ l) few (omega arith) (rw h refl)

less : (m n : ℕ) → nat_lt m n ≡ true → m < n
less m n h = grind (arith, nat_tests)

not_all : (m n : ℕ) → nat_lt m n ≡ true → nat_le n m ≡ false
not_all m n h = grind (arith, nat_tests)

bytes_cut_need : (more : List ℕ) → is_part_of_bytes more ≡ true → 1 + length more ≡ need_bytes more
bytes_cut_need [] h = refl
bytes_cut_need (a ∷ []) h = refl
bytes_cut_need (a ∷ b ∷ bytes) h = let p = both (is_length (two a b)) (nat_lt (length bytes) (two a b)) h in rw p.0 (omega (arith, less (length bytes) (two a b) p.1))

bytes_cut_answer : (place : ℕ) (more : List ℕ) → is_part_of_bytes more ≡ true → cut place ≡ bytes_answer place more
bytes_cut_answer place [] h = refl
bytes_cut_answer place (a ∷ []) h = refl
bytes_cut_answer place (a ∷ b ∷ bytes) h = let p = both (is_length (two a b)) (nat_lt (length bytes) (two a b)) h in rw (p.0, not_all (length bytes) (two a b) p.1) refl

size_cut_answer : (place : ℕ) (more : List ℕ) → length more < 4 → cut place ≡ size_answer place more
size_cut_answer place [] h = refl
size_cut_answer place (a ∷ []) h = refl
size_cut_answer place (a ∷ b ∷ []) h = refl
size_cut_answer place (a ∷ b ∷ c ∷ []) h = refl
size_cut_answer place (a ∷ b ∷ c ∷ d ∷ more) h = absurd (omega arith)

cut_by : (c : Bool) (place t : ℕ) (more : List ℕ) → nat_eq t 66 ≡ c → cond c (is_part_of_bytes more) (nat_eq t 82 && nat_lt (length more) 4) ≡ true
    → place + (1 + length more) ≤ 16777216 → IsFound (cut place) place (1 + length more) (t ∷ more)
cut_by true place t more e h few = found_by _ place (1 + length more) (t ∷ more) few (rw e (bytes_cut_need more h)) (rw e (bytes_cut_answer place more h))
cut_by false place t more e h few = let p = both (nat_eq t 82) (nat_lt (length more) 4) h in let short = less (length more) 4 p.1 in
    found_by _ place (1 + length more) (t ∷ more) few (rw (e, p.0) (omega (arith, short))) (rw (e, p.0) (size_cut_answer place more short))

cut_found : (place : ℕ) (text : List ℕ) → is_part text ≡ true → place + length text ≤ 16777216 → IsFound (cut place) place (length text) text
cut_found place [] h few = cc
cut_found place (t ∷ more) h few =
    let size : length (t ∷ more) ≡ 1 + length more = omega arith in
    rw size (cut_by (nat_eq t 66) place t more refl h (omega (arith, few)))

-- ---- too many bytes

some_bytes : (more : List ℕ) → 1 ≤ need_bytes more
some_bytes [] = lit≤ tt
some_bytes (a ∷ []) = lit≤ tt
some_bytes (a ∷ b ∷ bytes) = by_test (is_length (two a b))
  where
    by_test : (c : Bool) → 1 ≤ cond c (3 + min (two a b) (length bytes)) 3
    by_test true = omega arith
    by_test false = lit≤ tt

begun_needs : (c d : Bool) (b : ℕ) (l : List ℕ) → 0 < cond c (need_bytes l) (cond d (1 + min 4 (length l)) 1)
begun_needs true d b l = let some = some_bytes l in omega (arith, some)
begun_needs false true b l = omega arith
begun_needs false false b l = lit< tt

bytes_needs : (more : List ℕ) (b : ℕ) (l : List ℕ) → is_part_of_bytes more ≡ true → 1 + length more < need_bytes (more ++ b ∷ l)
bytes_needs [] b [] h = lit< tt
bytes_needs [] b (x ∷ l) h = by_test (is_length (two b x))
  where
    by_test : (c : Bool) → 1 < cond c (3 + min (two b x) (length l)) 3
    by_test true = omega arith
    by_test false = lit< tt
bytes_needs (a ∷ []) b l h = by_test (is_length (two a b))
  where
    by_test : (c : Bool) → 2 < cond c (3 + min (two a b) (length l)) 3
    by_test true = omega arith
    by_test false = lit< tt
bytes_needs (a ∷ x ∷ bytes) b l h = let p = both (is_length (two a x)) (nat_lt (length bytes) (two a x)) h in
    rw p.0 (omega (arith, less (length bytes) (two a x) p.1, length-append bytes (b ∷ l)))

tagged_needs : (c : Bool) (t : ℕ) (more : List ℕ) (b : ℕ) (l : List ℕ) → cond c (is_part_of_bytes more) (nat_eq t 82 && nat_lt (length more) 4) ≡ true
    → 1 + length more < cond c (need_bytes (more ++ b ∷ l)) (cond (nat_eq t 82) (1 + min 4 (length (more ++ b ∷ l))) 1)
tagged_needs true t more b l h = bytes_needs more b l h
tagged_needs false t more b l h = let p = both (nat_eq t 82) (nat_lt (length more) 4) h in
    rw p.0 (omega (arith, less (length more) 4 p.1, length-append more (b ∷ l)))

more_needed : (front : List ℕ) (b : ℕ) (l : List ℕ) → is_less front ≡ true → length front < need (front ++ b ∷ l)
more_needed [] b l h = begun_needs (nat_eq b 66) (nat_eq b 82) b l
more_needed (t ∷ more) b l h = let n = tagged_needs (nat_eq t 66) t more b l h in omega (arith, n)

long_found : (place : ℕ) (text l : List ℕ) → place + length text ≡ 16777217 → IsLessButLast text → IsFound (Err faults.TooLong) place (length text) (text ++ l)
long_found place text l most h =
    let front = h.0 in
    let byte = h.1 in
    let at : text ++ l ≡ front ++ byte ∷ l = ap (λ t. t ++ l) h.2 ∙ append_assoc front (byte ∷ []) l in
    let needs : length front < need (front ++ byte ∷ l) = more_needed front byte l h.3 in
    let size : length text ≡ length front + 1 = ap length h.2 ∙ length-append front (byte ∷ []) in
    rw at (over_by place (length text) (front ++ byte ∷ l) most (omega (arith, needs, size)))

-- ---- any answer

append_none : (xs : List ℕ) → xs ++ [] ≡ xs
append_none [] = refl
append_none (x ∷ xs) = ap (λ l. x ∷ l) (append_none xs)

ok_found : (f : Frame) (place : ℕ) (text l : List ℕ) → Takes (Ok f) place text (Some l) → IsFound (Ok f) place (length text) (text ++ l)
ok_found f place text l a =
    let few : place + length (spelling f) ≤ 16777216 = omega (arith, a.3, ap length a.0) in
    rw a.0 (found_by (Ok f) place (length (spelling f)) (spelling f ++ l) few (frame_need f l a.1 a.2) (frame_answer f place l a.1 a.2))

bad_found : (kind : FrameFault) (at place : ℕ) (text l : List ℕ) → Takes (Err (faults.Bad at kind)) place text (Some l) → IsFound (Err (faults.Bad at kind)) place (length text) (text ++ l)
bad_found kinds.Tag at place text l a = rw a.0 (tag_found place text l a.1 a.2)
bad_found kinds.Length at place text l a = let s = a.1 in let few = a.2 in
    let few' : place + 3 ≤ 16777216 = omega (arith, few, ap length s.2) in
    rw (a.0, s.2) (length_found place s.0 s.1 l s.3 few')
bad_found kinds.Size at place text l a = let s = a.1 in let few = a.2 in
    let few' : place + 5 ≤ 16777216 = omega (arith, few, ap length s.4) in
    rw (a.0, s.4) (size_found place s.0 s.1 s.2 s.3 l s.5 few')
bad_found kinds.Cut at place text l a = let none : l ≡ [] = a.1.1 in
    rw (a.0, none, append_none text) (cut_found place text a.1.0 a.2)

told_found : (a : Result Frame LinkFault) (place : ℕ) (text l : List ℕ) → is_told a ≡ true → Takes a place text (Some l) → IsFound a place (length text) (text ++ l)
told_found (Ok f) place text l t a = ok_found f place text l a
told_found (Err (faults.Bad at kind)) place text l t a = bad_found kind at place text l a
told_found (Err faults.TooLong) place text l t a = long_found place text l a.0 a.1
told_found (Err faults.Failed) place text l t a = cc
told_found (Err faults.OutOfMemory) place text l t a = cc

pub one_answer : OneAnswer
one_answer a b place x y l m t u p q e =
    let first = told_found a place x l t (back a place x (Some l) p) in
    let second = told_found b place y m u (back b place y (Some m) q) in
    let same : a ≡ b = first.is ∙ (ap (found place) e ∙ sym second.is) in
    let size : length x ≡ length y = first.takes ∙ (ap (taken place) e ∙ sym second.takes) in
    (same, sym (take_at x l (length x) refl) ∙ (ap (take (length x)) e ∙ take_at y m (length x) (sym size)))
