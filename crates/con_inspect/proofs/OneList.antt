-- The frames that a link begins with are determined by its bytes.
use Rattle.std.proofs.Common.{◌≡◌, ◌⊎◌, inl, inr, refl, sym, ap, ◌∙◌, subst, arith, append_assoc, length-append, ℕ, ◌+◌, ◌≤◌, true, false, List, [], ◌∷◌, ◌++◌, length, Some}
use Rattle.std.specs.Prelude.{flat_map, not, Result, Ok, Err}
use Rattle.std.specs.List.{list_all}
use Rattle.std.proofs.lemmas.Bool.{and_parts}
use Rattle.con_units.specs.declared.view.Frame.{Frame}
use Rattle.con_units.specs.declared.view.Frame.TheVariants as frame
use Rattle.con_units.specs.declared.view.FrameFault.{FrameFault}
use Rattle.con_link.specs.Frames.{spelling, is_frame, goes_on, ends_link, IsEnd}
use Rattle.con_link.specs.Plainly.{Shows, Answers}
use Rattle.con_link.specs.Only.{OneAnswer, is_told}
use Rattle.con_link.specs.declared.fault.LinkFault.{LinkFault}
use Rattle.con_link.specs.declared.fault.LinkFault.TheVariants as faults
use Rattle.con_audit.specs.Audit.{AreFrames}

-- ---- frames as they are read, one after another

-- the rest of a link behind a frame that ends it, or goes on
abbrev Ends : List ℕ → Frame → List Frame → Type 0
Ends text f fs = (ends_link f ≡ true) × (fs ≡ []) × (rest : List ℕ) × (text ≡ spelling f ++ rest) × IsEnd f (Some rest)

abbrev Read : List ℕ → List Frame → Type 0
Read text [] = (kind : FrameFault) × (taken left : List ℕ) × (text ≡ taken ++ left) × Shows kind taken (Some left)
Read text (f ∷ fs) = (is_frame f ≡ true) × (Ends text f fs ⊎ ((goes_on f ≡ true) × (rest : List ℕ) × (text ≡ spelling f ++ rest) × Read rest fs))

read_on : (fs : List Frame) (rest : List ℕ) → list_all is_frame fs ≡ true → list_all goes_on fs ≡ true → (kind : FrameFault) (taken left : List ℕ)
    → rest ≡ taken ++ left → Shows kind taken (Some left) → Read (flat_map spelling fs ++ rest) fs
read_on [] rest is goes kind taken left e shows = (kind, taken, left, e, shows)
read_on (f ∷ fs) rest is goes kind taken left e shows =
    let i = and_parts (is_frame f) (list_all is_frame fs) is in
    let g = and_parts (goes_on f) (list_all goes_on fs) goes in
    (i.0, inr (g.0, flat_map spelling fs ++ rest, append_assoc (spelling f) (flat_map spelling fs) rest, read_on fs rest i.1 g.1 kind taken left e shows))

read_end : (front : List Frame) (last : Frame) (rest : List ℕ) → list_all is_frame (front ++ last ∷ []) ≡ true → list_all goes_on front ≡ true
    → ends_link last ≡ true → IsEnd last (Some rest) → Read (flat_map spelling (front ++ last ∷ []) ++ rest) (front ++ last ∷ [])
read_end [] last rest is goes ends at =
    let i = and_parts (is_frame last) true is in
    (i.0, inl (ends, refl, rest, append_assoc (spelling last) [] rest, at))
read_end (f ∷ fs) last rest is goes ends at =
    let i = and_parts (is_frame f) (list_all is_frame (fs ++ last ∷ [])) is in
    let g = and_parts (goes_on f) (list_all goes_on fs) goes in
    let text = append_assoc (spelling f) (flat_map spelling (fs ++ last ∷ [])) rest in
    (i.0, inr (g.0, flat_map spelling (fs ++ last ∷ []) ++ rest, text, read_end fs last rest i.1 g.1 ends at))

read_of : (text : List ℕ) (fs : List Frame) → AreFrames text fs → Read text fs
read_of text fs a = elim a.stop [
  | inl link ↦ subst (λ (t : List ℕ). Read t fs) (sym a.text)
      (subst (λ (gs : List Frame). Read (flat_map spelling gs ++ a.rest) gs) (sym link.2)
      (read_end link.0 link.1 a.rest (sym (ap (list_all is_frame) link.2) ∙ a.frames') link.3 link.4 link.5))
  | inr stop ↦ subst (λ (t : List ℕ). Read t fs) (sym a.text) (read_on fs a.rest a.frames' stop.0 stop.1 stop.2 stop.3 stop.4 stop.5)
]

-- ---- one list of them

abbrev Few : List ℕ → Type 0
Few text = length text ≤ 16777216

front_few : (x l text : List ℕ) → text ≡ x ++ l → Few text → 0 + length x ≤ 16777216
front_few x l text e few = let size : length text ≡ length x + length l = ap length e ∙ length-append x l in omega arith

rest_few : (x l text : List ℕ) → text ≡ x ++ l → Few text → Few l
rest_few x l text e few = let size : length text ≡ length x + length l = ap length e ∙ length-append x l in omega arith

goes_by : (f : Frame) (left : List ℕ) → goes_on f ≡ true → IsEnd f (Some left)
goes_by (frame.Bytes b) left g = tt
goes_by frame.Quiet left g = tt
goes_by (frame.Resize z) left g = tt
goes_by frame.Ask left g = tt
goes_by frame.Hangup left g = tt
goes_by frame.End left g = absurd (cc)

cancel : (x l m : List ℕ) → x ++ l ≡ x ++ m → l ≡ m
cancel [] l m e = e
cancel (a ∷ x) l m e = cancel x l m (cc)

both : (f : Frame) → ends_link f ≡ true → goes_on f ≡ true → ⊥
both f e g = let no : false ≡ true = ap not (sym e) ∙ g in absurd (cc)

-- what is read of the front of a text
record Front (text : List ℕ) (a : Result Frame LinkFault) : Type 0 where
  told : is_told a ≡ true
  taken : List ℕ
  left : List ℕ
  is : text ≡ taken ++ left
  answer : Answers a 0 taken (Some left)

front_of : (text : List ℕ) (f : Frame) (fs : List Frame) → Few text → Read text (f ∷ fs) → Front text (Ok f)
front_of text f fs few r = elim r.1 [
  | inl e ↦ record { told = refl; taken = spelling f; left = e.2; is = e.3; answer = (refl, r.0, e.4, front_few (spelling f) e.2 text e.3 few) }
  | inr g ↦ record { told = refl; taken = spelling f; left = g.1; is = g.2; answer = (refl, r.0, goes_by f g.1 g.0, front_few (spelling f) g.1 text g.2 few) }
]

no_front : (text : List ℕ) → Few text → (r : Read text []) → Front text (Err (faults.Bad 0 r.0))
no_front text few r = record { told = refl; taken = r.1; left = r.2; is = r.3; answer = (refl, r.4, front_few r.1 r.2 text r.3 few) }

same_front : OneAnswer → (text : List ℕ) (a b : Result Frame LinkFault) → Front text a → Front text b → a ≡ b
same_front law text a b p q = (law a b 0 p.taken q.taken p.left q.left p.told q.told p.answer q.answer (sym p.is ∙ q.is)).0

same_frame : (f g : Frame) → ◌≡◌ {A = Result Frame LinkFault} (Ok f) (Ok g) → f ≡ g
same_frame f g e = cc

behind : (text : List ℕ) (f g : Frame) (l m : List ℕ) → f ≡ g → text ≡ spelling f ++ l → text ≡ spelling g ++ m → l ≡ m
behind text f g l m e p q = cancel (spelling f) l m (sym p ∙ (q ∙ ap (λ (h : Frame). spelling h ++ m) (sym e)))

one_read : OneAnswer → (text : List ℕ) (fs gs : List Frame) → Few text → Read text fs → Read text gs → fs ≡ gs
one_read law text [] [] few r s = refl
one_read law text [] (g ∷ gs) few r s =
    let e = same_front law text (Err (faults.Bad 0 r.0)) (Ok g) (no_front text few r) (front_of text g gs few s) in absurd (cc)
one_read law text (f ∷ fs) [] few r s =
    let e = same_front law text (Ok f) (Err (faults.Bad 0 s.0)) (front_of text f fs few r) (no_front text few s) in absurd (cc)
one_read law text (f ∷ fs) (g ∷ gs) few r s =
    let e = same_frame f g (same_front law text (Ok f) (Ok g) (front_of text f fs few r) (front_of text g gs few s)) in
    elim r.1 [
      | inl p ↦ elim s.1 [
        | inl q ↦ let no_more : fs ≡ gs = p.1 ∙ sym q.1 in cc
        | inr q ↦ absurd (both f p.0 (ap goes_on e ∙ q.0))
      ]
      | inr p ↦ elim s.1 [
        | inl q ↦ absurd (both f (ap ends_link e ∙ q.0) p.0)
        | inr q ↦
            let rest = behind text f g p.1 q.1 e p.2 q.2 in
            let more : fs ≡ gs = one_read law p.1 fs gs (rest_few (spelling f) p.1 text p.2 few) p.3 (subst (λ (t : List ℕ). Read t gs) (sym rest) q.3) in cc
      ]
    ]

pub one_list : OneAnswer → (text : List ℕ) (fs gs : List Frame) → length text ≤ 16777216 → AreFrames text fs → AreFrames text gs → fs ≡ gs
one_list law text fs gs few a b = one_read law text fs gs few (read_of text fs a) (read_of text gs b)
