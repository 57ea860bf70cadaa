-- What a link's bytes determine, however the link is read.
use Rattle.std.proofs.Common.{◌≡◌, sym, ap, ◌∙◌, refl, arith, length-append, ℕ, ◌+◌, ◌≤◌, true, false, List, [], ◌∷◌, ◌++◌, length, Option, Some}
use Rattle.std.specs.Prelude.{Result, Ok, Err}
use Rattle.con_units.specs.declared.view.Frame.{Frame}
use Rattle.con_units.specs.declared.view.Frame.TheVariants as frame
use Rattle.con_link.specs.Plainly.{Answers}
use Rattle.con_link.specs.Frames.{IsEnd, goes_on}
use Rattle.con_link.specs.Words.Mirrored.{as_plain}
use Rattle.con_link.specs.MirrorOnly.{OneMirrorAnswer, OneMirrorFrame, is_mirror_told}
use Rattle.con_link.specs.Only.{OneAnswer, OneFrame, is_told}
use Rattle.con_link.specs.LinkReading.{LinkReading, plainly, mirrored, AnswersBy}
use Rattle.con_link.specs.declared.fault.LinkFault.{LinkFault}
use Rattle.con_link.specs.declared.fault.LinkFault.TheVariants as faults
use Rattle.con_link.specs.declared.mirror.MirrorFrame.{MirrorFrame}
use Rattle.con_link.specs.declared.mirror.MirrorFrame.TheVariants.{Plain}

-- the answers that the link alone determines
abbrev pub IsTold : {A : Type 0} → Result A LinkFault → Type 0
IsTold (Ok f) = Unit {0}
IsTold (Err (faults.Bad place kind)) = Unit {0}
IsTold (Err faults.TooLong) = Unit {0}
IsTold (Err faults.Failed) = ⊥
IsTold (Err faults.OutOfMemory) = ⊥

-- but for a failed source and want of memory the bytes and the place determine the answer; they begin with one frame at most; a frame is answered where its bytes
-- stand; an answer stands within the limit, or one byte past it
pub record Certain (R : LinkReading) : Type 0 where
  pub answer : (a b : Result R.One LinkFault) (place : ℕ) (x y l m : List ℕ) → IsTold a → IsTold b → AnswersBy R a place x (Some l) → AnswersBy R b place y (Some m) → x ++ l ≡ y ++ m → a ≡ b
  pub frame : (f g : R.One) (r s : List ℕ) → R.is_one f ≡ true → R.is_one g ≡ true → goes_on (R.plain f) ≡ true → goes_on (R.plain g) ≡ true → R.spelling f ++ r ≡ R.spelling g ++ s → (f ≡ g) × (r ≡ s)
  pub made : (f : R.One) (place : ℕ) (left : Option (List ℕ)) → R.is_one f ≡ true → IsEnd (R.plain f) left → place + length (R.spelling f) ≤ 16777216 → AnswersBy R (Ok f) place (R.spelling f) left
  pub within : (a : Result R.One LinkFault) (place : ℕ) (text : List ℕ) (left : Option (List ℕ)) → IsTold a → AnswersBy R a place text left → place ≤ 16777216
  pub long : (place : ℕ) (text : List ℕ) (left : Option (List ℕ)) → AnswersBy R (Err faults.TooLong) place text left → place + length text ≡ 16777217

no : false ≡ true → ⊥
no e = absurd (cc)

no_end : (f : Frame) → goes_on f ≡ true → f ≡ frame.End → ⊥
no_end f g e = no (ap goes_on (sym e) ∙ g)

no_plain_end : (f : MirrorFrame) → goes_on (as_plain f) ≡ true → f ≡ Plain frame.End → ⊥
no_plain_end f g e = no_end (as_plain f) g (ap as_plain e)

-- ---- read plainly

told : (a : Result Frame LinkFault) → IsTold a → is_told a ≡ true
told (Ok f) s = refl
told (Err (faults.Bad place kind)) s = refl
told (Err faults.TooLong) s = refl
told (Err faults.Failed) s = absurd s
told (Err faults.OutOfMemory) s = absurd s

within : (a : Result Frame LinkFault) (place : ℕ) (text : List ℕ) (left : Option (List ℕ)) → IsTold a → Answers a place text left → place ≤ 16777216
within (Ok f) place text left s a = let few = a.3 in omega (arith, few)
within (Err (faults.Bad at kind)) place text left s a = let few = a.2 in omega (arith, few)
within (Err faults.TooLong) place text left s a =
    let size : length text ≡ length a.1 + 1 = ap length a.3 ∙ length-append a.1 (a.2 ∷ []) in
    let most = a.0 in omega (arith, most, size)
within (Err faults.Failed) place text left s a = absurd s
within (Err faults.OutOfMemory) place text left s a = absurd s

pub plain_certain : OneAnswer → OneFrame → Certain plainly
plain_certain one two = record {
  answer = λ a b place x y l m s t p q e. (one a b place x y l m (told a s) (told b t) p q e).0;
  frame = λ f g r s fine other goes too e. two f g r s fine other (no_end f goes) (no_end g too) e;
  made = λ f place left fine end few. (refl, fine, end, few);
  within = within;
  long = λ place text left a. a.0;
}

-- ---- read with a second terminal

mirror_told : (a : Result MirrorFrame LinkFault) → IsTold a → is_mirror_told a ≡ true
mirror_told (Ok f) s = refl
mirror_told (Err (faults.Bad place kind)) s = refl
mirror_told (Err faults.TooLong) s = refl
mirror_told (Err faults.Failed) s = absurd s
mirror_told (Err faults.OutOfMemory) s = absurd s

mirror_within : (a : Result MirrorFrame LinkFault) (place : ℕ) (text : List ℕ) (left : Option (List ℕ)) → IsTold a → AnswersBy mirrored a place text left → place ≤ 16777216
mirror_within (Ok f) place text left s a = let few = a.3 in omega (arith, few)
mirror_within (Err (faults.Bad at kind)) place text left s a = let few = a.2 in omega (arith, few)
mirror_within (Err faults.TooLong) place text left s a =
    let size : length text ≡ length a.1 + 1 = ap length a.3 ∙ length-append a.1 (a.2 ∷ []) in
    let most = a.0 in omega (arith, most, size)
mirror_within (Err faults.Failed) place text left s a = absurd s
mirror_within (Err faults.OutOfMemory) place text left s a = absurd s

pub mirror_certain : OneMirrorAnswer → OneMirrorFrame → Certain mirrored
mirror_certain one two = record {
  answer = λ a b place x y l m s t p q e. (one a b place x y l m (mirror_told a s) (mirror_told b t) p q e).0;
  frame = λ f g r s fine other goes too e. two f g r s fine other (no_plain_end f goes) (no_plain_end g too) e;
  made = λ f place left fine end few. (refl, fine, end, few);
  within = mirror_within;
  long = λ place text left a. a.0;
}
