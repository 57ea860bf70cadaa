-- The bytes of a link say one end of a session, and a session has it, unless something failed.
use Rattle.std.proofs.Common.{◌≡◌, ◌⊎◌, inl, inr, refl, sym, subst, ap, ◌∙◌, arith, append_assoc, length-append, ℕ, ◌+◌, ◌<◌, ◌≤◌, true, false, List}
use Rattle.std.proofs.Common.{[], ◌∷◌, ◌++◌, length, Option, Some, None, append-nil}
use Rattle.std.specs.Prelude.{flat_map, not, IfSome, Result, Ok, Err, unwrap_or}
use Rattle.std.specs.List.{list_all}
use Rattle.std.proofs.lemmas.Bool.{and_parts}
use Rattle.std.proofs.lemmas.Grind.{flat_map-append}
use Rattle.std.proofs.lemmas.List.Folds.{list_all-append}
use Rattle.con_units.specs.declared.view.Frame.{Frame}
use Rattle.con_units.specs.declared.view.Frame.TheVariants as frame
use Rattle.con_units.specs.declared.view.FrameFault.{FrameFault}
use Rattle.con_outside.specs.Outside.{then_left}
use Rattle.con_link.specs.Frames.{goes_on, ends_link, IsEnd}
use Rattle.con_link.specs.LinkReading.{LinkReading, AnswersBy, IsLinkBy, all_go_on}
use Rattle.con_link.specs.declared.fault.LinkFault.{LinkFault}
use Rattle.con_link.specs.declared.fault.LinkFault.TheVariants as faults
use Rattle.con_events.specs.declared.end.End.{End}
use Rattle.con_events.specs.declared.end.End.TheVariants as ends
use Rattle.con_events.specs.declared.event.Event.{Event}
use Rattle.con_events.specs.Session.{Clients}
use Rattle.con_events.specs.declared.entry.Entry.{Entry}
use Rattle.con_events.specs.declared.reply.Reply.{Reply}
use Rattle.con_actors.specs.Outcome.{HasSentBy, LeavesBy}
use Rattle.con_lines.specs.Ending.{status_of}
use Rattle.con_sessions.specs.Foretold.{ForetellsBy, HasNoFrameBy, StandsBy}
use Rattle.con_telling.specs.Telling.{ending_after}
use Rattle.con_sessions.proofs.Certain.{Certain, IsTold}

abbrev spelled : (R : LinkReading) → List R.One → List ℕ
spelled R fs = flat_map R.spelling fs

-- the answers that say an end
abbrev Says : (R : LinkReading) → Result R.One LinkFault → Type 0
Says R (Ok f) = ends_link (R.plain f) ≡ true
Says R (Err (faults.Bad place kind)) = Unit {0}
Says R (Err faults.TooLong) = Unit {0}
Says R (Err faults.Failed) = ⊥
Says R (Err faults.OutOfMemory) = ⊥

told : (R : LinkReading) (a : Result R.One LinkFault) → Says R a → IsTold a
told R (Ok f) s = tt
told R (Err (faults.Bad place kind)) s = tt
told R (Err faults.TooLong) s = tt
told R (Err faults.Failed) s = absurd s
told R (Err faults.OutOfMemory) s = absurd s

no : false ≡ true → ⊥
no e = absurd (cc)

-- ---- frames that go on

apart : (f : Frame) → ends_link f ≡ true → goes_on f ≡ true → ⊥
apart f e g = no (ap not (sym e) ∙ g)

no_last : (f : Frame) (more : List ℕ) → goes_on f ≡ true → IsEnd f (Some more)
no_last (frame.Bytes b) more g = tt
no_last frame.Quiet more g = tt
no_last (frame.Resize z) more g = tt
no_last frame.Ask more g = tt
no_last frame.Hangup more g = tt
no_last frame.End more g = absurd (no g)

frame_answers : (R : LinkReading) → Certain R → (f : R.One) (place : ℕ) (more : List ℕ) → R.is_one f ≡ true → goes_on (R.plain f) ≡ true → place + length (R.spelling f) ≤ 16777216 → AnswersBy R (Ok f) place (R.spelling f) (Some more)
frame_answers R laws f place more fine g few = laws.made f place (Some more) fine (no_last (R.plain f) more g) few

longer : (R : LinkReading) (f : R.One) (fs : List R.One) → length (spelled R (f ∷ fs)) ≡ length (R.spelling f) + length (spelled R fs)
longer R f fs = length-append (R.spelling f) (spelled R fs)

-- a frame that goes on stands where an end is said
none_there : (R : LinkReading) → Certain R → (g : R.One) (gs : List R.One) (a b : Result R.One LinkFault) (place : ℕ) (x l y m : List ℕ) → R.is_one g ≡ true → goes_on (R.plain g) ≡ true → Says R a → Says R b
    → AnswersBy R a (place + 0) x (Some l) → AnswersBy R b (place + length (spelled R (g ∷ gs))) y (Some m) → x ++ l ≡ spelled R (g ∷ gs) ++ (y ++ m) → ⊥
none_there R laws g gs a b place x l y m fine goes s t p q e =
    let most : place + length (spelled R (g ∷ gs)) ≤ 16777216 = laws.within b (place + length (spelled R (g ∷ gs))) y (Some m) (told R b t) q in
    let few : place + 0 + length (R.spelling g) ≤ 16777216 = omega (arith, most, longer R g gs) in
    let at : x ++ l ≡ R.spelling g ++ (spelled R gs ++ (y ++ m)) = e ∙ append_assoc (R.spelling g) (spelled R gs) (y ++ m) in
    let is : a ≡ Ok g = laws.answer a (Ok g) (place + 0) x (R.spelling g) l (spelled R gs ++ (y ++ m)) (told R a s) tt p (frame_answers R laws g (place + 0) (spelled R gs ++ (y ++ m)) fine goes few) at in
    apart (R.plain g) (subst (Says R) is s) goes

one_end : (R : LinkReading) → Certain R → (fs gs : List R.One) (a b : Result R.One LinkFault) (place : ℕ) (x l y m : List ℕ) → list_all R.is_one fs ≡ true → all_go_on R fs ≡ true → list_all R.is_one gs ≡ true → all_go_on R gs ≡ true
    → Says R a → Says R b → AnswersBy R a (place + length (spelled R fs)) x (Some l) → AnswersBy R b (place + length (spelled R gs)) y (Some m) → spelled R fs ++ (x ++ l) ≡ spelled R gs ++ (y ++ m) → a ≡ b
one_end R laws [] [] a b place x l y m ff fg gf gg s t p q e = laws.answer a b (place + 0) x y l m (told R a s) (told R b t) p q e
one_end R laws [] (g ∷ gs) a b place x l y m ff fg gf gg s t p q e =
    absurd (none_there R laws g gs a b place x l y m (and_parts (R.is_one g) (list_all R.is_one gs) gf).0 (and_parts (goes_on (R.plain g)) (all_go_on R gs) gg).0 s t p q e)
one_end R laws (f ∷ fs) [] a b place x l y m ff fg gf gg s t p q e =
    absurd (none_there R laws f fs b a place y m x l (and_parts (R.is_one f) (list_all R.is_one fs) ff).0 (and_parts (goes_on (R.plain f)) (all_go_on R fs) fg).0 t s q p (sym e))
one_end R laws (f ∷ fs) (g ∷ gs) a b place x l y m ff fg gf gg s t p q e =
    let f1 = and_parts (R.is_one f) (list_all R.is_one fs) ff in
    let f2 = and_parts (goes_on (R.plain f)) (all_go_on R fs) fg in
    let g1 = and_parts (R.is_one g) (list_all R.is_one gs) gf in
    let g2 = and_parts (goes_on (R.plain g)) (all_go_on R gs) gg in
    let at : R.spelling f ++ (spelled R fs ++ (x ++ l)) ≡ R.spelling g ++ (spelled R gs ++ (y ++ m)) =
    sym (append_assoc (R.spelling f) (spelled R fs) (x ++ l)) ∙ (e ∙ append_assoc (R.spelling g) (spelled R gs) (y ++ m)) in
    let same = laws.frame f g (spelled R fs ++ (x ++ l)) (spelled R gs ++ (y ++ m)) f1.0 g1.0 f2.0 g2.0 at in
    let size : length (R.spelling f) ≡ length (R.spelling g) = ap (λ (z : R.One). length (R.spelling z)) same.0 in
    let here : place + length (spelled R (f ∷ fs)) ≡ place + length (R.spelling f) + length (spelled R fs) = omega (arith, longer R f fs) in
    let there : place + length (spelled R (g ∷ gs)) ≡ place + length (R.spelling f) + length (spelled R gs) = omega (arith, longer R g gs, size) in
    one_end R laws fs gs a b (place + length (R.spelling f)) x l y m f1.1 f2.1 g1.1 g2.1 s t (subst (λ n. AnswersBy R a n x (Some l)) here p) (subst (λ n. AnswersBy R b n y (Some m)) there q) same.1

-- ---- the end that an answer says

abbrev end_said : {A : Type 0} → Result A LinkFault → End
end_said (Ok f) = ends.Done
end_said (Err (faults.Bad place kind)) = ends.Bad place kind
end_said (Err faults.TooLong) = ends.TooLong
end_said (Err faults.Failed) = ends.Link
end_said (Err faults.OutOfMemory) = ends.Memory

record Said (R : LinkReading) (link : List ℕ) (end : End) : Type 0 where
  answer : Result R.One LinkFault
  says : Says R answer
  stands : StandsBy R link answer
  is : end_said answer ≡ end

said : (R : LinkReading) (link : List ℕ) (end : End) → ForetellsBy R link end → Said R link end
said R link ends.Done f = record { answer = Ok f.0; says = f.1; stands = f.2; is = refl }
said R link (ends.Bad place kind) f = record { answer = Err (faults.Bad place kind); says = tt; stands = f; is = refl }
said R link ends.TooLong f = record { answer = Err faults.TooLong; says = tt; stands = f; is = refl }
said R link ends.Term f = absurd f
said R link ends.Link f = absurd f
said R link ends.Memory f = absurd f

zero_more : (n : ℕ) → n ≡ 0 + n
zero_more n = omega arith

same_end : (R : LinkReading) → Certain R → (link : List ℕ) (c d : End) → Said R link c → Said R link d → c ≡ d
same_end R laws link c d p q =
    let s = p.stands in
    let t = q.stands in
    let answers : p.answer ≡ q.answer = one_end R laws s.frames t.frames p.answer q.answer 0 s.text s.rest t.text t.rest s.are_frames s.going t.are_frames t.going p.says q.says (subst (λ n. AnswersBy R p.answer n s.text (Some s.rest)) (zero_more _) s.answers) (subst (λ n. AnswersBy R q.answer n t.text (Some t.rest)) (zero_more _) t.answers) (sym s.spelled ∙ t.spelled) in
    sym p.is ∙ (ap end_said answers ∙ q.is)

one_foretold : (R : LinkReading) → Certain R → (link : List ℕ) (c d : End) → ForetellsBy R link c → ForetellsBy R link d → c ≡ d
one_foretold R laws link c d f g = same_end R laws link c d (said R link c f) (said R link d g)

-- ---- the end of a session that ran

ended_spelled : (R : LinkReading) (front : List R.One) (last : R.One) → spelled R (front ++ last ∷ []) ≡ spelled R front ++ R.spelling last
ended_spelled R front last = flat_map-append R.spelling front (last ∷ []) ∙ ap (λ t. spelled R front ++ t) (append-nil (R.spelling last))

done_foretold : (R : LinkReading) → Certain R → (link : List ℕ) (frames : List R.One) (text rest : List ℕ) → list_all R.is_one frames ≡ true → link ≡ (spelled R frames ++ text) ++ rest → IsLinkBy R frames (Some rest) → text ≡ [] → length (spelled R frames) ≤ 16777216 → ForetellsBy R link ends.Done
done_foretold R laws link frames text rest fine is l none few =
    let front = l.0 in
    let last = l.1 in
    let all : spelled R frames ≡ spelled R front ++ R.spelling last = ap (spelled R) l.2 ∙ ended_spelled R front last in
    let apart = and_parts (list_all R.is_one front) (list_all R.is_one (last ∷ [])) (sym (list_all-append R.is_one front (last ∷ [])) ∙ (ap (list_all R.is_one) (sym l.2) ∙ fine)) in
    let size : length (spelled R frames) ≡ length (spelled R front) + length (R.spelling last) = ap length all ∙ length-append (spelled R front) (R.spelling last) in (
      last,
      l.4,
      record {
        frames = front;
        text = R.spelling last;
        rest = rest;
        spelled = is ∙ (ap (λ t. (spelled R frames ++ t) ++ rest) none ∙
            (ap (λ t. t ++ rest) (append-nil (spelled R frames) ∙ all) ∙ append_assoc (spelled R front) (R.spelling last) rest));
        are_frames = apart.0;
        going = l.3;
        answers = laws.made last (length (spelled R front)) (Some rest) (and_parts (R.is_one last) true apart.1).0 l.5 (omega (arith, few, size));
      },
    )

stopped : (R : LinkReading) (link : List ℕ) (fault : LinkFault) (frames : List R.One) (text rest : List ℕ) → list_all R.is_one frames ≡ true → all_go_on R frames ≡ true → link ≡ (spelled R frames ++ text) ++ rest
    → AnswersBy R (Err fault) (length (spelled R frames)) text (Some rest) → StandsBy R link (Err fault)
stopped R link fault frames text rest fine going is a = record {
  frames = frames;
  text = text;
  rest = rest;
  spelled = is ∙ append_assoc (spelled R frames) text rest;
  are_frames = fine;
  going = going;
  answers = a;
}

-- the ends that the link says
abbrev IsSaid : End → Type 0
IsSaid ends.Done = Unit {0}
IsSaid (ends.Bad place kind) = Unit {0}
IsSaid ends.TooLong = Unit {0}
IsSaid ends.Term = ⊥
IsSaid ends.Link = ⊥
IsSaid ends.Memory = ⊥

ran_foretold : (R : LinkReading) → Certain R → (link : List ℕ) (end : End) (frames : List R.One) (text rest : List ℕ) (sent : List Event) → list_all R.is_one frames ≡ true → link ≡ (spelled R frames ++ text) ++ rest → HasSentBy R end frames text (Some rest) sent → IsSaid end → ForetellsBy R link end
ran_foretold R laws link ends.Done frames text rest sent fine is h s = done_foretold R laws link frames text rest fine is h.0 h.1 h.2
ran_foretold R laws link (ends.Bad place kind) frames text rest sent fine is h s = stopped R link (faults.Bad place kind) frames text rest fine h.0.0 is h.1
ran_foretold R laws link ends.TooLong frames text rest sent fine is h s = stopped R link faults.TooLong frames text rest fine h.0.0 is h.1
ran_foretold R laws link ends.Term frames text rest sent fine is h s = absurd s
ran_foretold R laws link ends.Link frames text rest sent fine is h s = absurd s
ran_foretold R laws link ends.Memory frames text rest sent fine is h s = absurd s

-- ---- by status

-- where neither the link nor the terminal failed, the link says the end, or there was no memory
settles : (end : End) → (end ≡ ends.Link → ⊥) → (end ≡ ends.Term → ⊥) → (status_of (ending_after end) ≡ 9) ⊎ IsSaid end
settles ends.Done link term = inr tt
settles (ends.Bad place kind) link term = inr tt
settles ends.TooLong link term = inr tt
settles ends.Term link term = absurd (term refl)
settles ends.Link link term = absurd (link refl)
settles ends.Memory link term = inl refl

some_is : (a b : List ℕ) → Some a ≡ Some b → a ≡ b
some_is a b e = ap (λ o. unwrap_or o a) e

bytes_are : (link taken rest : List ℕ) (before : Option (List ℕ)) → before ≡ then_left taken (Some rest) → before ≡ Some link → link ≡ taken ++ rest
bytes_are link taken rest before e f = some_is _ _ (sym f ∙ e)

-- a session that ran has the end that the bytes say, or there was no memory
status_foretold : (R : LinkReading) → Certain R → (s : ℕ) (end e : End) (frames : List R.One) (text link : List ℕ) (before left : Option (List ℕ)) (sent : List Event) → (s ≡ status_of (ending_after end)) ⊎ (s ≡ 9) → list_all R.is_one frames ≡ true → before ≡ then_left (spelled R frames ++ text) left
    → HasSentBy R end frames text left sent → before ≡ Some link → ForetellsBy R link e → (end ≡ ends.Link → ⊥) → (end ≡ ends.Term → ⊥) → (s ≡ status_of (ending_after e)) ⊎ (s ≡ 9)
status_foretold R laws s end e frames text link before None sent is fine taken h f foretells l t = let bad : None ≡ Some link = sym taken ∙ f in absurd (cc)
status_foretold R laws s end e frames text link before (Some rest) sent is fine taken h f foretells l t = elim is [
  | inl told' ↦ elim (settles end l t) [
    | inl m ↦ inr (told' ∙ m)
    | inr p ↦ inl (told' ∙ ap (λ d. status_of (ending_after d)) (one_foretold R laws link end e (ran_foretold R laws link end frames text rest sent fine (bytes_are link (spelled R frames ++ text) rest before taken f) h p) foretells))
  ]
  | inr m ↦ inr m
]

eight : (end : End) → 8 ≡ status_of (ending_after end) → (place : ℕ) × (kind : FrameFault) × (end ≡ ends.Bad place kind)
eight ends.Done e = let bad : 8 ≡ 0 = e in absurd (omega arith)
eight ends.Term e = let bad : 8 ≡ 5 = e in absurd (omega arith)
eight ends.Link e = let bad : 8 ≡ 4 = e in absurd (omega arith)
eight ends.TooLong e = let bad : 8 ≡ 10 = e in absurd (omega arith)
eight (ends.Bad place kind) e = (place, kind, refl)
eight ends.Memory e = let bad : 8 ≡ 9 = e in absurd (omega arith)

ten : (end : End) → 10 ≡ status_of (ending_after end) → end ≡ ends.TooLong
ten ends.Done e = let bad : 10 ≡ 0 = e in absurd (omega arith)
ten ends.Term e = let bad : 10 ≡ 5 = e in absurd (omega arith)
ten ends.Link e = let bad : 10 ≡ 4 = e in absurd (omega arith)
ten ends.TooLong e = refl
ten (ends.Bad place kind) e = let bad : 10 ≡ 8 = e in absurd (omega arith)
ten ends.Memory e = let bad : 10 ≡ 9 = e in absurd (omega arith)

-- the status of a link without a frame at a place
no_frame_there : (R : LinkReading) (end : End) (frames : List R.One) (text : List ℕ) (before left : Option (List ℕ)) (sent : List Event) → list_all R.is_one frames ≡ true → before ≡ then_left (spelled R frames ++ text) left
    → HasSentBy R end frames text left sent → 8 ≡ status_of (ending_after end) → IfSome before (HasNoFrameBy R)
no_frame_there R end frames text before None sent fine taken h e = subst (λ b. IfSome b (HasNoFrameBy R)) (sym taken) tt
no_frame_there R end frames text before (Some rest) sent fine taken h e =
    let bad = eight end e in
    let sent' : HasSentBy R (ends.Bad bad.0 bad.1) frames text (Some rest) sent = subst (λ d. HasSentBy R d frames text (Some rest) sent) bad.2 h in
    subst (λ b. IfSome b (HasNoFrameBy R)) (sym taken) (bad.0, bad.1, stopped R ((spelled R frames ++ text) ++ rest) (faults.Bad bad.0 bad.1) frames text rest fine sent'.0.0 refl sent'.1)

-- the status of a link with too many bytes
much_taken : (R : LinkReading) → Certain R → (end : End) (frames : List R.One) (text : List ℕ) (before left : Option (List ℕ)) (sent : List Event) → before ≡ then_left (spelled R frames ++ text) left → HasSentBy R end frames text left sent → 10 ≡ status_of (ending_after end)
    → (taken : List ℕ) × (before ≡ then_left taken left) × (16777216 < length taken)
much_taken R laws end frames text before left sent taken h e =
    let sent' : HasSentBy R ends.TooLong frames text left sent = subst (λ d. HasSentBy R d frames text left sent) (ten end e) h in
    let most = laws.long (length (spelled R frames)) text left sent'.1 in
    (spelled R frames ++ text, taken, omega (arith, most, length-append (spelled R frames) text))

-- ---- of what a session left

pub left_foretold : (R : LinkReading) (More : List R.One → List Entry → Type 0) → Certain R → (s : ℕ) (session : Clients) (racks : List (List ℕ)) (h : List Entry) (rs : List Reply) (es : List ℕ) (end e : End) (link : List ℕ) (before left old now : Option (List ℕ))
    → LeavesBy R More session racks h rs es end before left old now → (s ≡ status_of (ending_after end)) ⊎ (s ≡ 9) → before ≡ Some link → ForetellsBy R link e → (end ≡ ends.Link → ⊥) → (end ≡ ends.Term → ⊥) → (s ≡ status_of (ending_after e)) ⊎ (s ≡ 9)
left_foretold R More laws s session racks h rs es end e link before left old now o is known says l t = status_foretold R laws s end e o.frames o.text link before left _ is o.frames' o.taken o.side known says l t

pub left_no_frame : (R : LinkReading) (More : List R.One → List Entry → Type 0) (session : Clients) (racks : List (List ℕ)) (h : List Entry) (rs : List Reply) (es : List ℕ) (end : End) (before left old now : Option (List ℕ)) → LeavesBy R More session racks h rs es end before left old now
    → 8 ≡ status_of (ending_after end) → IfSome before (HasNoFrameBy R)
left_no_frame R More session racks h rs es end before left old now o e = no_frame_there R end o.frames o.text before left _ o.frames' o.taken o.side e

pub left_too_much : (R : LinkReading) (More : List R.One → List Entry → Type 0) → Certain R → (session : Clients) (racks : List (List ℕ)) (h : List Entry) (rs : List Reply) (es : List ℕ) (end : End) (before left old now : Option (List ℕ)) → LeavesBy R More session racks h rs es end before left old now
    → 10 ≡ status_of (ending_after end) → (taken : List ℕ) × (before ≡ then_left taken left) × (16777216 < length taken)
left_too_much R More laws session racks h rs es end before left old now o e = much_taken R laws end o.frames o.text before left _ o.taken o.side e
