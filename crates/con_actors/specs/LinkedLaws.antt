-- What was read of a link behind one more turn, in either way of reading it.
use Rattle.std.proofs.Common.{◌≡◌, ◌⊎◌, ℕ, ◌+◌, ◌≤◌, Bool, true, false, List, [], ◌∷◌, ◌++◌, length, append-nil}
use Rattle.std.proofs.Common.{Option, Result, Ok, Err, refl, sym, ap, ◌∙◌, subst, inl, inr, length-append}
use Rattle.std.specs.Prelude.{flat_map, not, ◌&&◌}
use Rattle.std.specs.List.{list_all}
use Rattle.std.proofs.lemmas.List.Folds.{list_all-append}
use Rattle.std.proofs.lemmas.Grind.{flat_map-append}
use Rattle.std.specs.Result.{IsErr}
use Rattle.con_units.specs.declared.code.OutOfMemory.{OutOfMemory}
use Rattle.con_units.specs.declared.view.Frame.{Frame}
use Rattle.con_outside.specs.Outside.{then_left}
use Rattle.con_outside.specs.Laws.{then_left-more}
use Rattle.con_link.specs.Frames.{ends_link, goes_on}
use Rattle.con_link.specs.LinkReading.{LinkReading, AnswersBy, IsLinkBy, all_go_on}
use Rattle.con_link.specs.declared.fault.LinkFault.{LinkFault}
use Rattle.con_link.specs.declared.fault.LinkFault.TheVariants as faults
use Rattle.con_events.specs.declared.actor.Actor.TheVariants as actors
use Rattle.con_events.specs.declared.end.End.{End}
use Rattle.con_events.specs.declared.entry.Entry.{Entry}
use Rattle.con_events.specs.declared.event.Event.TheVariants as events
use Rattle.con_machine.specs.Follows.{sent_by, is_cut}
use Rattle.con_machine.specs.Turns.{is_terminal}
use Rattle.con_actors.specs.Words.Desk.{entry}
use Rattle.con_actors.specs.Words.Sender.{SideStands, LinkBy, LinkEndsBy, LinkTurnBy, end_for}
use Rattle.con_actors.specs.SenderLaws.{side_frame, side_hung, side_other}
use Rattle.con_actors.specs.declared.side.Side.{Side}

open_side : (h : List Entry) (coming : List Frame) (cut ended : Bool)
    → cut ≡ false → ended ≡ false → SideStands h coming cut ended → SideStands h coming false false
open_side h coming cut ended c e k =
    let P : Bool → Type 0 = λ x. SideStands h coming x ended in let Q : Bool → Type 0 = λ x. SideStands h coming false x in
    subst Q e (subst P c k)

-- another's entry
pub linked_other : (R : LinkReading) (More : List R.One → List Entry → Type 0) (h g : List Entry) (x : Entry) (side : Side) (failed : Bool)
    (before now : Option (List ℕ)) (taken : ℕ) → g ≡ h ++ x ∷ [] → is_terminal x.actor ≡ false
    → ((fs : List R.One) → More fs h → More fs g) → LinkBy R More h side failed before now taken → LinkBy R More g side failed before now taken
linked_other R More h g x side failed before now taken e n m k =
    let P : List Entry → Type 0 = λ z. SideStands z (R.plains k.frames) k.cut side.ended in
    record {
      frames = k.frames;
      extra = k.extra;
      cut = k.cut;
      stands = subst P (sym e) (side_other h x (R.plains k.frames) k.cut side.ended n k.stands);
      frames' = k.frames';
      read = k.read;
      open' = k.open';
      place = k.place;
      why = k.why;
      fault = k.fault;
      whole = k.whole;
      behind = k.behind;
      more = m k.frames k.more;
    }

-- the terminal has failed; and something else is known of the frames
pub linked_failed : (R : LinkReading) (More Then : List R.One → List Entry → Type 0) (h : List Entry) (side : Side) (failed later : Bool)
    (before now : Option (List ℕ)) (taken : ℕ) → (failed ≡ true → later ≡ true)
    → ((fs : List R.One) → More fs h → Then fs h) → LinkBy R More h side failed before now taken → LinkBy R Then h side later before now taken
linked_failed R More Then h side failed later before now taken i m k =
    record {
      frames = k.frames;
      extra = k.extra;
      cut = k.cut;
      stands = k.stands;
      frames' = k.frames';
      read = k.read;
      open' = k.open';
      place = k.place;
      why = λ c. ((k.why c).0, elim (k.why c).1 [ inl e ↦ inl (i e) | inr e ↦ inr e ]);
      fault = k.fault;
      whole = k.whole;
      behind = k.behind;
      more = m k.frames k.more;
    }

-- another's entry, behind which something else is known of the frames
pub linked_paint : (R : LinkReading) (More Then : List R.One → List Entry → Type 0) (h g : List Entry) (x : Entry) (side : Side) (failed later : Bool)
    (before now : Option (List ℕ)) (taken : ℕ) → g ≡ h ++ x ∷ [] → is_terminal x.actor ≡ false → (failed ≡ true → later ≡ true)
    → ((fs : List R.One) → More fs h → Then fs g) → LinkBy R More h side failed before now taken → LinkBy R Then g side later before now taken
linked_paint R More Then h g x side failed later before now taken e n i m k =
    let Was : List R.One → List Entry → Type 0 = λ fs z. More fs h in
    let still = linked_failed R More Was h side failed failed before now taken (λ f. f) (λ fs q. q) k in
    linked_failed R Was Then g side failed later before now taken i m (linked_other R Was h g x side failed before now taken e n (λ fs q. q) still)

-- the hangup where the terminal has failed
pub linked_hung : (R : LinkReading) (More Then : List R.One → List Entry → Type 0) (h g : List Entry) (side : Side) (failed : Bool)
    (before now : Option (List ℕ)) (taken : ℕ) → side.ended ≡ false → failed ≡ true → g ≡ h ++ entry actors.Terminal events.Hangup ∷ []
    → ((fs : List R.One) → More fs h → Then fs g) → LinkBy R More h side failed before now taken
    → LinkBy R Then g (record { ended = true; end = side.end }) failed before now taken
linked_hung R More Then h g side failed before now taken n f e m k =
    let p = k.place n in
    let P : List Entry → Type 0 = λ z. SideStands z (R.plains k.frames) true true in
    record {
      frames = k.frames;
      extra = k.extra;
      cut = true;
      stands = subst P (sym e) (side_hung h (R.plains k.frames) (open_side h (R.plains k.frames) k.cut side.ended p.2 n k.stands));
      frames' = k.frames';
      read = k.read;
      open' = λ x. absurd (cc);
      place = λ x. absurd (cc);
      why = λ c. (k.open' n, inl f);
      fault = λ x. absurd (let y : is_cut side.end ≡ false = p.4 in cc);
      whole = λ x. absurd (cc);
      behind = k.behind;
      more = m k.frames k.more;
    }

all_more : {A : Type 0} (p : A → Bool) (fs : List A) (f : A) → list_all p fs ≡ true → p f ≡ true → list_all p (fs ++ f ∷ []) ≡ true
all_more p fs f a b = list_all-append p fs (f ∷ []) ∙ (ap (λ (x : Bool). x && (p f && true)) a ∙ ap (λ (x : Bool). x && true) b)

spelled_more : {A : Type 0} (spell : A → List ℕ) (fs : List A) (f : A) → flat_map spell (fs ++ f ∷ []) ≡ flat_map spell fs ++ spell f
spelled_more spell fs f = flat_map-append spell fs (f ∷ []) ∙ ap (λ (x : List ℕ). flat_map spell fs ++ x) (append-nil (spell f))

-- a frame that was read
pub linked_frame : (R : LinkReading) (More Then : List R.One → List Entry → Type 0) (h g : List Entry) (side : Side)
    (failed : Bool) (before old now : Option (List ℕ)) (taken later : ℕ) (f : R.One) (ended : Bool)
    → side.ended ≡ false → g ≡ h ++ entry actors.Terminal (sent_by (R.plain f)) ∷ [] → ended ≡ ends_link (R.plain f)
    → ((text : List ℕ) × (old ≡ then_left text now) × (later ≡ taken + length text) × AnswersBy R (Ok f) taken text now)
    → ((fs : List R.One) → More fs h → Then (fs ++ f ∷ []) g)
    → LinkBy R More h side failed before old taken → LinkBy R Then g (record { ended = ended; end = side.end }) failed before now later
linked_frame R More Then h g side failed before old now taken later f ended n e d (text, l, c, was_answered) m k =
    let a = was_answered in
    let p = k.place n in
    let P : List Entry → Type 0 = λ z. SideStands z (R.plains (k.frames ++ f ∷ [])) false ended in
    let Q : Bool → Type 0 = λ x. SideStands (h ++ entry actors.Terminal (sent_by (R.plain f)) ∷ []) (R.plains (k.frames ++ f ∷ [])) false x in
    let S : List Frame → Type 0 = λ fs. SideStands (h ++ entry actors.Terminal (sent_by (R.plain f)) ∷ []) fs false (ends_link (R.plain f)) in
    let spelt = flat_map R.spelling k.frames in
    let was : before ≡ then_left spelt old = k.read ∙ ap (λ (x : List ℕ). then_left x old) (ap (λ (x : List ℕ). spelt ++ x) p.0 ∙ append-nil spelt) in
    let now' : flat_map R.spelling (k.frames ++ f ∷ []) ≡ spelt ++ text = spelled_more R.spelling k.frames f ∙ ap (λ (x : List ℕ). spelt ++ x) (sym a.0) in
    record {
      frames = k.frames ++ f ∷ [];
      extra = [];
      cut = false;
      stands = subst P (sym e) (subst Q (sym d)
          (subst S (sym (R.more k.frames f)) (side_frame h (R.plains k.frames) (R.plain f) (open_side h (R.plains k.frames) k.cut side.ended p.2 n k.stands))));
      frames' = all_more R.is_one k.frames f k.frames' a.1;
      open' = λ x. all_more (λ z. goes_on (R.plain z)) k.frames f (k.open' n) (ap not (sym d ∙ x));
      read = then_left-more spelt text before old now was l
          ∙ ap (λ (x : List ℕ). then_left x now) (sym now' ∙ sym (append-nil (flat_map R.spelling (k.frames ++ f ∷ []))));
      place = λ x. (
        refl,
        c ∙ (ap (λ (y : ℕ). y + length text) p.1 ∙ (sym (length-append spelt text) ∙ ap length (sym now'))),
        refl,
        let b : taken + length text ≤ 16777216 = a.3 in let P' : ℕ → Type 0 = λ y. y ≤ 16777216 in subst P' (sym c) b,
        p.4,
      );
      why = λ x. absurd (cc);
      fault = λ x. absurd (let y : is_cut side.end ≡ false = p.4 in cc);
      whole = λ x y. (
        (k.frames, f, refl, k.open' n, sym d ∙ y, a.2),
        refl,
        let b : taken + length text ≤ 16777216 = a.3 in let P' : ℕ → Type 0 = λ z.
            z ≤ 16777216 in subst P' (ap (λ (z : ℕ). z + length text) p.1 ∙ (sym (length-append spelt text) ∙ ap length (sym now'))) b,
      );
      behind = inl refl;
      more = m k.frames k.more;
    }

cut_for : (f : LinkFault) → is_cut (end_for f) ≡ true
cut_for faults.Failed = refl
cut_for faults.TooLong = refl
cut_for (faults.Bad place kind) = refl
cut_for faults.OutOfMemory = refl

-- a fault that showed
pub linked_fault : (R : LinkReading) (More Then : List R.One → List Entry → Type 0) (h g : List Entry) (side : Side)
    (failed : Bool) (before old now : Option (List ℕ)) (taken later : ℕ) (f : LinkFault) (end : End)
    → side.ended ≡ false → g ≡ h ++ entry actors.Terminal events.Hangup ∷ [] → end ≡ end_for f
    → ((text : List ℕ) × (old ≡ then_left text now) × (later ≡ taken + length text) × AnswersBy R (Err f) taken text now)
    → ((fs : List R.One) → More fs h → Then fs g)
    → LinkBy R More h side failed before old taken → LinkBy R Then g (record { ended = true; end = end }) failed before now later
linked_fault R More Then h g side failed before old now taken later f end n e d (text, l, c, a) m k =
    let p = k.place n in
    let P : List Entry → Type 0 = λ z. SideStands z (R.plains k.frames) true true in
    let spelt = flat_map R.spelling k.frames in
    let was : before ≡ then_left spelt old = k.read ∙ ap (λ (x : List ℕ). then_left x old) (ap (λ (x : List ℕ). spelt ++ x) p.0 ∙ append-nil spelt) in
    let Q : ℕ → Type 0 = λ x. AnswersBy R (Err f) x text now in
    record {
      frames = k.frames;
      extra = text;
      cut = true;
      stands = subst P (sym e) (side_hung h (R.plains k.frames) (open_side h (R.plains k.frames) k.cut side.ended p.2 n k.stands));
      frames' = k.frames';
      read = then_left-more spelt text before old now was l;
      open' = λ x. absurd (cc);
      place = λ x. absurd (cc);
      why = λ x. (k.open' n, inr (ap is_cut d ∙ cut_for f));
      fault = λ x. (f, refl, d, subst Q p.1 a);
      whole = λ x. absurd (cc);
      behind = inr (k.open' n, Err f, subst Q p.1 a);
      more = m k.frames k.more;
    }

-- ---- where there is no memory

going_by : (R : LinkReading) (ended cut : Bool) (frames : List R.One) (now : Option (List ℕ))
    → (ended ≡ false → all_go_on R frames ≡ true) → (cut ≡ true → all_go_on R frames ≡ true) → (cut ≡ false → ended ≡ true → IsLinkBy R frames now)
    → (all_go_on R frames ≡ true) ⊎ IsLinkBy R frames now
going_by R false cut frames now o w i = inl (o refl)
going_by R true true frames now o w i = inl (w refl)
going_by R true false frames now o w i = inr (i refl refl)

pub linked_going : (R : LinkReading) (More : List R.One → List Entry → Type 0) (h : List Entry) (side : Side) (failed : Bool) (before now : Option (List ℕ))
    (taken : ℕ) (k : LinkBy R More h side failed before now taken) → (all_go_on R k.frames ≡ true) ⊎ IsLinkBy R k.frames now
linked_going R More h side failed before now taken k = going_by R side.ended k.cut k.frames now k.open' (λ c. (k.why c).0) (λ c e. (k.whole c e).0)

pub linked_stays : (R : LinkReading) (More Then : List R.One → List Entry → Type 0) (h : List Entry) (side : Side) (failed : Bool)
    (before now : Option (List ℕ)) (taken : ℕ) → ((fs : List R.One) → More fs h → Then fs h)
    → LinkBy R More h side failed before now taken → LinkEndsBy R Then h before now
linked_stays R More Then h side failed before now taken m k = record {
  frames = k.frames;
  extra = k.extra;
  cut = k.cut;
  ended = side.ended;
  stands = k.stands;
  frames' = k.frames';
  read = k.read;
  going = linked_going R More h side failed before now taken k;
  behind = k.behind;
  more = m k.frames k.more;
}

-- what was taken behind the frames
pub linked_stops : (R : LinkReading) (More Then : List R.One → List Entry → Type 0) (h : List Entry) (side : Side) (failed : Bool)
    (before old now : Option (List ℕ)) (taken later : ℕ) (r : Result R.One LinkFault) → side.ended ≡ false
    → ((text : List ℕ) × (old ≡ then_left text now) × (later ≡ taken + length text) × AnswersBy R r taken text now)
    → ((fs : List R.One) → More fs h → Then fs h) → LinkBy R More h side failed before old taken → LinkEndsBy R Then h before now
linked_stops R More Then h side failed before old now taken later r n (text, l, c, a) m k =
    let spelt = flat_map R.spelling k.frames in
    let was : before ≡ then_left spelt old =
    k.read ∙ ap (λ (x : List ℕ). then_left x old) (ap (λ (x : List ℕ). spelt ++ x) (k.place n).0 ∙ append-nil spelt) in
    let Q : ℕ → Type 0 = λ x. AnswersBy R r x text now in
    record {
      frames = k.frames;
      extra = text;
      cut = k.cut;
      ended = side.ended;
      stands = k.stands;
      frames' = k.frames';
      read = then_left-more spelt text before old now was l;
      going = inl (k.open' n);
      behind = inr (k.open' n, r, subst Q (k.place n).1 a);
      more = m k.frames k.more;
    }

-- in the place of an answer that is no value
pub linked_err : (R : LinkReading) (More Then : List R.One → List Entry → Type 0) (h g : List Entry) (side : Side) (failed : Bool)
    (before now : Option (List ℕ)) (taken : ℕ) (result : Result Bool OutOfMemory) → IsErr result → g ≡ h → LinkEndsBy R Then h before now
    → LinkTurnBy R More Then result g side failed before now taken
linked_err R More Then h g side failed before now taken (Ok x) i e k = absurd (cc)
linked_err R More Then h g side failed before now taken (Err x) i e k = let P : List Entry → Type 0 = λ z. LinkEndsBy R Then z before now in subst P (sym e) k
