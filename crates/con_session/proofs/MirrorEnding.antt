-- What a session with a second terminal leaves behind at its end.
use Rattle.std.proofs.Common.{◌≡◌, ◌⊎◌, ℕ, Bool, true, false, List, [], length, Option, None, refl, sym, ap, ◌∙◌, subst, inl, inr}
use Rattle.con_link.specs.LinkReading.{mirrored}
use Rattle.con_paint.specs.Painter.{Kept}
use Rattle.con_events.specs.Session.{Clients}
use Rattle.con_events.specs.declared.end.End.{End}
use Rattle.con_events.specs.declared.end.End.TheVariants as ends
use Rattle.con_events.specs.declared.entry.Entry.{Entry}
use Rattle.con_events.specs.declared.reply.Reply.{Reply}
use Rattle.con_events.specs.declared.script.Script.{Script}
use Rattle.con_machine.specs.Follows.{session_start}
use Rattle.con_laws.specs.Rounds.{Begun, is_memory}
use Rattle.con_machine.specs.State.{State}
use Rattle.con_machine.specs.Turns.{paints}
use Rattle.con_actors.specs.Outcome.{IsOutcomeBy}
use Rattle.con_actors.specs.Seats.{AllStandBy, AllFollow}
use Rattle.con_actors.specs.Second.{IsMirrorOutcome, Mirrors}
use Rattle.con_actors.specs.Words.Second.{Seconded}
use Rattle.con_session.proofs.SecondLaws.{second_begins}
use Rattle.con_actors.specs.Words.Sender.{FailsBy}
use Rattle.con_actors.specs.Solo.{Moment, GoesBy, AllIdle, StopsBy, begins, end_by}
use Rattle.con_actors.specs.declared.outcome.Outcome.{Outcome}
use Rattle.con_session.proofs.Ending.{handed_none, handed_stops, handed_whole}
use Rattle.con_session.proofs.Mirroring.{Lacks, ends_by}

-- at a session's beginning no second terminal is attached
pub open_second : (s : State) (ended : Bool) (kept : Option Kept) (es : List ℕ) (end : ℕ) (was : Option (List ℕ)) (lost : Bool)
    → ended ≡ false → kept ≡ None → (es ≡ []) × (end ≡ 0) → lost ≡ false → Seconded s ended kept es end was was lost [] []
open_second s ended kept es end was lost d k (e, n) l =
    let P0 : Bool → Type 0 = λ z. Seconded s z None [] 0 was was false [] [] in
    let P1 : Option Kept → Type 0 = λ z. Seconded s ended z [] 0 was was false [] [] in
    let P2 : List ℕ → Type 0 = λ z. Seconded s ended kept z 0 was was false [] [] in
    let P3 : ℕ → Type 0 = λ z. Seconded s ended kept es z was was false [] [] in
    let P4 : Bool → Type 0 = λ z. Seconded s ended kept es end was was z [] [] in
    subst P4 (sym l) (subst P3 (sym n) (subst P2 (sym e) (subst P1 (sym k) (subst P0 (sym d) ([], second_begins s was)))))

-- as it is handed out
handed_beside : (session : Clients) (racks : List (List ℕ)) (o p : Outcome) (seconds xs : List ℕ) (lost was' : Bool) (memory : Bool)
    (before left old now was written : Option (List ℕ)) → o ≡ p → seconds ≡ xs → lost ≡ was' → is_memory p.end ≡ memory
    → IsOutcomeBy mirrored (λ frames g. Mirrors (session_start session racks) frames session.size xs was written was' memory g) session racks p.entries
    p.replies p.ends p.end before left old now
    → IsMirrorOutcome session racks o.entries o.replies o.ends o.end seconds lost before left old now was written
handed_beside session racks o p seconds xs lost was' memory before left old now was written i e l m k =
    let P : List ℕ → Bool → Bool → Type 0 = λ x b c. IsOutcomeBy mirrored (λ frames g. Mirrors (session_start session racks) frames session.size x was written b c g)
    session racks p.entries p.replies p.ends p.end before left old now in
    let P0 : List ℕ → Type 0 = λ z. P z was' memory in
    let P1 : Bool → Type 0 = λ z. P seconds z memory in
    let P2 : Bool → Type 0 = λ z. P seconds lost z in
    let P3 : Outcome → Type 0 = λ z. IsMirrorOutcome session racks z.entries z.replies z.ends z.end seconds lost before left old now was written in
    subst P3 (sym i) (subst P2 (sym m) (subst P1 (sym l) (subst P0 (sym e) k)))

-- there was no memory to begin with
pub mirror_none : (session : Clients) (racks : List (List ℕ)) (before old was : Option (List ℕ)) (o p : Outcome) (seconds xs : List ℕ) (lost was' : Bool)
    → o ≡ p → p.entries ≡ [] → p.replies ≡ [] → p.ends ≡ [] → p.end ≡ ends.Memory
    → seconds ≡ xs → xs ≡ [] → lost ≡ was' → was' ≡ false
    → IsMirrorOutcome session racks o.entries o.replies o.ends o.end seconds lost before before old old was was
mirror_none session racks before old was o p seconds xs lost was' i eh er ee en e e' l l' =
    let s = session_start session racks in
    handed_beside session racks o p seconds [] lost false true before before old old was was i (e ∙ e') (l ∙ l') (ap is_memory en)
    (handed_none mirrored (Lacks s session.size [] was was false) session racks before old p.entries p.replies p.ends p.end eh er ee en
    (ends_by s false None [] 0 was was false true session.size [] [] ([], second_begins s was)))

-- nobody has anything left to do
pub mirror_whole : (session : Clients) (racks : List (List ℕ)) (scripts : List Script) (before old was : Option (List ℕ)) (m : Moment) (ended : Bool)
    (kept : Option Kept) (es : List ℕ) (upto : ℕ) (now : Option (List ℕ)) (lost : Bool) (o p : Outcome) (seconds : List ℕ) (lost' : Bool) (other : End)
    → ((f : Option ℕ) → FailsBy m.failed f (paints m.entries) → GoesBy mirrored (Seconded (session_start session racks) ended kept es upto was now lost)
    (begins session racks f) scripts before old m × AllIdle (begins session racks f) m.entries)
    → o ≡ p → p.entries ≡ m.entries → p.replies ≡ m.replies → p.ends ≡ m.ends → p.end ≡ other → other ≡ end_by m.failed m.side.end
    → ((b : Begun) (s : State) (g : List Entry) → AllStandBy b s g scripts m.workers m.places m.memories m.slots → AllFollow b g (length scripts))
    → seconds ≡ es → lost' ≡ lost
    → IsMirrorOutcome session racks o.entries o.replies o.ends o.end seconds lost' before m.left old m.written was now
mirror_whole session racks scripts before old was m ended kept es upto now lost o p seconds lost' other all i eh er ee en eo follow e l =
    let s = session_start session racks in
    handed_beside session racks o p seconds es lost' lost (is_memory p.end) before m.left old m.written was now i e l refl
    (handed_whole mirrored (Seconded s ended kept es upto was now lost) (λ frames g. Mirrors s frames session.size es was now lost (is_memory p.end) g)
    session racks scripts before old m p.entries p.replies p.ends p.end other all eh er ee en eo follow
    (λ fs q. ends_by s ended kept es upto was now lost (is_memory p.end) session.size fs m.entries q))

-- there was no memory
pub mirror_stopped : (session : Clients) (racks : List (List ℕ)) (before old left written was now : Option (List ℕ)) (failed : Bool) (es : List ℕ)
    (lost : Bool) (o p : Outcome) (g : List Entry) (qs : List Reply) (xs seconds : List ℕ) (lost' : Bool)
    → ((f : Option ℕ) → FailsBy failed f (paints g)
    → StopsBy mirrored (Lacks (session_start session racks) session.size es was now lost) (begins session racks f) before old g qs xs left written failed)
    → o ≡ p → p.entries ≡ g → p.replies ≡ qs → p.ends ≡ xs → p.end ≡ ends.Memory → seconds ≡ es → lost' ≡ lost
    → IsMirrorOutcome session racks o.entries o.replies o.ends o.end seconds lost' before left old written was now
mirror_stopped session racks before old left written was now failed es lost o p g qs xs seconds lost' all i eh er ee en e l =
    handed_beside session racks o p seconds es lost' lost true before left old written was now i e l (ap is_memory en)
    (handed_stops mirrored (Lacks (session_start session racks) session.size es was now lost) session racks before old left written failed p.entries g
    p.replies qs p.ends xs p.end all eh er ee en)

-- ---- why it ended, and what failed

pub link_cause : (P : Type 0) (failed : Bool) (was now end other : End)
    → was ≡ ends.Done → (now ≡ ends.Link → (was ≡ ends.Link) ⊎ P) → end ≡ other → other ≡ end_by failed now → end ≡ ends.Link → P
link_cause P true was now end other d f e o l = absurd (let z : ends.Term ≡ ends.Link = sym o ∙ (sym e ∙ l) in cc)
link_cause P false was now end other d f e o l = elim (f (sym o ∙ (sym e ∙ l))) [ inl x ↦ absurd (let z : ends.Done ≡ ends.Link = sym d ∙ x in cc) | inr p ↦ p ]

pub no_link : (P : Type 0) (end : End) → end ≡ ends.Memory → end ≡ ends.Link → P
no_link P end e l = absurd (let z : ends.Memory ≡ ends.Link = sym e ∙ l in cc)

pub no_term : (P : Type 0) (end : End) → end ≡ ends.Memory → end ≡ ends.Term → P
no_term P end e l = absurd (let z : ends.Memory ≡ ends.Term = sym e ∙ l in cc)

pub none_failed : (P : Type 0) (failed was : Bool) → failed ≡ was → was ≡ false → failed ≡ true → P
none_failed P failed was e w t = absurd (let z : false ≡ true = sym w ∙ (sym e ∙ t) in cc)
