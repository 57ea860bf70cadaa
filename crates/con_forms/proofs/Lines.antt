-- The lines of a legal history are lines of a report.
use Rattle.std.proofs.Common.{◌≡◌, refl, sym, subst, ap, ◌∙◌, arith, ℕ, suc, ◌<◌, ◌≤◌, Bool, true, false, List, [], ◌∷◌, length, map, nat_lt, nat_le}
use Rattle.std.specs.Prelude.{◌&&◌, ◌||◌, if◌then◌else◌}
use Rattle.std.proofs.lemmas.Bool.{cond_both, and_parts}
use Rattle.std.proofs.lemmas.Bool.Decides.{nat_tests}
use Rattle.con_units.specs.Attr.{plain}
use Rattle.con_units.specs.Glyph.{Glyph, cell_of}
use Rattle.con_events.specs.declared.actor.Actor.{Actor}
use Rattle.con_events.specs.declared.actor.Actor.TheVariants as actor
use Rattle.con_events.specs.declared.entry.Entry.{Entry}
use Rattle.con_events.specs.declared.event.Event.{Event}
use Rattle.con_events.specs.declared.event.Event.TheVariants as event
use Rattle.con_events.specs.declared.reply.Reply.{Reply}
use Rattle.con_events.specs.declared.reply.Reply.TheVariants as reply
use Rattle.con_machine.specs.Follows.{are_of_session, is_one_of}
use Rattle.con_machine.specs.History.{is_legal}
use Rattle.con_machine.specs.State.{State}
use Rattle.con_events.specs.Actors.{is_actors}
use Rattle.con_machine.specs.Step.{client_of, is_due, is_outside, is_ready, step}
use Rattle.con_events.specs.declared.form.Form.{Form}
use Rattle.con_lines.specs.declared.said.Said.{Said}
use Rattle.con_lines.specs.Fits.{IsOwn, ReplyFits, refused, is_done as done_fits, is_number, are_fields, number_and_flag, are_sides, are_ids, are_units, are_records, are_cells, are_lines, waited_units, waited_records, is_control, AnswerFits}
use Rattle.con_lines.specs.Words.Fits.{AreRead, LineFits}
use Rattle.con_trace.specs.Report.{said}
use Rattle.con_trace.specs.Words.Report.{AreLines, end_of, ends_behind, pictures, with_picture}
use Rattle.con_forms.specs.Formed.{ArePlain, HasForm, IsPicture, refuses, is_done, has_number, has_fields, has_flag, has_sides, has_ids, has_units, has_records, has_cells, has_lines, waits_for_units, waits_for_records, has_control, reported}
use Rattle.con_forms.specs.Kept.{ActorKeeps, AreCells, EndsKeep, EntriesKeep, EntryKeeps, RepliesKeep, ReplyKeeps}
use Rattle.con_forms.specs.Told.{has_end, is_told, told}
use Rattle.con_forms.specs.Laws.{AllAreTold, AnswerHasForm, AreSaid, EachIsTold, HistoriesFit, answers}
use Rattle.con_trace.proofs.Tells.{pictures_are_paints}
use Rattle.con_forms.proofs.Answered.{answers_have_forms}

-- ---- an answer

cells_read : (gs : List Glyph) → ArePlain gs → AreCells gs → AreRead gs
cells_read [] p k = tt
cells_read (g ∷ gs) p k =
    let one : cell_of g.unit (plain g.attr.word) ≡ g = λ i. record { unit = k.0 i; attr = record { word = k.1 i; fore = sym p.0 i; back = sym p.1 i } } in
    (one, cells_read gs p.2 k.2)

fits : (f : Form) (r : Reply) → HasForm f r → ReplyKeeps (reported r) → ReplyFits f (reported r)
fits _ _ (refuses f c) k = refused f c
fits _ _ is_done k = done_fits
fits _ _ (has_number n) k = is_number n k
fits _ _ (has_fields n zs e) k = are_fields n zs e k
fits _ _ (has_flag z b) k = number_and_flag z b k.0
fits _ _ (has_sides zs e) k = are_sides zs e k
fits _ _ (has_ids zs) k = are_ids zs k
fits _ _ (has_units us) k = are_units us k
fits _ _ (has_records rs) k = are_records rs k
fits _ _ (has_cells r gs p) k = are_cells r gs k.0 k.1 (cells_read gs p k.2)
fits _ _ (has_lines ls) k = are_lines ls k
fits _ _ (waits_for_units us) k = waited_units us k
fits _ _ (waits_for_records rs) k = waited_records rs k
fits _ _ (has_control n) k = is_control n k

counts_as_done : (r : Reply) → IsPicture r → reported r ≡ reply.Done
counts_as_done (reply.View v marks fresh) h = refl
counts_as_done other h = absurd h

answer_fits : (e : Event) (r : Reply) (ns : List ℕ) → AnswerHasForm e r → ReplyKeeps (reported r) → EndsKeep ns → has_end e ns ≡ true → AnswerFits e (reported r) (end_of e ns)
answer_fits event.Paint r [] h k n p = absurd (cc)
answer_fits event.Paint r (m ∷ ns) h k n p = (counts_as_done r h, n.0)
answer_fits (event.Call c) r ns h k n p = (fits _ r h k, refl)
answer_fits (event.Begin w) r ns h k n p = (fits _ r h k, refl)
answer_fits event.Collect r ns h k n p = (fits _ r h k, refl)
answer_fits event.TakeCtrl r ns h k n p = (fits _ r h k, refl)
answer_fits (event.Exit s) r ns h k n p = (fits _ r h k, refl)
answer_fits (event.Feed bs) r ns h k n p = (fits _ r h k, refl)
answer_fits event.Quiet r ns h k n p = (fits _ r h k, refl)
answer_fits (event.Resize s) r ns h k n p = (fits _ r h k, refl)
answer_fits event.Ask r ns h k n p = (fits _ r h k, refl)
answer_fits event.Hangup r ns h k n p = (fits _ r h k, refl)
answer_fits event.Drained r ns h k n p = (fits _ r h k, refl)

-- ---- whose event it is

from_one : (p n : ℕ) → (nat_lt 0 p && nat_le p n) ≡ true → 0 < p
from_one p n h = let k = (and_parts (nat_lt 0 p) (nat_le p n) h).0 in grind (arith, nat_tests)

own : (n : ℕ) (a : Actor) (e : Event) → is_actors a e ≡ true → is_one_of n a ≡ true → ActorKeeps a → IsOwn a e
own n (actor.Client p) e h o k = (from_one p n o, k, h)
own n actor.Terminal e h o k = h
own n actor.Painter e h o k = h

actors_own : (s : State) (a : Actor) (e : Event) → is_ready s a e ≡ true → is_actors a e ≡ true
unfolding is_ready
actors_own s a e h = (and_parts (is_actors a e) (is_outside s a e || is_due s (client_of a) e) h).0

-- ---- a line

line_fits : (s : State) (n : ℕ) (x : Entry) (ns : List ℕ) → is_ready s x.actor x.event ≡ true → is_one_of n x.actor ≡ true → EntryKeeps x
    → ReplyKeeps (reported (step s x.actor x.event).reply) → EndsKeep ns → has_end x.event ns ≡ true
    → LineFits x (reported (step s x.actor x.event).reply) (end_of x.event ns)
line_fits s n x ns ready one kept answer lengths has = record {
  own = own n x.actor x.event (actors_own s x.actor x.event ready) one kept.0;
  event = kept.1;
  answer = answer_fits x.event (step s x.actor x.event).reply ns (answers_have_forms s x.actor x.event) answer lengths has;
}

behind_keeps : (e : Event) (ns : List ℕ) → EndsKeep ns → EndsKeep (ends_behind e ns)
behind_keeps event.Paint [] k = tt
behind_keeps event.Paint (n ∷ ns) k = k.1
behind_keeps other ns k = k

lines_fit : (s : State) (n : ℕ) (h : List Entry) (ns : List ℕ) → is_legal s h ≡ true → are_of_session n h ≡ true → EntriesKeep h → RepliesKeep (answers s h) → EndsKeep ns
    → AreLines (told h (answers s h) ns)
lines_fit s n [] ns legal session kept answer lengths = tt
lines_fit s n (x ∷ xs) ns legal session kept answer lengths =
    let now = (and_parts (is_ready s x.actor x.event) (is_legal (step s x.actor x.event).after xs) legal) in
    let one = (and_parts (is_one_of n x.actor) (are_of_session n xs) session) in
    let first : Said = record { entry = x; reply = reported (step s x.actor x.event).reply; end = end_of x.event ns } in
    let t = (step s x.actor x.event).after in
    cond_both (has_end x.event ns) (first ∷ told xs (answers t xs) (ends_behind x.event ns)) [] AreLines
    (λ h. (line_fits s n x ns now.0 one.0 kept.0 answer.0 lengths h, lines_fit t n xs (ends_behind x.event ns) now.1 one.1 kept.1 answer.1 (behind_keeps x.event ns lengths))) (λ h. tt)

-- ---- all of them

same_length : (ss : List Said) → length (map (λ s. s.reply) ss) ≡ length (map (λ s. s.entry) ss)
same_length [] = refl
same_length (s ∷ ss) = ap suc (same_length ss)

as_many : (s : State) (h : List Entry) → length (answers s h) ≡ length h
as_many s [] = refl
as_many s (x ∷ xs) = ap suc (as_many (step s x.actor x.event).after xs)

fewer_behind : (e : Event) (ns : List ℕ) (k : ℕ) → length ns ≤ with_picture e k → length (ends_behind e ns) ≤ k
fewer_behind event.Paint [] k h = omega arith
fewer_behind event.Paint (n ∷ ns) k h = omega (arith, h)
fewer_behind other ns k h = h

one_more : (e : Event) (ns : List ℕ) (k : ℕ) → has_end e ns ≡ true → length (ends_behind e ns) ≡ k → length ns ≡ with_picture e k
one_more event.Paint [] k h e = absurd (cc)
one_more event.Paint (n ∷ ns) k h e = ap suc e
one_more other ns k h e = e

none_left : (e : Event) (ns : List ℕ) → has_end e ns ≡ false → length ns ≡ 0
none_left event.Paint [] h = refl
none_left event.Paint (n ∷ ns) h = absurd (cc)
none_left other ns h = absurd (cc)

shown : (h : List Entry) (rs : List Reply) (ns : List ℕ) → length rs ≡ length h → length ns ≤ pictures h → length ns ≡ pictures (map (λ s. s.entry) (told h rs ns))
shown [] rs ns l k = (let e : length ns ≤ 0 = k in let is : length ns ≡ 0 = omega (arith, e) in is)
shown (x ∷ xs) [] ns l k = absurd (omega (arith, l))
shown (x ∷ xs) (r ∷ rs) ns l k =
    let first : Said = record { entry = x; reply = r; end = end_of x.event ns } in
    let more = shown xs rs (ends_behind x.event ns) (omega (arith, l)) (fewer_behind x.event ns (pictures xs) k) in
    cond_both (has_end x.event ns) (first ∷ told xs rs (ends_behind x.event ns)) [] (λ ss. length ns ≡ pictures (map (λ s. s.entry) ss))
    (λ h. one_more x.event ns _ h more) (λ h. none_left x.event ns h)

pub said_again : AreSaid
said_again [] rs ns = refl
said_again (x ∷ xs) [] ns = refl
said_again (x ∷ xs) (r ∷ rs) ns =
    let first : Said = record { entry = x; reply = r; end = end_of x.event ns } in
    cond_both (has_end x.event ns) (first ∷ told xs rs (ends_behind x.event ns)) [] (λ ss. said (map (λ s. s.entry) ss) (map (λ s. s.reply) ss) ns ≡ ss)
    (λ h. ap (λ ss. first ∷ ss) (said_again xs rs (ends_behind x.event ns))) (λ h. refl)

pub histories_fit : HistoriesFit
histories_fit s n h ns end legal session kept few = record {
  answered = same_length (told h (answers s h) ns);
  shown = shown h (answers s h) ns (as_many s h) few ∙ pictures_are_paints (map (λ s. s.entry) (told h (answers s h) ns));
  lines = subst AreLines (sym (said_again h (answers s h) ns)) (lines_fit s n h ns legal session kept.entries kept.replies kept.ends);
}

-- ---- where each picture has its length

entries_told : (h : List Entry) (rs : List Reply) (ns : List ℕ) → length rs ≡ length h → is_told h rs ns ≡ true → map (λ s. s.entry) (told h rs ns) ≡ h
entries_told [] rs ns l t = refl
entries_told (x ∷ xs) [] ns l t = absurd (omega (arith, l))
entries_told (x ∷ xs) (r ∷ rs) ns l t =
    let p = and_parts (has_end x.event ns) (is_told xs rs (ends_behind x.event ns)) t in
    let first : Said = record { entry = x; reply = r; end = end_of x.event ns } in
    ap (λ (b : Bool). map (λ s. s.entry) (if b then first ∷ told xs rs (ends_behind x.event ns) else [])) p.0
    ∙ ap (λ ys. x ∷ ys) (entries_told xs rs (ends_behind x.event ns) (omega (arith, l)) p.1)

replies_told : (h : List Entry) (rs : List Reply) (ns : List ℕ) → length rs ≡ length h → is_told h rs ns ≡ true → map (λ s. s.reply) (told h rs ns) ≡ rs
replies_told [] [] ns l t = refl
replies_told [] (r ∷ rs) ns l t = absurd (omega (arith, l))
replies_told (x ∷ xs) [] ns l t = absurd (omega (arith, l))
replies_told (x ∷ xs) (r ∷ rs) ns l t =
    let p = and_parts (has_end x.event ns) (is_told xs rs (ends_behind x.event ns)) t in
    let first : Said = record { entry = x; reply = r; end = end_of x.event ns } in
    ap (λ (b : Bool). map (λ s. s.reply) (if b then first ∷ told xs rs (ends_behind x.event ns) else [])) p.0
    ∙ ap (λ ys. r ∷ ys) (replies_told xs rs (ends_behind x.event ns) (omega (arith, l)) p.1)

pub all_are_told : AllAreTold
all_are_told h rs ns l t =
    let entries = entries_told h rs ns l t in
    let replies = replies_told h rs ns l t in
    λ i. record { entries = entries i; replies = replies i; ends = ns }

picture_has : (e : Event) (ns : List ℕ) (k : ℕ) → length ns ≡ with_picture e k → has_end e ns ≡ true
picture_has event.Paint [] k h = absurd (omega (arith, h))
picture_has event.Paint (n ∷ ns) k h = refl
picture_has other ns k h = refl

picture_behind : (e : Event) (ns : List ℕ) (k : ℕ) → length ns ≡ with_picture e k → length (ends_behind e ns) ≡ k
picture_behind event.Paint [] k h = absurd (omega (arith, h))
picture_behind event.Paint (n ∷ ns) k h = omega (arith, h)
picture_behind other ns k h = h

pub each_is_told : EachIsTold
each_is_told [] rs ns l k = refl
each_is_told (x ∷ xs) [] ns l k = absurd (omega (arith, l))
each_is_told (x ∷ xs) (r ∷ rs) ns l k =
    ap (λ (b : Bool). b && is_told xs rs (ends_behind x.event ns)) (picture_has x.event ns (pictures xs) k)
    ∙ each_is_told xs rs (ends_behind x.event ns) (omega (arith, l)) (picture_behind x.event ns (pictures xs) k)
