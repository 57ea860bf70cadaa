-- The second terminal behind one more entry.
use Rattle.std.proofs.Common.{◌≡◌, ℕ, zero, suc, Result, Ok, Err, ◌+◌, ◌*◌, ◌≤◌, Bool, true, false, List, [], ◌∷◌, ◌++◌, length, append-nil}
use Rattle.std.proofs.Common.{take, Option, Some, None, refl, sym, ap, ◌∙◌, subst, append_assoc, arith, length-append, inl, inr}
use Rattle.std.specs.Prelude.{◌<◌, is_some, if◌then◌else◌}
use Rattle.std.specs.List.{zip, AllByRecursion}
use Rattle.std.specs.Result.{IsErr}
use Rattle.std.proofs.lemmas.List.{take-append-le}
use Rattle.con_units.specs.Glyph.{Glyph}
use Rattle.con_units.specs.declared.code.OutOfMemory.{OutOfMemory}
use Rattle.con_units.specs.declared.place.Size.{Size}
use Rattle.con_units.specs.declared.view.View.{View}
use Rattle.con_units.specs.declared.view.Sight.{Sight}
use Rattle.con_units.specs.declared.view.Sight.TheVariants as sights
use Rattle.con_units.specs.declared.view.Frame.TheVariants as frames
use Rattle.con_outside.specs.Outside.{then_written}
use Rattle.con_outside.specs.Laws.{then_written-none}
use Rattle.con_link.specs.Words.Mirrored.{as_plain}
use Rattle.con_link.specs.declared.mirror.MirrorFrame.{MirrorFrame}
use Rattle.con_link.specs.declared.mirror.MirrorFrame.TheVariants.{Plain, Attach, Detach}
use Rattle.con_term.specs.Play.{play, printed}
use Rattle.con_term.specs.Terminal.{Terminal}
use Rattle.con_strokes.specs.Compared.{differing, IsLifted}
use Rattle.con_paint.specs.Painter.{Kept, Allows, Paints, IsShown, unpainted}
use Rattle.con_mirror.specs.Part.{part}
use Rattle.con_mirror.specs.Mirror.{at_size, size_in}
use Rattle.con_events.specs.declared.actor.Actor.TheVariants as actors
use Rattle.con_events.specs.declared.entry.Entry.{Entry}
use Rattle.con_events.specs.declared.event.Event.TheVariants as events
use Rattle.con_machine.specs.Words.Along.{after}
use Rattle.con_machine.specs.Follows.{sent_by}
use Rattle.con_machine.specs.Painting.{view_now}
use Rattle.con_machine.specs.State.{State}
use Rattle.con_machine.specs.History.{run}
use Rattle.con_machine.specs.Turns.{is_terminal, is_paint, paints}
use Rattle.con_actors.specs.CanvasLaws.{joined_more, ends_more, take_all, written_more}
use Rattle.con_actors.specs.Words.Desk.{entry}
use Rattle.con_actors.specs.EndLaws.{stream_run}
use Rattle.con_actors.specs.Painting.{Written}
use Rattle.con_actors.specs.RunLaws.{matched_paint, piece_paint, piece_none, reach_paint, matched_resize, piece_resize, reach_resize}
use Rattle.con_laws.specs.TerminalRuns.{EachRun, ShowsView}
use Rattle.con_actors.specs.Runs.{PrintsFew}
use Rattle.con_actors.specs.Words.Runs.{Painted, EachPiece, joined, ends_from}
use Rattle.con_actors.specs.Watched.{Watch, watch, watched, watched_at, seconds_at, seconds_of, painted_at}
use Rattle.con_actors.specs.Watched.{begun_at, flags_of, attached_by, mirrored_to, begins_by, picked, Stays}
use Rattle.con_session.proofs.SecondsLaws.{seconds-one, flags-one, watched-one, picked-more, picked-same, picked-past, rests-more}
use Rattle.con_session.proofs.SecondsLaws.{rests-past, last-more, flags-count, no_flag, no_sight, frame_begins, frame_at, frame_coming}
use Rattle.con_session.proofs.SecondSame.{seconds_same, flags_same, picked_same, stays_so}
use Rattle.con_actors.specs.Seconds as told
use Rattle.con_actors.specs.Second.{Mirrors}
use Rattle.con_actors.specs.Words.Second.{Shown, PiecesStand, SecondIs, Reflects, FrameOf, SecondTurn, Wrote, kept_by}

-- ---- sights and pieces

-- A begins anew
pub pieces_attach : (ss : List Sight) (kept : Option Kept) (ps : List (List ℕ)) (z : Size) → PiecesStand ss kept ps
    → PiecesStand (ss ++ sights.Resize z ∷ []) (Some (unpainted z.w z.h)) ps
pieces_attach ss kept ps z k = record {
  matched = matched_resize ss ps z k.matched;
  each = λ t. piece_resize Painted t None ss ps z k.matched (k.each t);
  reach = λ q e t u l r. let d = reach_resize t None ss ps z u l k.matched r in
      let P : Kept → Type 0 = λ x. Shown x u l in
      let same : unpainted z.w z.h ≡ q = some_is (unpainted z.w z.h) q e in
      subst P same (record { allowed = record { terminal = d.0; agrees = λ x. absurd (cc) }; none = λ x. d.1; some = λ x. absurd (cc) });
}
  where
    some_is : (a b : Kept) → Some a ≡ Some b → a ≡ b
    some_is a b e = cc

-- D, or another frame
pub pieces_detach : (ss : List Sight) (kept : Option Kept) (ps : List (List ℕ)) → PiecesStand ss kept ps → PiecesStand (ss ++ []) None ps
pieces_detach ss kept ps k =
    let P : List Sight → Type 0 = λ x. PiecesStand x None ps in
    subst P (sym (append-nil ss)) (record { matched = k.matched; each = k.each; reach = λ q e. absurd (none_is q e) })
  where
    none_is : (a : Kept) → None ≡ Some a → ⊥
    none_is a e = cc

pub pieces_still : (ss : List Sight) (kept : Option Kept) (ps : List (List ℕ)) → PiecesStand ss kept ps → PiecesStand (ss ++ []) kept ps
pieces_still ss kept ps k = let P : List Sight → Type 0 = λ x. PiecesStand x kept ps in subst P (sym (append-nil ss)) k

-- what a frame of the mirror does
prints_few : (k after : Kept) (v : View) (bytes : List ℕ) (u : Terminal) (l : Option View) → Shown k u l
    → ((t : Terminal) → Allows k t → Paints k after v bytes t) → (known : Bool) → k.known ≡ known → Painted l v bytes u × Allows after (play u bytes)
prints_few k after v bytes u l r paints false e =
    let p = paints u r.allowed in
    let P : Option View → Type 0 = λ o. Painted o v bytes u in
    (subst P (sym (r.none e)) (record { shows = p.shows; few = p.first e; new_rows = tt }), p.allows)
prints_few k after v bytes u l r paints true e =
    let p = paints u r.allowed in
    let (old, is, cells) = r.some e in
    let P : Option View → Type 0 = λ o. Painted o v bytes u in
    let D : List Glyph → Type 0 = λ c. printed u bytes ≤ v.size.w * differing v.size.w v.size.h v.rows c in
    let L : List Glyph → Type 0 = λ c. (j : ℕ) → 0 < j → j ≤ v.size.h → IsLifted v.size.w v.size.h j v.rows c → printed u bytes ≤ v.size.w * j in
    (subst P (sym is) (record { shows = p.shows; few = subst D (sym cells) (p.few e); new_rows = subst L (sym cells) (p.lifted e) }), p.allows)

-- a mirrored Paint
pub pieces_paint : (ss : List Sight) (k after : Kept) (ps : List (List ℕ)) (v : View) (bytes : List ℕ)
    → ((t : Terminal) → Allows k t → Paints k after v bytes t) → IsShown after v → PiecesStand ss (Some k) ps
    → PiecesStand (ss ++ sights.Paint v ∷ []) (Some after) (ps ++ bytes ∷ [])
pieces_paint ss k after ps v bytes paints shown st = record {
  matched = matched_paint ss ps v bytes st.matched;
  each = λ t. piece_paint Painted t None ss ps v bytes st.matched (st.each t)
      (λ u l r. (prints_few k after v bytes u l (st.reach k refl t u l r) paints k.known refl).0);
  reach = λ q e t u l r. let (x, y, was, is, last) = reach_paint t None ss ps v bytes u l st.matched r in
      let a = (prints_few k after v bytes x y (st.reach k refl t x y was) paints k.known refl).1 in
      let A : Terminal → Type 0 = λ z. Allows after z in
      let P : Kept → Type 0 = λ z. Shown z u l in
      subst P (some_is after q e) (record {
        allowed = subst A (sym is) a;
        none = λ n. absurd (clash after.known n shown.known);
        some = λ n. (v, last, shown.cells);
      });
}
  where
    some_is : (a b : Kept) → Some a ≡ Some b → a ≡ b
    some_is a b e = cc

    clash : (b : Bool) → b ≡ false → b ≡ true → ⊥
    clash b p q = let e : false ≡ true = sym p ∙ q in absurd (cc)

-- ---- entries

-- the watch behind a history, as far as it is known
abbrev now_at : List MirrorFrame → List Entry → Watch
now_at frames h = after watched (watch frames) h

-- what an entry of another one, which is no Paint, changes: nothing
other_at : (w : Watch) (s : State) (x : Entry) (b : Bool) → is_terminal x.actor ≡ b → b ≡ false → is_paint x.event ≡ false
    → (seconds_at w s x ≡ []) × (watched w x ≡ w)
other_at w s x true e n p = absurd (let z = n in cc)
other_at w s x false e n p = (
  ap (λ (c : Bool). if c then begun_at w x.event else painted_at w s x.event) e
      ∙ no_sight w s x.event p,
  ap (λ (c : Bool). if c then watched_at w x.event else w) e,
)

pub second_other : (s : State) (ended : Bool) (kept : Option Kept) (ps : List (List ℕ)) (es : List ℕ) (end : ℕ) (before now : Option (List ℕ))
    (failed : Bool) (fs : List MirrorFrame) (h g : List Entry) (x : Entry) → g ≡ h ++ x ∷ [] → is_terminal x.actor ≡ false → is_paint x.event ≡ false
    → SecondIs s ended kept ps es end before now failed fs h → SecondIs s ended kept ps es end before now failed fs g
second_other s ended kept ps es end before now failed fs h g x e n p k =
    let G : List Entry → Type 0 = λ z. SecondIs s ended kept ps es end before now failed fs z in
    let o : (more : List MirrorFrame) → (seconds_at (now_at (fs ++ more) h) (run s h) x ≡ []) × (watched (now_at (fs ++ more) h) x ≡ now_at (fs ++ more) h)
    = λ more. other_at (now_at (fs ++ more) h) (run s h) x (is_terminal x.actor) refl n p in
    let W : (more : List MirrorFrame) → now_at (fs ++ more) (h ++ x ∷ []) ≡ now_at (fs ++ more) h = λ more. watched-one (watch (fs ++ more)) h x ∙ (o more).1 in
    subst G (sym e) (record {
      sights = k.sights;
      flags = k.flags;
      seconds = λ more. seconds-one (watch (fs ++ more)) s h x ∙ (ap (λ (ss : List Sight). seconds_of (watch (fs ++ more)) s h ++ ss) (o more).0
          ∙ (append-nil (seconds_of (watch (fs ++ more)) s h) ∙ k.seconds more));
      flagged = λ more. flags-one (watch (fs ++ more)) h x ∙ (ap (λ (bs : List Bool). flags_of (watch (fs ++ more)) h ++ bs)
          (no_flag (now_at (fs ++ more) h) x.event p) ∙ (append-nil (flags_of (watch (fs ++ more)) h) ∙ k.flagged more));
      at = λ more. ap (λ (w : Watch). w.at) (W more) ∙ k.at more;
      coming = λ i more. ap (λ (w : Watch). w.coming) (W more) ∙ k.coming i more;
      stands = k.stands;
      written = k.written;
      count = k.count;
      ends' = k.ends';
      rests = k.rests;
      last = k.last;
      end' = k.end';
    })

-- ---- a frame of the link

at_by : (kept : Option Kept) (f : MirrorFrame) → attached_by (at_size kept) (Some f) ≡ at_size (kept_by kept f)
at_by kept (Plain frame) = refl
at_by kept (Attach z) = refl
at_by kept Detach = refl

pieces_by : (ss : List Sight) (kept : Option Kept) (ps : List (List ℕ)) (f : MirrorFrame) → PiecesStand ss kept ps
    → PiecesStand (ss ++ begins_by (Some f)) (kept_by kept f) ps
pieces_by ss kept ps (Plain frame) k = pieces_still ss kept ps k
pieces_by ss kept ps (Attach z) k = pieces_attach ss kept ps z k
pieces_by ss kept ps Detach k = pieces_detach ss kept ps k

one_more : (fs : List MirrorFrame) (f : MirrorFrame) (more : List MirrorFrame) → (fs ++ f ∷ []) ++ more ≡ fs ++ f ∷ more
one_more fs f more = append_assoc fs (f ∷ []) more

no_paint_sent : (f : MirrorFrame) → is_paint (sent_by (as_plain f)) ≡ false
no_paint_sent (Plain (frames.Bytes bytes)) = refl
no_paint_sent (Plain frames.Quiet) = refl
no_paint_sent (Plain (frames.Resize z)) = refl
no_paint_sent (Plain frames.Ask) = refl
no_paint_sent (Plain frames.Hangup) = refl
no_paint_sent (Plain frames.End) = refl
no_paint_sent (Attach z) = refl
no_paint_sent Detach = refl

pub second_frame : (s : State) (later : Bool) (kept : Option Kept) (ps : List (List ℕ)) (es : List ℕ) (end : ℕ) (before now : Option (List ℕ))
    (failed : Bool) (fs : List MirrorFrame) (h g : List Entry) (f : MirrorFrame) → g ≡ h ++ entry actors.Terminal (sent_by (as_plain f)) ∷ []
    → SecondIs s false kept ps es end before now failed fs h → SecondIs s later (kept_by kept f) ps es end before now failed (fs ++ f ∷ []) g
second_frame s later kept ps es end before now failed fs h g f e k =
    let x = entry actors.Terminal (sent_by (as_plain f)) in
    let G : List Entry → Type 0 = λ z. SecondIs s later (kept_by kept f) ps es end before now failed (fs ++ f ∷ []) z in
    let c : (more : List MirrorFrame) → (now_at (fs ++ f ∷ more) h).coming ≡ f ∷ more = λ more. k.coming refl (f ∷ more) in
    let W : (more : List MirrorFrame) → now_at (fs ++ f ∷ more) (h ++ x ∷ []) ≡ watched_at (now_at (fs ++ f ∷ more) h) (sent_by (as_plain f)) =
    λ more. watched-one (watch (fs ++ f ∷ more)) h x in
    subst G (sym e) (record {
      sights = k.sights ++ begins_by (Some f);
      flags = k.flags;
      seconds = λ more. ap (λ (z : List MirrorFrame). seconds_of (watch z) s (h ++ x ∷ [])) (one_more fs f more)
          ∙ (seconds-one (watch (fs ++ f ∷ more)) s h x
          ∙ (ap (λ (ss : List Sight). ss ++ begun_at (now_at (fs ++ f ∷ more) h) (sent_by (as_plain f))) (k.seconds (f ∷ more))
          ∙ ap (λ (ss : List Sight). k.sights ++ ss) (frame_begins (now_at (fs ++ f ∷ more) h) f more (c more))));
      flagged = λ more. ap (λ (z : List MirrorFrame). flags_of (watch z) (h ++ x ∷ [])) (one_more fs f more)
          ∙ (flags-one (watch (fs ++ f ∷ more)) h x ∙ (ap (λ (bs : List Bool). flags_of (watch (fs ++ f ∷ more)) h ++ bs)
          (no_flag (now_at (fs ++ f ∷ more) h) (sent_by (as_plain f)) (no_paint_sent f))
          ∙ (append-nil (flags_of (watch (fs ++ f ∷ more)) h) ∙ k.flagged (f ∷ more))));
      at = λ more. ap (λ (z : List MirrorFrame). (now_at z (h ++ x ∷ [])).at) (one_more fs f more)
          ∙ (ap (λ (w : Watch). w.at) (W more)
          ∙ (frame_at (now_at (fs ++ f ∷ more) h) f more (c more) ∙ (ap (λ (o : Option Size). attached_by o (Some f)) (k.at (f ∷ more)) ∙ at_by kept f)));
      coming = λ i more. ap (λ (z : List MirrorFrame). (now_at z (h ++ x ∷ [])).coming) (one_more fs f more)
          ∙ (ap (λ (w : Watch). w.coming) (W more) ∙ frame_coming (now_at (fs ++ f ∷ more) h) f more (c more));
      stands = pieces_by k.sights kept ps f k.stands;
      written = k.written;
      count = k.count;
      ends' = k.ends';
      rests = k.rests;
      last = k.last;
      end' = k.end';
    })

-- a Hangup that is no frame
pub second_hung : (s : State) (kept : Option Kept) (ps : List (List ℕ)) (es : List ℕ) (end : ℕ) (before now : Option (List ℕ)) (failed : Bool)
    (fs : List MirrorFrame) (h g : List Entry) (ended : Bool) → g ≡ h ++ entry actors.Terminal events.Hangup ∷ []
    → SecondIs s ended kept ps es end before now failed fs h → SecondIs s true kept ps es end before now failed fs g
second_hung s kept ps es end before now failed fs h g ended e k =
    let x = entry actors.Terminal events.Hangup in
    let G : List Entry → Type 0 = λ z. SecondIs s true kept ps es end before now failed fs z in
    subst G (sym e) (record {
      sights = k.sights;
      flags = k.flags;
      seconds = λ more. seconds-one (watch (fs ++ more)) s h x ∙ (append-nil (seconds_of (watch (fs ++ more)) s h) ∙ k.seconds more);
      flagged = λ more. flags-one (watch (fs ++ more)) h x ∙ (append-nil (flags_of (watch (fs ++ more)) h) ∙ k.flagged more);
      at = λ more. ap (λ (w : Watch). w.at) (watched-one (watch (fs ++ more)) h x) ∙ k.at more;
      coming = λ i more. absurd (cc);
      stands = k.stands;
      written = k.written;
      count = k.count;
      ends' = k.ends';
      rests = k.rests;
      last = k.last;
      end' = k.end';
    })

-- ---- a Paint

flag_now : (o : Option Size) (a : Option Kept) → o ≡ at_size a → is_some o ≡ is_some a
flag_now o None e = ap (λ (z : Option Size). is_some z) e
flag_now o (Some k) e = ap (λ (z : Option Size). is_some z) e

-- its sights, its flag, and the watch, which stays
pub record Painted' (s : State) (fs : List MirrorFrame) (h g : List Entry) (ss : List Sight) (bs : List Bool) (kept : Option Kept) : Type 0 where
  pub seconds : (more : List MirrorFrame) → seconds_of (watch (fs ++ more)) s g ≡ ss ++ mirrored_to (at_size kept) (view_now (run s h))
  pub flagged : (more : List MirrorFrame) → flags_of (watch (fs ++ more)) g ≡ bs ++ is_some kept ∷ []
  pub watch' : (more : List MirrorFrame) → now_at (fs ++ more) g ≡ now_at (fs ++ more) h

paint_goes : (s : State) (ended : Bool) (kept : Option Kept) (ps : List (List ℕ)) (es : List ℕ) (end : ℕ) (before now : Option (List ℕ)) (failed : Bool)
    (fs : List MirrorFrame) (h : List Entry)
    → (k : SecondIs s ended kept ps es end before now failed fs h) → Painted' s fs h (h ++ entry actors.Painter events.Paint ∷ []) k.sights k.flags kept
paint_goes s ended kept ps es end before now failed fs h k =
    let x = entry actors.Painter events.Paint in
    record {
      seconds = λ more. seconds-one (watch (fs ++ more)) s h x
          ∙ (ap (λ (o : Option Size). seconds_of (watch (fs ++ more)) s h ++ mirrored_to o (view_now (run s h))) (k.at more)
          ∙ ap (λ (ss : List Sight). ss ++ mirrored_to (at_size kept) (view_now (run s h))) (k.seconds more));
      flagged = λ more. flags-one (watch (fs ++ more)) h x ∙ (ap (λ (b : Bool). flags_of (watch (fs ++ more)) h ++ b ∷ [])
          (flag_now (now_at (fs ++ more) h).at kept (k.at more)) ∙ ap (λ (bs : List Bool). bs ++ is_some kept ∷ []) (k.flagged more));
      watch' = λ more. watched-one (watch (fs ++ more)) h x;
    }

count_more : (bs : List Bool) (es : List ℕ) (b : Bool) (e : ℕ) → length bs ≡ length es → length (bs ++ b ∷ []) ≡ length (es ++ e ∷ [])
count_more bs es b e n = omega (arith, n, length-append bs (b ∷ []), length-append es (e ∷ []))

-- one that is mirrored
pub second_paint : (s : State) (ended : Bool) (k after' : Kept) (v : View) (bytes : List ℕ) (ps : List (List ℕ)) (es more : List ℕ) (end upto : ℕ)
    (before now later : Option (List ℕ)) (was failed : Bool) (fs : List MirrorFrame) (h g : List Entry) → g ≡ h ++ entry actors.Painter events.Paint ∷ []
    → v ≡ view_now (run s h) → ((t : Terminal) → Allows k t → Paints k after' (part v (size_in k)) bytes t)
    → IsShown after' (part v (size_in k)) → after'.w ≡ k.w → after'.h ≡ k.h
    → Written before later (ps ++ bytes ∷ []) failed → upto ≡ end + length bytes → more ≡ es ++ upto ∷ []
    → SecondIs s ended (Some k) ps es end before now was fs h → SecondIs s ended (Some after') (ps ++ bytes ∷ []) more upto before later failed fs g
second_paint s ended k after' v bytes ps es more end upto before now later was failed fs h g e i paints shown wide high w u m st =
    let p = paint_goes s ended (Some k) ps es end before now was fs h st in
    let G : List Entry → Type 0 = λ z. SecondIs s ended (Some after') (ps ++ bytes ∷ []) more upto before later failed fs z in
    let E : List ℕ → Type 0 =
    λ z. SecondIs s ended (Some after') (ps ++ bytes ∷ []) z upto before later failed fs (h ++ entry actors.Painter events.Paint ∷ []) in
    let same : at_size (Some k) ≡ at_size (Some after') = ap (λ (a : ℕ). Some (let z : Size = record { w = a; h = k.h } in z)) (sym wide)
    ∙ ap (λ (a : ℕ). Some (let z : Size = record { w = after'.w; h = a } in z)) (sym high) in
    let j = joined_more ps bytes in
    let total : upto ≡ length (joined (ps ++ bytes ∷ [])) = omega (arith, u, st.end', ap (λ (x : List ℕ). length x) j, length-append (joined ps) bytes) in
    subst G (sym e) (subst E (sym m) (record {
      sights = st.sights ++ sights.Paint (part v (size_in k)) ∷ [];
      flags = st.flags ++ true ∷ [];
      seconds = λ fs'. p.seconds fs' ∙ ap (λ (z : View). st.sights ++ sights.Paint (part z (size_in k)) ∷ []) (sym i);
      flagged = p.flagged;
      at = λ fs'. ap (λ (z : Watch). z.at) (p.watch' fs') ∙ (st.at fs' ∙ same);
      coming = λ n fs'. ap (λ (z : Watch). z.coming) (p.watch' fs') ∙ st.coming n fs';
      stands = pieces_paint st.sights k after' ps (part v (size_in k)) bytes paints shown st.stands;
      written = w;
      count = count_more st.flags es true upto st.count;
      ends' = picked-more st.flags es upto st.count ∙ (ap (λ (x : List ℕ). x ++ upto ∷ []) st.ends' ∙ (ap (λ (z : ℕ). ends_from 0 ps ++ z ∷ [])
          (let q : upto ≡ 0 + length (joined ps) + length bytes = omega (arith, u, st.end') in q) ∙ sym (ends_more 0 ps bytes)));
      rests = rests-more 0 st.flags es true upto st.count st.rests (λ x. absurd (cc));
      last = last-more 0 es upto;
      end' = total;
    }))

-- one that is not: the stream does not grow
pub second_passed : (s : State) (ended : Bool) (ps : List (List ℕ)) (es more : List ℕ) (end : ℕ) (before now : Option (List ℕ)) (failed : Bool)
    (fs : List MirrorFrame) (h g : List Entry) → g ≡ h ++ entry actors.Painter events.Paint ∷ [] → more ≡ es ++ end ∷ []
    → SecondIs s ended None ps es end before now failed fs h → SecondIs s ended None ps more end before now failed fs g
second_passed s ended ps es more end before now failed fs h g e m st =
    let p = paint_goes s ended None ps es end before now failed fs h st in
    let G : List Entry → Type 0 = λ z. SecondIs s ended None ps more end before now failed fs z in
    let E : List ℕ → Type 0 = λ z. SecondIs s ended None ps z end before now failed fs (h ++ entry actors.Painter events.Paint ∷ []) in
    subst G (sym e) (subst E (sym m) (record {
      sights = st.sights;
      flags = st.flags ++ false ∷ [];
      seconds = λ fs'. p.seconds fs' ∙ append-nil st.sights;
      flagged = p.flagged;
      at = λ fs'. ap (λ (z : Watch). z.at) (p.watch' fs') ∙ st.at fs';
      coming = λ n fs'. ap (λ (z : Watch). z.coming) (p.watch' fs') ∙ st.coming n fs';
      stands = st.stands;
      written = st.written;
      count = count_more st.flags es false end st.count;
      ends' = picked-same st.flags es end st.count ∙ st.ends';
      rests = rests-more 0 st.flags es false end st.count st.rests (λ x. sym st.last);
      last = last-more 0 es end;
      end' = st.end';
    }))

-- a frame that is built after a failure is not written
pub written_failed : (before now : Option (List ℕ)) (ps : List (List ℕ)) (p : List ℕ) → Written before now ps true → Written before now (ps ++ p ∷ []) true
written_failed before now ps p w =
    let j = joined_more ps p in
    record {
      count = w.count;
      most = omega (arith, w.most, ap (λ (x : List ℕ). length x) j, length-append (joined ps) p);
      front = w.front
          ∙ ap (λ (x : List ℕ). then_written before x) (sym (take-append-le w.count (joined ps) p w.most) ∙ ap (λ (x : List ℕ). take w.count x) (sym j));
      whole = λ x. absurd (cc);
    }

-- ---- the beginning and the end

pub second_begins : (s : State) (before : Option (List ℕ)) → SecondIs s false None [] [] 0 before before false [] []
second_begins s before = record {
  sights = [];
  flags = [];
  seconds = λ more. refl;
  flagged = λ more. refl;
  at = λ more. refl;
  coming = λ n more. refl;
  stands = record { matched = tt; each = λ t. tt; reach = λ k e. absurd (none_is k e) };
  written = record { count = 0; most = omega arith; front = then_written-none before; whole = λ x. refl };
  count = refl;
  ends' = refl;
  rests = tt;
  last = refl;
  end' = refl;
}
  where
    none_is : (a : Kept) → None ≡ Some a → ⊥
    none_is a e = cc

runs : (claim : Option View → View → List ℕ → Terminal → Type 0) → ((l : Option View) (v : View) (p : List ℕ) (t : Terminal) → Painted l v p t → claim l v p t)
    → (size : Size) (ss zs : List Sight) (ps : List (List ℕ)) (es : List ℕ) (n : ℕ) → ss ≡ zs → es ≡ ends_from 0 ps
    → ((t : Terminal) → EachPiece Painted t None zs ps)
    → EachRun claim size (take n (joined ps)) ss es
runs claim f size ss zs ps es n e i k =
    let P : List Sight → Type 0 = λ z. EachRun claim size (take n (joined ps)) z es in subst P (sym e) (stream_run claim f size zs ps n es i (λ t j. k t))

run_same : (claim : Option View → View → List ℕ → Terminal → Type 0) (size : Size) (stream : List ℕ) (a b : List Sight) (x y : List ℕ) → a ≡ b → x ≡ y
    → EachRun claim size stream a x → EachRun claim size stream b y
run_same claim size stream a b x y e f k =
    let A : List Sight → Type 0 = λ z. EachRun claim size stream z x in
    let X : List ℕ → Type 0 = λ z. EachRun claim size stream b z in subst X f (subst A e k)

-- what is walked is what is promised
mirrors_so : (s : State) (fs : List MirrorFrame) (size : Size) (es : List ℕ) (before now : Option (List ℕ)) (failed memory : Bool) (h : List Entry)
    → Reflects s fs size es before now failed memory h → Mirrors s fs size es before now failed memory h
mirrors_so s fs size es before now failed memory h k =
    let ss : seconds_of (watch fs) s h ≡ told.seconds_of fs s h = seconds_same fs s h in
    let bs : flags_of (watch fs) h ≡ told.flags_of fs s h = flags_same fs s h in
    let ps : picked (flags_of (watch fs) h) es ≡ told.picked (told.flags_of fs s h) es =
    ap (λ (z : List Bool). picked z es) bs ∙ picked_same (told.flags_of fs s h) es in
    let A : List Bool → Type 0 = λ z. AllByRecursion (λ p. p.0 ≡ false → p.1.1 ≡ p.1.0) (zip z (zip (0 ∷ es) es)) in record {
      built = k.built;
      long = k.long;
      front = k.front;
      all' = k.all';
      ends' = k.ends';
      but_last = k.but_last;
      rests = subst A bs (stays_so 0 (flags_of (watch fs) h) es k.rests);
      shows = λ n. run_same ShowsView size (take n k.built) (seconds_of (watch fs) s h) (told.seconds_of fs s h) (picked (flags_of (watch fs) h) es)
          (told.picked (told.flags_of fs s h) es) ss ps (k.shows n);
      few = λ n. run_same PrintsFew size (take n k.built) (seconds_of (watch fs) s h) (told.seconds_of fs s h) (picked (flags_of (watch fs) h) es)
          (told.picked (told.flags_of fs s h) es) ss ps (k.few n);
    }

pub second_ends : (s : State) (ended : Bool) (kept : Option Kept) (ps : List (List ℕ)) (es : List ℕ) (end : ℕ) (before now : Option (List ℕ))
    (failed failed' memory : Bool) (size : Size) (fs : List MirrorFrame) (h : List Entry) → (failed' ≡ false → memory ≡ false → failed ≡ false)
    → SecondIs s ended kept ps es end before now failed fs h → Mirrors s fs size es before now failed' memory h
second_ends s ended kept ps es end before now failed failed' memory size fs h fine k =
    let ss : seconds_of (watch fs) s h ≡ k.sights = ap (λ (z : List MirrorFrame). seconds_of (watch z) s h) (sym (append-nil fs)) ∙ k.seconds [] in
    let bs : flags_of (watch fs) h ≡ k.flags = ap (λ (z : List MirrorFrame). flags_of (watch z) h) (sym (append-nil fs)) ∙ k.flagged [] in
    let es' : picked (flags_of (watch fs) h) es ≡ ends_from 0 ps = ap (λ (z : List Bool). picked z es) bs ∙ k.ends' in
    let R : List Bool → Type 0 = λ z. Stays 0 z es in
    mirrors_so s fs size es before now failed' memory h (record {
      built = joined ps;
      long = sym (k.last ∙ k.end');
      front = (k.written.count, k.written.most, k.written.front);
      all' = λ n m. k.written.front
          ∙ ap (λ (x : List ℕ). then_written before x) (ap (λ (c : ℕ). take c (joined ps)) (k.written.whole (fine n m)) ∙ take_all (joined ps));
      ends' = λ m. sym k.count ∙ (ap length (sym bs) ∙ flags-count (watch fs) h);
      but_last = inl (sym k.count ∙ (ap length (sym bs) ∙ flags-count (watch fs) h));
      rests = subst R (sym bs) k.rests;
      shows =
          λ n. runs ShowsView (λ l v p t x. x.shows) size (seconds_of (watch fs) s h) k.sights ps (picked (flags_of (watch fs) h) es) n ss es' k.stands.each;
      few = λ n. runs PrintsFew (λ l v p t x. x.few) size (seconds_of (watch fs) s h) k.sights ps (picked (flags_of (watch fs) h) es) n ss es' k.stands.each;
    })

-- a Paint was entered that has no end, for want of memory
pub second_past : (s : State) (ended : Bool) (kept : Option Kept) (ps : List (List ℕ)) (es : List ℕ) (end : ℕ) (before now : Option (List ℕ))
    (failed failed' : Bool) (size : Size) (fs : List MirrorFrame) (h g : List Entry) → g ≡ h ++ entry actors.Painter events.Paint ∷ []
    → SecondIs s ended kept ps es end before now failed fs h → Mirrors s fs size es before now failed' true g
second_past s ended kept ps es end before now failed failed' size fs h g e k =
    let x = entry actors.Painter events.Paint in
    let G : List Entry → Type 0 = λ z. Mirrors s fs size es before now failed' true z in
    let p = paint_goes s ended kept ps es end before now failed fs h k in
    let ss : seconds_of (watch fs) s (h ++ x ∷ []) ≡ k.sights ++ mirrored_to (at_size kept) (view_now (run s h)) =
    ap (λ (z : List MirrorFrame). seconds_of (watch z) s (h ++ x ∷ [])) (sym (append-nil fs)) ∙ p.seconds [] in
    let bs : flags_of (watch fs) (h ++ x ∷ []) ≡ k.flags ++ is_some kept ∷ [] =
    ap (λ (z : List MirrorFrame). flags_of (watch z) (h ++ x ∷ [])) (sym (append-nil fs)) ∙ p.flagged [] in
    let es' : picked (flags_of (watch fs) (h ++ x ∷ [])) es ≡ ends_from 0 ps = ap (λ (z : List Bool). picked z es) bs
    ∙ (picked-past k.flags (is_some kept) es k.count ∙ k.ends') in
    let each : (t : Terminal) → EachPiece Painted t None (k.sights ++ mirrored_to (at_size kept) (view_now (run s h))) ps =
    λ t. past kept k.sights ps t (view_now (run s h)) k.stands in
    let R : List Bool → Type 0 = λ z. Stays 0 z es in
    subst G (sym e) (mirrors_so s fs size es before now failed' true (h ++ x ∷ []) (record {
      built = joined ps;
      long = sym (k.last ∙ k.end');
      front = (k.written.count, k.written.most, k.written.front);
      all' = λ n m. absurd (cc);
      ends' = λ m. absurd (cc);
      but_last =
          inr (omega (arith, k.count, length-append k.flags (is_some kept ∷ []), ap (λ (z : List Bool). length z) bs, flags-count (watch fs) (h ++ x ∷ [])));
      rests = subst R (sym bs) (rests-past 0 k.flags (is_some kept) es k.count k.rests);
      shows = λ n. runs ShowsView (λ l v q t y. y.shows) size (seconds_of (watch fs) s (h ++ x ∷ []))
          (k.sights ++ mirrored_to (at_size kept) (view_now (run s h))) ps (picked (flags_of (watch fs) (h ++ x ∷ [])) es) n ss es' each;
      few = λ n. runs PrintsFew (λ l v q t y. y.few) size (seconds_of (watch fs) s (h ++ x ∷ []))
          (k.sights ++ mirrored_to (at_size kept) (view_now (run s h))) ps (picked (flags_of (watch fs) (h ++ x ∷ [])) es) n ss es' each;
    }))
  where
    past : (o : Option Kept) (zs : List Sight) (qs : List (List ℕ)) (t : Terminal) (v : View) → PiecesStand zs o qs
        → EachPiece Painted t None (zs ++ mirrored_to (at_size o) v) qs
    past None zs qs t v st = let P : List Sight → Type 0 = λ y. EachPiece Painted t None y qs in subst P (sym (append-nil zs)) (st.each t)
    past (Some q) zs qs t v st = piece_none Painted t None zs qs (part v (size_in q)) st.matched (st.each t)

-- ---- a turn

-- what was written behind one more frame
wrote_more : (before now later : Option (List ℕ)) (ps : List (List ℕ)) (bytes : List ℕ) (was failed : Bool)
    → Written before now ps was → Wrote was failed bytes now later → Written before later (ps ++ bytes ∷ []) failed
wrote_more before now later ps bytes true failed w (f, e) =
    let P : Option (List ℕ) → Type 0 = λ z. Written before z (ps ++ bytes ∷ []) failed in
    let Q : Bool → Type 0 = λ b. Written before now (ps ++ bytes ∷ []) b in
    subst P (sym e) (subst Q (sym f) (written_failed before now ps bytes w))
wrote_more before now later ps bytes false true w (n, l, e) = written_more before now later ps bytes n true w l e (λ x. absurd (cc))
wrote_more before now later ps bytes false false w e =
    written_more before now later ps bytes (length bytes) false w (omega arith) (e ∙ ap (λ (x : List ℕ). then_written now x) (sym (take_all bytes))) (λ x. refl)

none_of : (n : ℕ) → take n (let z : List ℕ = [] in z) ≡ []
none_of zero = refl
none_of (suc n) = refl

-- and behind none
wrote_none : (before now later : Option (List ℕ)) (ps : List (List ℕ)) (bytes : List ℕ) (was failed : Bool)
    → bytes ≡ [] → Written before now ps was → Wrote was failed bytes now later → Written before later ps failed
wrote_none before now later ps bytes true failed i w (f, e) =
    let P : Option (List ℕ) → Type 0 = λ z. Written before z ps failed in
    let Q : Bool → Type 0 = λ b. Written before now ps b in
    subst P (sym e) (subst Q (sym f) w)
wrote_none before now later ps bytes false true i w (n, l, e) =
    let same : later ≡ now =
    e ∙ (ap (λ (x : List ℕ). then_written now (take n x)) i ∙ (ap (λ (x : List ℕ). then_written now x) (none_of n) ∙ sym (then_written-none now))) in
    let P : Option (List ℕ) → Type 0 = λ z. Written before z ps true in
    subst P (sym same) (record { count = w.count; most = w.most; front = w.front; whole = λ x. absurd (cc) })
wrote_none before now later ps bytes false false i w e =
    let same : later ≡ now = e ∙ (ap (λ (x : List ℕ). then_written now x) i ∙ sym (then_written-none now)) in
    let P : Option (List ℕ) → Type 0 = λ z. Written before z ps false in
    subst P (sym same) w

-- a Paint, whether it is mirrored or not
pub second_follows : (s : State) (ended : Bool) (old new : Option Kept) (v : View) (bytes : List ℕ) (ps : List (List ℕ)) (es more : List ℕ)
    (end upto : ℕ) (before now later : Option (List ℕ)) (was failed : Bool) (fs : List MirrorFrame) (h : List Entry)
    → v ≡ view_now (run s h) → FrameOf old new v bytes → Wrote was failed bytes now later → upto ≡ end + length bytes → more ≡ es ++ upto ∷ []
    → SecondIs s ended old ps es end before now was fs h
    → (qs : List (List ℕ)) × SecondIs s ended new qs more upto before later failed fs (h ++ entry actors.Painter events.Paint ∷ [])
second_follows s ended None new v bytes ps es more end upto before now later was failed fs h i (n, none) w u m st =
    let g = h ++ entry actors.Painter events.Paint ∷ [] in
    let same : upto ≡ end = u ∙ (ap (λ (x : List ℕ). end + length x) none ∙ (let z : end + 0 ≡ end = omega arith in z)) in
    let N : Option Kept → Type 0 = λ z. (qs : List (List ℕ)) × SecondIs s ended z qs more upto before later failed fs g in
    let U : ℕ → Type 0 = λ z. (qs : List (List ℕ)) × SecondIs s ended None qs more z before later failed fs g in
    let wrote = wrote_none before now later ps bytes was failed none st.written w in
    let base : SecondIs s ended None ps es end before later failed fs h = record {
      sights = st.sights;
      flags = st.flags;
      seconds = st.seconds;
      flagged = st.flagged;
      at = st.at;
      coming = st.coming;
      stands = st.stands;
      written = wrote;
      count = st.count;
      ends' = st.ends';
      rests = st.rests;
      last = st.last;
      end' = st.end';
    } in
    subst N (sym n) (subst U (sym same) (ps, second_passed s ended ps es more end before later failed fs h g refl (m ∙ ap (λ (z : ℕ). es ++ z ∷ []) same) base))
second_follows s ended (Some k) new v bytes ps es more end upto before now later was failed fs h i (after', is, f) w u m st =
    let g = h ++ entry actors.Painter events.Paint ∷ [] in
    let N : Option Kept → Type 0 = λ z. (qs : List (List ℕ)) × SecondIs s ended z qs more upto before later failed fs g in
    subst N (sym is) (
      ps ++ bytes ∷ [],
      second_paint s ended k after' v bytes ps es more end upto before now later was failed fs h g refl i f.paints
          f.shown f.wide f.high (wrote_more before now later ps bytes was failed st.written w) u m st,
    )

-- a Paint without an end of its own
pub second_err : (s : State) (ended : Bool) (old new : Option Kept) (ps : List (List ℕ)) (es xs : List ℕ) (end last : ℕ) (before now : Option (List ℕ))
    (was failed : Bool) (fs : List MirrorFrame) (h : List Entry) (result : Result (Unit {0}) OutOfMemory) → IsErr result → xs ≡ es
    → SecondIs s ended old ps es end before now was fs h
    → SecondTurn result s ended new xs last before now failed fs (h ++ entry actors.Painter events.Paint ∷ [])
second_err s ended old new ps es xs end last before now was failed fs h (Ok u) i e st = absurd (cc)
second_err s ended old new ps es xs end last before now was failed fs h (Err x) i e st = λ size.
    let P : List ℕ → Type 0 = λ z. Mirrors s fs size z before now failed true (h ++ entry actors.Painter events.Paint ∷ []) in
    subst P (sym e) (second_past s ended old ps es end before now was failed size fs h (h ++ entry actors.Painter events.Paint ∷ []) refl st)

-- the same, by what is known of the flags and of the bytes that were handed on
pub second_went : (s : State) (ended : Bool) (old new : Option Kept) (v : View) (bytes handed : List ℕ) (ps : List (List ℕ)) (es xs more : List ℕ)
    (end upto n : ℕ) (before now later : Option (List ℕ)) (was failed w f : Bool) (fs : List MirrorFrame) (h : List Entry)
    → v ≡ view_now (run s h) → FrameOf old new v bytes → was ≡ w → failed ≡ f → handed ≡ bytes → Wrote w f handed now later → upto ≡ end + n
    → n ≡ length bytes → xs ≡ es → more ≡ xs ++ upto ∷ []
    → SecondIs s ended old ps es end before now was fs h
    → (qs : List (List ℕ)) × SecondIs s ended new qs more upto before later failed fs (h ++ entry actors.Painter events.Paint ∷ [])
second_went s ended old new v bytes handed ps es xs more end upto n before now later was failed w f fs h i frame ew ef eb wrote u l ex m st =
    let P : Bool → Type 0 = λ b. Wrote b failed bytes now later in
    let Q : Bool → Type 0 = λ b. Wrote w b bytes now later in
    let R : List ℕ → Type 0 = λ b. Wrote w f b now later in
    second_follows s ended old new v bytes ps es more end upto before now later was failed fs h i frame
    (subst P (sym ew) (subst Q (sym ef) (subst R eb wrote))) (u ∙ ap (λ (z : ℕ). end + z) l) (m ∙ ap (λ (z : List ℕ). z ++ upto ∷ []) ex) st

pub second_lost : (s : State) (ended : Bool) (old : Option Kept) (ps : List (List ℕ)) (es xs : List ℕ) (end : ℕ) (before now : Option (List ℕ))
    (was failed : Bool) (fs : List MirrorFrame) (h : List Entry) (size : Size) → xs ≡ es
    → SecondIs s ended old ps es end before now was fs h → Mirrors s fs size xs before now failed true (h ++ entry actors.Painter events.Paint ∷ [])
second_lost s ended old ps es xs end before now was failed fs h size e st =
    let P : List ℕ → Type 0 = λ z. Mirrors s fs size z before now failed true (h ++ entry actors.Painter events.Paint ∷ []) in
    subst P (sym e) (second_past s ended old ps es end before now was failed size fs h (h ++ entry actors.Painter events.Paint ∷ []) refl st)

pub second_cut : (s : State) (ended : Bool) (new : Option Kept) (more : List ℕ) (upto : ℕ) (before later : Option (List ℕ)) (failed : Bool)
    (fs : List MirrorFrame) (h : List Entry) (size : Size)
    → ((qs : List (List ℕ)) × SecondIs s ended new qs more upto before later true fs h) → Mirrors s fs size more before later failed true h
second_cut s ended new more upto before later failed fs h size (qs, k) =
    second_ends s ended new qs more upto before later true failed true size fs h (λ e f. absurd (cc)) k
