-- What a session by threads leaves behind.
use Rattle.std.proofs.Common.{◌≡◌, ◌⊎◌, ℕ, ◌+◌, ◌<◌, ◌≤◌, Bool, true, false, List, [], length, Option, None, refl, sym, ap, ◌∙◌, subst, inl, inr}
use Rattle.con_outside.specs.Outside.{Rose}
use Rattle.con_events.specs.Session.{Clients}
use Rattle.con_events.specs.declared.end.End.{End}
use Rattle.con_events.specs.declared.end.End.TheVariants as ends
use Rattle.con_events.specs.declared.entry.Entry.{Entry}
use Rattle.con_events.specs.declared.reply.Reply.{Reply}
use Rattle.con_machine.specs.Client.{Gone}
use Rattle.con_machine.specs.Follows.{session_start}
use Rattle.con_machine.specs.History.{run}
use Rattle.con_laws.specs.Rounds.{client_at}
use Rattle.con_machine.specs.Turns.{paints}
use Rattle.con_laws.specs.Whole.{HaveAllLeft}
use Rattle.con_actors.specs.CanvasLaws.{canvas_ends, painted_count}
use Rattle.con_actors.specs.EndLaws.{by_number, ends_count, leaves_none, leaves_stops, leaves_whole}
use Rattle.con_actors.specs.LinkLaws.{link_failed, link_stays}
use Rattle.con_actors.specs.Outcome.{Leaves}
use Rattle.con_actors.specs.Solo.{Moment, begins, end_by}
use Rattle.con_actors.specs.declared.side.Side.{Side}
use Rattle.con_run.specs.Session.{IsBroken, IsDone}
use Rattle.con_run.proofs.Causes.{rose_later, rose_sooner}
use Rattle.con_actors.specs.AskLaws.{asks_lost}

all_gone : (session : Clients) (racks : List (List ℕ)) (h : List Entry)
    → ((k : ℕ) → k < length session.scripts → (client_at (begins session racks None) h (k + 1)).stance ≡ Gone)
    → HaveAllLeft (session_start session racks) h session racks
all_gone session racks h f = λ p l m. by_number (λ q. (client_at (begins session racks None) h q).stance ≡ Gone) (length session.scripts) f p l m

-- nothing was lost
done_whole : (session : Clients) (racks : List (List ℕ)) (h : List Entry) (rs : List Reply) (es : List ℕ) (side : Side) (hung failed : Bool)
    (before left old now : Option (List ℕ))
    → failed ≡ false → IsDone (begins session racks None) h rs es side hung failed before left old now
    → Leaves session racks h rs es (end_by failed side.end) before left old now
done_whole session racks h rs es side hung failed before left old now f k =
    let b = begins session racks None in
    let m : Moment =
    record {
      state = run (session_start session racks) h;
      entries = h;
      replies = rs;
      workers = [];
      places = [];
      memories = [];
      slots = [];
      side = side;
      taken = k.taken;
      left = left;
      kept = k.kept;
      ends = es;
      end = k.end;
      failed = failed;
      written = now;
    } in
    leaves_whole session racks None session.scripts before old m
    (record {
      scripts' = refl;
      stands = record { state = refl; replies = k.replies; legal = k.legal };
      numbered = k.numbered;
      clients = λ j script w xs m' ys e a c d g. absurd (cc);
      link = link_failed h side hung failed before left k.taken k.hung' k.link;
      asks = asks_lost b h hung failed k.hung' k.asks;
      pieces = k.pieces;
      canvas = k.canvas;
      some = λ e. absurd (let z = sym f ∙ e in cc);
    })
    k.clients
    (k.link.stands.ended' ∙ k.ended)
    (all_gone session racks h k.gone)
    k.idle

-- the terminal failed
done_failed : (session : Clients) (racks : List (List ℕ)) (h : List Entry) (rs : List Reply) (es : List ℕ) (side : Side) (hung failed : Bool)
    (before left old now : Option (List ℕ))
    → IsDone (begins session racks None) h rs es side hung failed before left old now
    → Leaves session racks h rs es ends.Term before left old now
done_failed session racks h rs es side hung failed before left old now k =
    let b = begins session racks None in
    let s =
    leaves_stops session racks None before old left now h rs es k.legal k.replies k.numbered k.clients (link_stays h side hung before left k.taken k.link)
    (canvas_ends b h session.size k.kept k.pieces es k.end old now failed k.canvas) in
    let count : length es ≡ paints h = ap (λ (z : List ℕ). length z) k.canvas.ends'
    ∙ (ends_count 0 k.pieces ∙ painted_count b h session.size k.kept k.pieces k.canvas.stands) in
    record {
      legal = s.legal;
      replies = s.replies;
      frames = s.frames;
      text = s.text;
      frames' = s.frames';
      taken = s.taken;
      going = s.going;
      behind = s.behind;
      side = tt;
      more = tt;
      follows = record { actors = s.follows.actors; clients = s.follows.clients; link = s.follows.link; answered = s.follows.answered };
      built = s.built;
      long = s.long;
      front = s.front;
      all' = λ i. absurd (cc);
      ends' = λ i. count;
      but_last = inl count;
      shows = s.shows;
      few = s.few;
      new_rows = s.new_rows;
      left' = λ i. all_gone session racks h k.gone;
      ended = λ i. k.link.stands.ended' ∙ k.ended;
      whole = λ i. absurd (cc);
    }

pub leaves_done : (session : Clients) (racks : List (List ℕ)) (h : List Entry) (rs : List Reply) (es : List ℕ) (side : Side) (hung failed : Bool)
    (before left old now : Option (List ℕ))
    → IsDone (begins session racks None) h rs es side hung failed before left old now
    → Leaves session racks h rs es (end_by failed side.end) before left old now
leaves_done session racks h rs es side hung false before left old now k = done_whole session racks h rs es side hung false before left old now refl k
leaves_done session racks h rs es side hung true before left old now k = done_failed session racks h rs es side hung true before left old now k

pub leaves_broken : (session : Clients) (racks : List (List ℕ)) (h : List Entry) (rs : List Reply) (es : List ℕ) (before left old now : Option (List ℕ))
    → IsBroken (begins session racks None) h rs es before left old now
    → Leaves session racks h rs es ends.Memory before left old now
leaves_broken session racks h rs es before left old now k =
    leaves_stops session racks None before old left now h rs es k.legal k.replies k.numbered k.clients k.link k.canvas

-- ---- why it ended

pub link_by : (failed : Bool) (end other : End) → other ≡ end_by failed end → other ≡ ends.Link → end ≡ ends.Link
link_by true end other e l = absurd (let z : ends.Term ≡ ends.Link = sym e ∙ l in cc)
link_by false end other e l = sym e ∙ l

pub not_memory_link : (P : Type 0) (other : End) → other ≡ ends.Memory → other ≡ ends.Link → P
not_memory_link P other e l = absurd (let z : ends.Memory ≡ ends.Link = sym e ∙ l in cc)

pub not_memory_term : (P : Type 0) (other : End) → other ≡ ends.Memory → other ≡ ends.Term → P
not_memory_term P other e l = absurd (let z : ends.Memory ≡ ends.Term = sym e ∙ l in cc)

pub term_by : (A B : Type 0) (failed fine : Bool) (end other : End) → other ≡ end_by failed end → (failed ≡ true → A ⊎ B) → fine ≡ false → other ≡ ends.Term
    → A ⊎ (B ⊎ ((end ≡ ends.Term) × (fine ≡ false)))
term_by A B true fine end other e w f t = elim (w refl) [ inl a ↦ inl a | inr b ↦ inr (inl b) ]
term_by A B false fine end other e w f t = inr (inr (sym e ∙ t, f))

-- a failure in the one or the other part
pub failed_in : (P Q w : Type 0) (a b c : ℕ) → a ≤ b → b ≤ c → (P → w ⊎ Rose a b) → (Q → ⊥) → P ⊎ (Rose b c ⊎ Q) → w ⊎ Rose a c
failed_in P Q w a b c l m from none there = elim there [
  | inl p ↦ elim (from p) [ inl x ↦ inl x | inr x ↦ inr (rose_later a b c x m) ]
  | inr q ↦ elim q [ inl x ↦ inr (rose_sooner a b c l x) | inr x ↦ absurd (none x) ]
]

-- there was no memory to begin with
pub none_left : (session : Clients) (racks : List (List ℕ)) (before old : Option (List ℕ)) (h : List Entry) (rs : List Reply) (es : List ℕ) (end : End) → h ≡ []
    → rs ≡ [] → es ≡ [] → end ≡ ends.Memory → Leaves session racks h rs es end before before old old
none_left session racks before old h rs es end eh er ee en =
    subst (λ (z : List Entry × List Reply × List ℕ × End). Leaves session racks z.0 z.1 z.2 z.3 before before old old)
    (λ i. (sym eh i, sym er i, sym ee i, sym en i)) (leaves_none session racks before old)
