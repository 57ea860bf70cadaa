-- The terminal's side behind what others entered, behind its own entry, and behind several turns.
use Rattle.std.proofs.Common.{◌≡◌, ℕ, ◌+◌, Bool, true, false, List, [], ◌∷◌, ◌++◌, length, Option, Result, Ok, Err, refl, sym, ap, ◌∙◌}
use Rattle.std.proofs.Common.{subst, append_assoc, inl, inr, append-nil}
use Rattle.std.specs.Prelude.{not}
use Rattle.std.specs.List.{list_all}
use Rattle.std.proofs.lemmas.Bool.{and_parts}
use Rattle.con_units.specs.declared.view.Frame.{Frame}
use Rattle.con_outside.specs.Outside.{then_left}
use Rattle.con_link.specs.Plainly.{Answers}
use Rattle.con_link.specs.Frames.{ends_link}
use Rattle.con_link.specs.declared.fault.LinkFault.{LinkFault}
use Rattle.con_events.specs.declared.actor.Actor.{Actor}
use Rattle.con_events.specs.declared.actor.Actor.TheVariants as actors
use Rattle.con_events.specs.declared.end.End.{End}
use Rattle.con_events.specs.declared.entry.Entry.{Entry}
use Rattle.con_events.specs.declared.event.Event.{Event}
use Rattle.con_events.specs.declared.event.Event.TheVariants as events
use Rattle.con_machine.specs.Follows.{asks_by, sent_by}
use Rattle.con_machine.specs.History.{run, is_legal}
use Rattle.con_machine.specs.HistoryLaws.{run-append}
use Rattle.con_laws.specs.PictureLaws.{step_moves}
use Rattle.con_laws.specs.Rounds.{Begun}
use Rattle.con_machine.specs.State.{State}
use Rattle.con_machine.specs.Step.{is_due, is_ready}
use Rattle.con_machine.specs.Turns.{is_terminal, moved}
use Rattle.con_actors.specs.Words.Desk.{entry}
use Rattle.con_actors.specs.AskLaws.{asks_other, asks_own, asks_lost}
use Rattle.con_actors.specs.LinkLaws.{link_failed, link_fault, link_frame, link_hung, link_other, link_stays, link_stops}
use Rattle.con_actors.specs.Words.Sender.{LinkEnds, LinkIs, end_for}
use Rattle.con_actors.specs.SenderLaws.{side_other}
use Rattle.con_actors.specs.Solo.{AsksStand}
use Rattle.con_actors.specs.declared.side.Side.{Side}
use Rattle.con_threads.specs.Scribe.{SeesMore, is_same}
use Rattle.con_threads.specs.Sides.{SideGoes}

-- ---- entries of others

-- none of them is of the terminal's side
abbrev pub are_others : List Entry → Bool
are_others r = list_all (λ x. not (is_same actors.Terminal x.actor)) r

not_terminal : (a : Actor) → not (is_same actors.Terminal a) ≡ true → is_terminal a ≡ false
not_terminal (actors.Client p) o = refl
not_terminal actors.Terminal o = absurd (let e : false ≡ true = o in cc)
not_terminal actors.Painter o = refl

-- what stays behind one of them stays behind all
pub along_others : (P : List Entry → Type 0) → ((h : List Entry) (x : Entry) → is_terminal x.actor ≡ false → P h → P (h ++ x ∷ [])) → (h r : List Entry)
    → are_others r ≡ true → P h → P (h ++ r)
along_others P one h [] o k = subst P (sym (append-nil h)) k
along_others P one h (x ∷ xs) o k =
    let q = and_parts (not (is_same actors.Terminal x.actor)) (are_others xs) o in
    subst P (append_assoc h (x ∷ []) xs) (along_others P one (h ++ x ∷ []) xs q.1 (one h x (not_terminal x.actor q.0) k))

link_on : (h r : List Entry) (side : Side) (failed : Bool) (before now : Option (List ℕ)) (taken : ℕ) → are_others r ≡ true
    → LinkIs h side failed before now taken → LinkIs (h ++ r) side failed before now taken
link_on h r side failed before now taken o k =
    along_others (λ z. LinkIs z side failed before now taken) (λ z x n i. link_other z (z ++ x ∷ []) x side failed before now taken refl n i) h r o k

ends_other : (h : List Entry) (x : Entry) (before now : Option (List ℕ)) → is_terminal x.actor ≡ false → LinkEnds h before now
    → LinkEnds (h ++ x ∷ []) before now
ends_other h x before now n k = record {
  frames = k.frames;
  extra = k.extra;
  cut = k.cut;
  ended = k.ended;
  stands = side_other h x k.frames k.cut k.ended n k.stands;
  frames' = k.frames';
  read = k.read;
  going = k.going;
  behind = k.behind;
  more = tt;
}

ends_on : (h r : List Entry) (before now : Option (List ℕ)) → are_others r ≡ true → LinkEnds h before now → LinkEnds (h ++ r) before now
ends_on h r before now o k = along_others (λ z. LinkEnds z before now) (λ z x n i. ends_other z x before now n i) h r o k

-- ---- what is asked for

asks_on : (b : Begun) (h r : List Entry) (lost : Bool) → are_others r ≡ true → AsksStand b h lost → AsksStand b (h ++ r) lost
asks_on b h r lost o k = along_others (λ z. AsksStand b z lost) (λ z x n i. asks_other b z x lost n i) h r o k

-- others ask for nothing
no_ask : (s : State) (a : Actor) (e : Event) → is_ready s a e ≡ true → is_terminal a ≡ false → asks_by false e ≡ false
unfolding is_ready
no_ask s a (events.Call c) r n = refl
no_ask s a (events.Begin w) r n = refl
no_ask s a events.Collect r n = refl
no_ask s a events.TakeCtrl r n = refl
no_ask s a (events.Exit status) r n = refl
no_ask s a (events.Feed bytes) r n = refl
no_ask s a events.Quiet r n = refl
no_ask s a (events.Resize size) r n = refl
no_ask s (actors.Client p) events.Ask r n = absurd (let e : false ≡ true = r in cc)
no_ask s actors.Terminal events.Ask r n = absurd (let e : true ≡ false = n in cc)
no_ask s actors.Painter events.Ask r n = absurd (let e : false ≡ true = r in cc)
no_ask s a events.Hangup r n = refl
no_ask s a events.Drained r n = refl
no_ask s a events.Paint r n = refl

pub served_on : (s : State) (r : List Entry) → are_others r ≡ true → is_legal s r ≡ true → s.asked ≡ false → (run s r).asked ≡ false
served_on s [] o l n = n
served_on s (x ∷ xs) o l n =
    let q = and_parts (not (is_same actors.Terminal x.actor)) (are_others xs) o in
    let p = and_parts (is_ready s x.actor x.event) (is_legal (moved s x) xs) l in
    served_on (moved s x) xs q.1 p.1
    ((step_moves s x.actor x.event).asks ∙ (ap (λ (out : Bool). asks_by out x.event) n ∙ no_ask s x.actor x.event p.0 (not_terminal x.actor q.0)))

pub served_then : (start : State) (h r : List Entry) → are_others r ≡ true → is_legal (run start h) r ≡ true → (run start h).asked ≡ false
    → (run start (h ++ r)).asked ≡ false
served_then start h r o l n = ap (λ (z : State). z.asked) (run-append start h r) ∙ served_on (run start h) r o l n

-- whether a Quiet is ready tells whether anything is asked for
quiet_ready : (s : State) → is_ready s actors.Terminal events.Quiet ≡ not s.asked
unfolding is_ready is_due
quiet_ready s = refl

pub asked_by : (s : State) (a : Actor) (served : Bool) → served ≡ is_ready s a events.Quiet → a ≡ actors.Terminal → served ≡ not s.asked
asked_by s a served r e = r ∙ (ap (λ (z : Actor). is_ready s z events.Quiet) e ∙ quiet_ready s)

-- ---- the side

pub goes_on : (b : Begun) (h r : List Entry) (side : Side) (hung broken : Bool) (before left : Option (List ℕ)) (taken : ℕ) → are_others r ≡ true
    → SideGoes b h side hung broken before left taken → SideGoes b (h ++ r) side hung broken before left taken
goes_on b h r side hung broken before left taken o k = record {
  link = λ e. link_on h r side hung before left taken o (k.link e);
  link_ends = ends_on h r before left o k.link_ends;
  asks = asks_on b h r hung o k.asks;
}

-- what others entered meanwhile
pub goes_seen : (b : Begun) (start : State) (h g : List Entry) (side : Side) (hung broken : Bool) (before left : Option (List ℕ)) (taken : ℕ)
    → SeesMore start actors.Terminal h g → SideGoes b h side hung broken before left taken → SideGoes b g side hung broken before left taken
goes_seen b start h g side hung broken before left taken m k =
    let P : List Entry → Type 0 = λ z. SideGoes b z side hung broken before left taken in
    subst P (sym m.entries') (goes_on b h m.between side hung broken before left taken m.others k)

-- the event of a frame that was read
pub frame_goes : (b : Begun) (h : List Entry) (side : Side) (hung ended : Bool) (before was now : Option (List ℕ)) (taken later : ℕ) (f : Frame)
    → side.ended ≡ false → (run b.state h).asked ≡ false → ended ≡ ends_link f
    → ((text : List ℕ) × (was ≡ then_left text now) × (later ≡ taken + length text) × Answers (Ok f) taken text now)
    → SideGoes b h side hung false before was taken
    → SideGoes b (h ++ entry actors.Terminal (sent_by f) ∷ []) (record { ended = ended; end = side.end }) hung false before now later
frame_goes b h side hung ended before was now taken later f n served d took k =
    let g = h ++ entry actors.Terminal (sent_by f) ∷ [] in
    let l = link_frame h g side hung before was now taken later f ended n refl d took (k.link refl) in
    record {
      link = λ e. l;
      link_ends = link_stays g (record { ended = ended; end = side.end }) hung before now later l;
      asks = asks_own b h (sent_by f) hung (inl served) k.asks;
    }

-- a hangup where no frame was read
pub fault_goes : (b : Begun) (h : List Entry) (side : Side) (hung : Bool) (before was now : Option (List ℕ)) (taken later : ℕ) (f : LinkFault) (end : End)
    → side.ended ≡ false → (run b.state h).asked ≡ false → end ≡ end_for f
    → ((text : List ℕ) × (was ≡ then_left text now) × (later ≡ taken + length text) × Answers (Err f) taken text now)
    → SideGoes b h side hung false before was taken
    → SideGoes b (h ++ entry actors.Terminal events.Hangup ∷ []) (record { ended = true; end = end }) hung false before now later
fault_goes b h side hung before was now taken later f end n served d took k =
    let g = h ++ entry actors.Terminal events.Hangup ∷ [] in
    let l = link_fault h g side hung before was now taken later f end n refl d took (k.link refl) in
    record {
      link = λ e. l;
      link_ends = link_stays g (record { ended = true; end = end }) hung before now later l;
      asks = asks_own b h events.Hangup hung (inl served) k.asks;
    }

-- a hangup where the terminal has failed
pub hung_goes : (b : Begun) (h : List Entry) (side : Side) (hung : Bool) (before left : Option (List ℕ)) (taken : ℕ) → side.ended ≡ false
    → SideGoes b h side hung false before left taken
    → SideGoes b (h ++ entry actors.Terminal events.Hangup ∷ []) (record { ended = true; end = side.end }) true false before left taken
hung_goes b h side hung before left taken n k =
    let g = h ++ entry actors.Terminal events.Hangup ∷ [] in
    let l = link_hung h g side true before left taken n refl refl (link_failed h side hung true before left taken (λ e. refl) (k.link refl)) in
    record {
      link = λ e. l;
      link_ends = link_stays g (record { ended = true; end = side.end }) true before left taken l;
      asks = asks_own b h events.Hangup true (inr refl) (asks_lost b h hung true (λ e. refl) k.asks);
    }

-- no memory behind what was taken
pub stops_goes : (b : Begun) (h : List Entry) (side : Side) (hung : Bool) (before was now : Option (List ℕ)) (taken later : ℕ) (r : Result Frame LinkFault)
    → side.ended ≡ false
    → ((text : List ℕ) × (was ≡ then_left text now) × (later ≡ taken + length text) × Answers r taken text now)
    → SideGoes b h side hung false before was taken → SideGoes b h side hung true before now later
stops_goes b h side hung before was now taken later r n took k = record {
  link = λ e. absurd (cc);
  link_ends = link_stops h side hung before was now taken later r n took (k.link refl);
  asks = k.asks;
}
