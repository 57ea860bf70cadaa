-- What changes of processes leave: how many there are, who is attached, for whom an event waits, and which places were added.
use Rattle.std.proofs.Common.{◌≡◌, ℕ, zero, suc, ◌-◌, Bool, true, false, List, [], ◌∷◌, ◌++◌, Option, None, refl, ap, ◌∙◌}
use Rattle.std.specs.Prelude.{if◌then◌else◌, ◌==◌, nat_lt, length, take, map, is_some, slice_get, slice_set}
use Rattle.std.proofs.lemmas.List.{length-map}
use Rattle.con_units.specs.Units.{changed_at}
use Rattle.con_procs.specs.AttachedLaws.{KeepsLive, attached_laws}
use Rattle.con_procs.specs.Pending.{pended}
use Rattle.con_procs.specs.Procs.{is_attached, signalled, reaches, changed, first_pending, place_in, is_chained, placed, handler_removed}
use Rattle.con_procs.specs.Words.Procs.{told, pending_in, rack_in}
use Rattle.con_procs.specs.declared.proc.Proc.{Proc}
use Rattle.con_procs.specs.declared.rack.Place.{Place}
use Rattle.con_procs.specs.declared.rack.Place.TheVariants as place
use Rattle.con_machine.specs.Added.{is_added}

pub record ProcsGo (ps qs : List Proc) : Type 0 where
  pub count : length qs ≡ length ps
  pub attached : (p : ℕ) → is_attached qs p ≡ is_attached ps p
  pub waits : (p : ℕ) → is_some (first_pending ps p) ≡ true → is_some (first_pending qs p) ≡ true

pub same_procs : (ps : List Proc) → ProcsGo ps ps
same_procs ps = record { count = refl; attached = λ p. refl; waits = λ p h. h }

pub then_procs : (ps qs rs : List Proc) → ProcsGo ps qs → ProcsGo qs rs → ProcsGo ps rs
then_procs ps qs rs k l = record { count = l.count ∙ k.count; attached = λ p. l.attached p ∙ k.attached p; waits = λ p h. l.waits p (k.waits p h) }

-- ---- how many

as_many_at : (f : Proc → Proc) (ps : List Proc) (k : ℕ) → length (changed_at f ps k) ≡ length ps
as_many_at f [] k = refl
as_many_at f (p ∷ ps) zero = refl
as_many_at f (p ∷ ps) (suc k) = ap suc (as_many_at f ps k)

pub as_many : (f : Proc → Proc) (ps : List Proc) (k : ℕ) → length (changed f ps k) ≡ length ps
as_many f ps k = by_none (k == 0)
  where
    by_none : (b : Bool) → length (if b then ps else changed_at f ps (k - 1)) ≡ length ps
    by_none true = refl
    by_none false = as_many_at f ps (k - 1)

-- ---- events that wait

-- a change after which an event waits where one did
abbrev pub KeepsWaiting : (Proc → Proc) → Type 0
KeepsWaiting f = (x : Proc) → is_some (slice_get x.pending 0) ≡ true → is_some (slice_get (f x).pending 0) ≡ true

mapped_waits : (f : Proc → Proc) → KeepsWaiting f → (ps : List Proc) (i : ℕ) → is_some (slice_get (pending_in (slice_get ps i)) 0) ≡ true
    → is_some (slice_get (pending_in (slice_get (map f ps) i)) 0) ≡ true
mapped_waits f keeps [] i h = h
mapped_waits f keeps (x ∷ ps) zero h = keeps x h
mapped_waits f keeps (x ∷ ps) (suc i) h = mapped_waits f keeps ps i h

changed_waits_at : (f : Proc → Proc) → KeepsWaiting f → (ps : List Proc) (k i : ℕ) → is_some (slice_get (pending_in (slice_get ps i)) 0) ≡ true
    → is_some (slice_get (pending_in (slice_get (changed_at f ps k) i)) 0) ≡ true
changed_waits_at f keeps [] k i h = h
changed_waits_at f keeps (x ∷ ps) zero zero h = keeps x h
changed_waits_at f keeps (x ∷ ps) zero (suc i) h = h
changed_waits_at f keeps (x ∷ ps) (suc k) zero h = h
changed_waits_at f keeps (x ∷ ps) (suc k) (suc i) h = changed_waits_at f keeps ps k i h

-- the process of a number, or of none, from the list of all
in_place : (b : Bool) (o n : Option Proc) → (is_some (slice_get (pending_in o) 0) ≡ true → is_some (slice_get (pending_in n) 0) ≡ true)
    → is_some (slice_get (pending_in (if b then None else o)) 0) ≡ true → is_some (slice_get (pending_in (if b then None else n)) 0) ≡ true
in_place true o n keeps h = h
in_place false o n keeps h = keeps h

pub changed_waits : (f : Proc → Proc) → KeepsWaiting f → (ps : List Proc) (k p : ℕ) → is_some (first_pending ps p) ≡ true
    → is_some (first_pending (changed f ps k) p) ≡ true
changed_waits f keeps ps k p = by_none (k == 0)
  where
    by_none : (b : Bool) → is_some (first_pending ps p) ≡ true → is_some (first_pending (if b then ps else changed_at f ps (k - 1)) p) ≡ true
    by_none true = λ h. h
    by_none false = in_place (p == 0) (slice_get ps (p - 1)) (slice_get (changed_at f ps (k - 1)) (p - 1)) (changed_waits_at f keeps ps (k - 1) (p - 1))

end_waits : (es : List ℕ) (event : ℕ) → is_some (slice_get (es ++ event ∷ []) 0) ≡ true
end_waits [] event = refl
end_waits (e ∷ es) event = refl

pended_waits : (es : List ℕ) (event : ℕ) → is_some (slice_get es 0) ≡ true → is_some (slice_get (pended es event) 0) ≡ true
pended_waits es event h = by_room (nat_lt (length es) 64) (event == 2)
  where
    by_room : (b c : Bool) → is_some (slice_get (if b then es ++ event ∷ [] else if c then take 63 es ++ event ∷ [] else es) 0) ≡ true
    by_room true c = end_waits es event
    by_room false true = end_waits (take 63 es) event
    by_room false false = h

told_waits : (event group : ℕ) → KeepsWaiting (told event group)
told_waits event group x h = by_reach (reaches event group x)
  where
    by_reach : (b : Bool) → is_some (slice_get (if b then (let y : Proc = record x { pending = pended x.pending event } in y) else x).pending 0) ≡ true
    by_reach true = pended_waits x.pending event h
    by_reach false = h

signalled_waits : (ps : List Proc) (event group p : ℕ) → is_some (first_pending ps p) ≡ true → is_some (first_pending (signalled ps event group) p) ≡ true
signalled_waits ps event group p =
    in_place (p == 0) (slice_get ps (p - 1)) (slice_get (signalled ps event group) (p - 1))
    (mapped_waits (told event group) (told_waits event group) ps (p - 1))

-- ---- changes

pub signalled_go : (ps : List Proc) (event group : ℕ) → ProcsGo ps (signalled ps event group)
signalled_go ps event group = record {
  count = length-map ps (told event group);
  attached = attached_laws.of_signalled ps event group;
  waits = signalled_waits ps event group;
}

-- a process changes, and is as attached as it was, with the same events
pub changed_go : (f : Proc → Proc) → KeepsLive f → KeepsWaiting f → (ps : List Proc) (k : ℕ) → ProcsGo ps (changed f ps k)
changed_go f live keeps ps k = record {
  count = as_many f ps k;
  attached = λ p. attached_laws.of_changed f live ps k p;
  waits = λ p. changed_waits f keeps ps k p;
}

pub placed_go : (ps : List Proc) (k at : ℕ) (to : Place) (b : Bool) → ProcsGo ps (if b then placed ps k at to else ps)
placed_go ps k at to true = changed_go (λ x. record x { rack = slice_set x.rack at to }) (λ x. refl) (λ x h. h) ps k
placed_go ps k at to false = same_procs ps

-- ---- places that were added

-- a change that leaves what was added of each rack
abbrev pub LeavesAdded : (Proc → Proc) → Type 0
LeavesAdded f = (x : Proc) (i : ℕ) → is_added (slice_get (f x).rack i) ≡ is_added (slice_get x.rack i)

added_mapped : (f : Proc → Proc) → LeavesAdded f → (ps : List Proc) (k i : ℕ)
    → is_added (slice_get (rack_in (slice_get (map f ps) k)) i) ≡ is_added (slice_get (rack_in (slice_get ps k)) i)
added_mapped f l [] k i = refl
added_mapped f l (x ∷ ps) zero i = l x i
added_mapped f l (x ∷ ps) (suc k) i = added_mapped f l ps k i

added_changed : (f : Proc → Proc) → LeavesAdded f → (ps : List Proc) (j k i : ℕ)
    → is_added (slice_get (rack_in (slice_get (changed_at f ps j) k)) i) ≡ is_added (slice_get (rack_in (slice_get ps k)) i)
added_changed f l [] j k i = refl
added_changed f l (x ∷ ps) zero zero i = l x i
added_changed f l (x ∷ ps) zero (suc k) i = refl
added_changed f l (x ∷ ps) (suc j) zero i = refl
added_changed f l (x ∷ ps) (suc j) (suc k) i = added_changed f l ps j k i

pub by_number : (ps qs : List Proc) → ((k i : ℕ) → is_added (slice_get (rack_in (slice_get qs k)) i) ≡ is_added (slice_get (rack_in (slice_get ps k)) i))
    → (q i : ℕ) → is_added (place_in qs q i) ≡ is_added (place_in ps q i)
by_number ps qs same q i = at (q == 0)
  where
    at : (b : Bool)
        → is_added (slice_get (rack_in (if b then None else slice_get qs (q - 1))) i)
        ≡ is_added (slice_get (rack_in (if b then None else slice_get ps (q - 1))) i)
    at true = refl
    at false = same (q - 1) i

pub changed_same : (f : Proc → Proc) → LeavesAdded f → (ps : List Proc) (k q i : ℕ) → is_added (place_in (changed f ps k) q i) ≡ is_added (place_in ps q i)
changed_same f l ps k q i = at (k == 0)
  where
    at : (b : Bool) → is_added (place_in (if b then ps else changed_at f ps (k - 1)) q i) ≡ is_added (place_in ps q i)
    at true = refl
    at false = by_number ps (changed_at f ps (k - 1)) (added_changed f l ps (k - 1)) q i

told_same : (event group : ℕ) → LeavesAdded (told event group)
told_same event group x i = at (reaches event group x) _ refl
  where
    at : (b : Bool) (y : Proc) → y.rack ≡ x.rack → is_added (slice_get (if b then y else x).rack i) ≡ is_added (slice_get x.rack i)
    at true y e = ap (λ (r : List Place). is_added (slice_get r i)) e
    at false y e = refl

pub signalled_same : (ps : List Proc) (event group q i : ℕ) → is_added (place_in (signalled ps event group) q i) ≡ is_added (place_in ps q i)
signalled_same ps event group q i = by_number ps (signalled ps event group) (added_mapped (told event group) (told_same event group) ps) q i

-- a place of the chain is removed
set_removed : (xs : List Place) (at i : ℕ) → is_chained (slice_get xs at) ≡ true
    → is_added (slice_get (slice_set xs at place.Removed) i) ≡ is_added (slice_get xs i)
set_removed [] at i c = refl
set_removed (place.Fresh ∷ xs) zero zero c = absurd (cc)
set_removed (place.Chained ∷ xs) zero zero c = refl
set_removed (place.Removed ∷ xs) zero zero c = absurd (cc)
set_removed (x ∷ xs) zero (suc i) c = refl
set_removed (x ∷ xs) (suc at) zero c = refl
set_removed (x ∷ xs) (suc at) (suc i) c = set_removed xs at i c

removed_at : (ps : List Proc) (j at k i : ℕ) → is_chained (slice_get (rack_in (slice_get ps j)) at) ≡ true
    → is_added (slice_get (rack_in (slice_get (changed_at (λ x. record x { rack = slice_set x.rack at place.Removed }) ps j) k)) i)
    ≡ is_added (slice_get (rack_in (slice_get ps k)) i)
removed_at [] j at k i c = refl
removed_at (x ∷ ps) zero at zero i c = set_removed x.rack at i c
removed_at (x ∷ ps) zero at (suc k) i c = refl
removed_at (x ∷ ps) (suc j) at zero i c = refl
removed_at (x ∷ ps) (suc j) at (suc k) i c = removed_at ps j at k i c

removed_by : (ps : List Proc) (p at q i : ℕ) (none : Bool) → is_chained (slice_get (rack_in (if none then None else slice_get ps (p - 1))) at) ≡ true
    → is_added (place_in (if none then ps else changed_at (λ x. record x { rack = slice_set x.rack at place.Removed }) ps (p - 1)) q i)
    ≡ is_added (place_in ps q i)
removed_by ps p at q i true c = refl
removed_by ps p at q i false c = by_number ps _ (λ k i. removed_at ps (p - 1) at k i c) q i

pub removed_same : (ps : List Proc) (p at q i : ℕ) → is_added (place_in (handler_removed ps p at) q i) ≡ is_added (place_in ps q i)
removed_same ps p at q i = by (is_chained (place_in ps p at)) refl
  where
    by : (b : Bool) → is_chained (place_in ps p at) ≡ b → is_added (place_in (if b then placed ps p at place.Removed else ps) q i) ≡ is_added (place_in ps q i)
    by true c = removed_by ps p at q i (p == 0) c
    by false c = refl
