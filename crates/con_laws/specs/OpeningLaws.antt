-- How a session opens.
use Rattle.std.proofs.Common.{◌≡◌, ℕ, zero, suc, ◌-◌, Bool, true, false, List, [], ◌∷◌, map, length, None, refl, ap, ◌∙◌, arith}
use Rattle.std.specs.Prelude.{◌&&◌, ◌==◌, nat_lt, nat_le, is_some, slice_get, if◌then◌else◌}
use Rattle.std.proofs.lemmas.Bool.Decides.{nat_tests}
use Rattle.con_events.specs.Session.{Clients}
use Rattle.con_events.specs.declared.script.Script.{Script}
use Rattle.con_procs.specs.Words.Procs.{live_in, pending_in}
use Rattle.con_procs.specs.declared.proc.Proc.{Proc}
use Rattle.con_machine.specs.Words.State.{procs_of, behind_first}
use Rattle.con_machine.specs.Follows.{session_start}
use Rattle.con_laws.specs.Opens.{Opens}

-- who is there
live_at : (ss : List Script) (racks : List ℕ) (k : ℕ) → live_in (slice_get (procs_of ss racks) k) ≡ nat_lt k (length ss)
live_at [] racks k = grind (arith, nat_tests)
live_at (s ∷ ss) racks zero = grind (arith, nat_tests)
live_at (s ∷ ss) racks (suc k) = live_at ss (behind_first racks) k ∙ grind (arith, nat_tests)

attached_at : (n p : ℕ) (b : Bool) → b ≡ nat_lt (p - 1) n → (nat_lt 0 p && b) ≡ (nat_lt 0 p && nat_le p n)
attached_at n zero b e = grind (arith, nat_tests)
attached_at n (suc k) b e = grind (arith, nat_tests)

-- nothing is pending
none_at : (ss : List Script) (racks : List ℕ) (k : ℕ) → slice_get (pending_in (slice_get (procs_of ss racks) k)) 0 ≡ None
none_at [] racks k = refl
none_at (s ∷ ss) racks zero = refl
none_at (s ∷ ss) racks (suc k) = none_at ss (behind_first racks) k

none_of : (ps : List Proc) (p : ℕ) (b : Bool) → slice_get (pending_in (slice_get ps (p - 1))) 0 ≡ None
    → is_some (slice_get (pending_in (if b then None else slice_get ps (p - 1))) 0) ≡ false
none_of ps p true e = refl
none_of ps p false e = ap is_some e

pub opens : (session : Clients) (racks : List (List ℕ)) → Opens session (session_start session racks)
opens session racks =
    let counts = map (λ kinds. length kinds) racks in
    record {
      attached =
          λ p. attached_at (length session.scripts) p (live_in (slice_get (procs_of session.scripts counts) (p - 1)))
          (live_at session.scripts counts (p - 1));
      read = λ p. refl;
      pending = λ p. none_of (procs_of session.scripts counts) p (p == 0) (none_at session.scripts counts (p - 1));
      asked = refl;
      painted = refl;
      resized = refl;
      fresh = refl;
      wide = refl;
      high = refl;
      view = refl;
    }
