-- How a session opens, and who has nothing to do at its end.
use Rattle.std.specs.Prelude.{◌≡◌, ◌⊎◌, ℕ, ◌&&◌, true, false, nat_lt, nat_le, length, None}
use Rattle.con_events.specs.Session.{Clients}
use Rattle.con_procs.specs.Procs.{is_attached}
use Rattle.con_readers.specs.Reads.{is_open, has_done}
use Rattle.con_machine.specs.State.{State}
use Rattle.con_machine.specs.Painting.{view_now}
use Rattle.con_machine.specs.Words.Painting.{is_fresh}
use Rattle.con_machine.specs.Turns.{is_pending}

-- The session's clients are attached, which are numbered from 1, and nobody else is. No read is open, no control event waits,
-- nothing is asked for, nothing was painted, and the window has the session's size.
pub record Opens (session : Clients) (s : State) : Type 0 where
  pub attached : (p : ℕ) → is_attached s.procs p ≡ (nat_lt 0 p && nat_le p (length session.scripts))
  pub read : (p : ℕ) → is_open s.reads p ≡ false
  pub pending : (p : ℕ) → is_pending s p ≡ false
  pub asked : s.asked ≡ false
  pub painted : s.painted ≡ None
  pub resized : s.resized ≡ false
  pub fresh : is_fresh s ≡ true
  pub wide : s.buffers.w ≡ session.size.w
  pub high : s.buffers.h ≡ session.size.h
  pub view : (view_now s).size ≡ session.size

-- a client is gone, or waits for a read
abbrev pub WaitsOrGone : State → ℕ → Type 0
WaitsOrGone s p = (is_attached s.procs p ≡ false) ⊎ ((is_open s.reads p ≡ true) × (has_done s.reads p ≡ false))
