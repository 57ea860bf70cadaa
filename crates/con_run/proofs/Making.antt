-- What a session's threads begin with, put together.
use Rattle.std.proofs.Common.{◌≡◌, ◌⊎◌, ℕ, ◌≤◌, Bool, true, false, ◌&&◌, List, length, map, sym, refl, ap, ◌∙◌, subst, inl, inr, arith}
use Rattle.std.specs.Prelude.{nat_le}
use Rattle.std.proofs.lemmas.Bool.{and_parts}
use Rattle.std.proofs.lemmas.Bool.Decides.{nat_tests}
use Rattle.con_events.specs.Session.{Clients}
use Rattle.con_events.specs.Words.Session.{all_scripts, are_scripts, step_count}
use Rattle.con_events.specs.declared.script.Script.{Script}
use Rattle.con_machine.specs.Follows.{session_start}
use Rattle.con_laws.specs.OpeningLaws.{opens}
use Rattle.con_machine.specs.Words.Painting.{is_fresh}
use Rattle.con_machine.specs.State.{State, opening}
use Rattle.con_book.specs.Passes.{BookId, view_of}
use Rattle.con_book.specs.declared.machine.Machine.{Ghosts}
use Rattle.con_book.specs.declared.pass.Pass.{Pass}
use Rattle.con_threads.specs.Clients.{ClientView}
use Rattle.con_run.specs.Crews.{IsCrew, IsOpening}
use Rattle.con_threads.specs.declared.ledger.LedgerView.{LedgerView}

module _ {M S E R A Room : Type 0} {g : Ghosts M S E R A Room} where
  pub opening_own : (id : BookId) (start : S) (made : List ℕ) (p : Pass M S E R A Room g) → IsOpening id start made p → IsOpening id (view_of p).start made p
  opening_own id start made p h =
      record {
        book = h.book;
        start' = refl;
        opens = h.opens;
        none_seen = h.none_seen;
        made' = h.made';
        none_kept = h.none_kept;
        mine = h.mine;
        actor = h.actor;
      }

pub crew_from : {C : Type 0} (view : C → ClientView) (id : BookId) (start other : LedgerView) (cs : List C) → start ≡ other → IsCrew view id start cs
    → IsCrew view id other cs
crew_from view id start other cs e k = subst (λ (z : LedgerView). IsCrew view id z cs) e k

-- a session begins with nothing painted
pub fresh_begun : (session : Clients) (racks : List (List ℕ)) (sizes : List ℕ) (s : State) → s ≡ opening session sizes → map (λ ys. length ys) racks ≡ sizes
    → is_fresh s ≡ true
fresh_begun session racks sizes s e z = ap (λ (x : State). is_fresh x) (e ∙ ap (λ (ns : List ℕ). opening session ns) (sym z)) ∙ (opens session racks).fresh

pub state_begun : (session : Clients) (racks : List (List ℕ)) (sizes : List ℕ) (s : State) → s ≡ opening session sizes → map (λ ys. length ys) racks ≡ sizes
    → s ≡ session_start session racks
state_begun session racks sizes s e z = e ∙ ap (λ (ns : List ℕ). opening session ns) (sym z)

-- a session has few clients
pub few_scripts : (ss : List Script) → are_scripts ss ≡ true → length ss ≤ 64
few_scripts ss e =
    let few : Bool = nat_le 1 (length ss) && nat_le (length ss) 64 in
    let all = and_parts (few && all_scripts ss) (nat_le (step_count ss) 16384) e in
    let a = and_parts (nat_le 1 (length ss)) (nat_le (length ss) 64) (and_parts few (all_scripts ss) all.0).0 in
    let b : nat_le (length ss) 64 ≡ true = a.1 in
    grind (arith, nat_tests)

pub was_fine : (P : Type 0) (failed : Bool) → failed ≡ false → (failed ≡ true) ⊎ P → P
was_fine P failed f r = elim r [ inl e ↦ absurd (let z = sym f ∙ e in cc) | inr p ↦ p ]
