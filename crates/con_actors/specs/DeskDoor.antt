-- A desk as a door: nothing is entered in between.
use Rattle.std.proofs.Common.{◌≡◌, ℕ, true, List, [], ◌++◌, map, refl, ap}
use Rattle.con_events.specs.declared.actor.Actor.{Actor}
use Rattle.con_events.specs.declared.entry.Entry.{Entry}
use Rattle.con_events.specs.declared.reply.Reply.{Reply}
use Rattle.con_machine.specs.History.{replies_of}
use Rattle.con_machine.specs.State.{State}
use Rattle.con_actors.specs.Desk.{listed}
use Rattle.con_actors.specs.Words.Desk.{Ran}
use Rattle.con_actors.specs.Door.{are_others}

-- the console ran on over some entries, none of them the painter's, and what they were answered is there
pub record Since (s t : State) (h g : List Entry) (rs qs : List Reply) : Type 0 where
  pub ran : Ran s t h g
  pub replies : qs ≡ rs ++ map listed (replies_of s ran.entries)

abbrev pub IsNothing : List Entry → Type 0
IsNothing xs = xs ≡ []

pub none : (a : Actor) → IsNothing []
none a = refl

pub joins : (a : Actor) (xs ys : List Entry) → IsNothing xs → IsNothing ys → IsNothing (xs ++ ys)
joins a xs ys e f = (λ i. e i ++ f i)

pub others : (p : ℕ) (xs : List Entry) → IsNothing xs → are_others p xs ≡ true
others p xs e = ap (λ (z : List Entry). are_others p z) e
