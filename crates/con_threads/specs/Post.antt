-- A scribe at its book, as a door: others may enter events in between.
use Rattle.std.proofs.Common.{◌≡◌, ℕ, true, List, [], ◌++◌, refl, sym, ap, ◌∙◌, subst}
use Rattle.std.specs.Prelude.{not}
use Rattle.std.specs.List.{list_all}
use Rattle.con_events.specs.declared.actor.Actor.{Actor}
use Rattle.con_events.specs.declared.actor.Actor.TheVariants as actors
use Rattle.con_events.specs.declared.entry.Entry.{Entry}
use Rattle.con_events.specs.declared.event.Event.{Event}
use Rattle.con_machine.specs.State.{State}
use Rattle.con_actors.specs.Door.{Saw, Entered, are_others}
use Rattle.con_actors.specs.declared.desk.Brief.{Brief}
use Rattle.con_threads.specs.Ledger.{brief_told}
use Rattle.con_threads.specs.Scribe.{is_same, opened, IsSameScribe, SeesMore, HasEntered}
use Rattle.con_threads.specs.ScribeLaws.{no_client, others_then, same_opened}
use Rattle.con_threads.specs.declared.ledger.Told.{Told}
use Rattle.con_threads.specs.declared.scribe.Scribe.{Scribe}

abbrev pub AreOthers : Actor → List Entry → Type 0
AreOthers a xs = list_all (λ x. not (is_same a x.actor)) xs ≡ true

pub none : (a : Actor) → AreOthers a []
none a = refl

pub joins : (a : Actor) (xs ys : List Entry) → AreOthers a xs → AreOthers a ys → AreOthers a (xs ++ ys)
joins a xs ys e f = others_then a xs ys e f

pub others : (p : ℕ) (xs : List Entry) → AreOthers (actors.Client p) xs → are_others p xs ≡ true
others p xs e = no_client p xs e

-- ---- the door's clauses, by the scribe's

pub saw : (s : State) (a b : Actor) (h g : List Entry) → a ≡ b → SeesMore s a h g → Saw (AreOthers b) h g
saw s a b h g i x = record {
  between = x.between;
  may = ap (λ (y : Actor). list_all (λ x. not (is_same y x.actor)) x.between) (sym i) ∙ x.others;
  entries' = x.entries';
}

pub entered : (s z : State) (a b : Actor) (e : Event) (told : Told) (brief : Brief) (h g : List Entry) → a ≡ b → s ≡ z → brief ≡ brief_told told
    → HasEntered s a e told h g → Entered (AreOthers b) z b e brief h g
entered s z a b e told brief h g i j k x =
    let P : State → Type 0 = λ y. Entered (AreOthers b) y b e brief h g in
    let Q : Actor → Type 0 = λ y. Entered (AreOthers y) s y e brief h g in
    let r : Entered (AreOthers a) s a e brief h g = record {
      between = x.between;
      may = x.others;
      entries' = x.entries';
      ready = x.ready;
      brief' = k ∙ x.brief;
    } in
    subst P j (subst Q i r)

pub begun : (old lent : Scribe) (z : State) → IsSameScribe lent old → opened lent ≡ z → opened old ≡ z
begun old lent z s e = same_opened lent old s ∙ e
