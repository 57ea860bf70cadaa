-- Units one after another.
use Rattle.std.proofs.Common.{◌≡◌, ℕ, List, [], ◌∷◌, ◌++◌, Option, refl}
use Rattle.std.proofs.lemmas.List.Sums.{fold-append}
use Rattle.con_units.specs.Split.{next, split, split_after}
use Rattle.con_units.specs.Words.Split.{read_on}
use Rattle.con_vtgram.specs.Text.{grammar}
use Rattle.con_vtgram.specs.Reading.{Holds}
use Rattle.con_vtgram.specs.Step.{Gives}
use Rattle.con_vtgram.specs.TitleKept.{KeepsTitle, Titles}
use Rattle.con_vtgram.specs.Reads.{Reader}
use Rattle.con_vtgram.specs.State.{State}
use Rattle.con_vtgram.specs.declared.item.Csi.{Csi}
use Rattle.con_vtgram.specs.declared.item.Item.{Item}

pub split_after-longer : (tail xs : List ℕ) (u : ℕ) → split_after grammar tail (xs ++ u ∷ []) ≡ read_on grammar (split_after grammar tail xs) u
unfolding split_after
split_after-longer tail xs u = fold-append (read_on grammar) (record { items = []; tail = tail }) xs (u ∷ [])

pub split-none : (past : List ℕ) → past ≡ [] → (split grammar past).tail ≡ []
unfolding split_after
split-none past h = rw h refl

-- the tail of a text with one more unit
pub tail-longer : (past longer tail : List ℕ) (u : ℕ) → longer ≡ past ++ u ∷ [] → (split grammar past).tail ≡ tail → (split grammar longer).tail ≡ (next grammar tail u).tail
tail-longer past longer tail u e h = rw (e, split_after-longer [] past u, h) refl

-- the state after one more unit
pub holds-longer : (after : State) (item : Option Item) (past longer : List ℕ) (u : ℕ) → longer ≡ past ++ u ∷ [] → Gives after item (split grammar past).tail u → Holds after (split grammar longer).tail
holds-longer after item past longer u e h = rw (e, split_after-longer [] past u) h.holds

pub reader_is : (past t s : List ℕ) (k l : Csi) → past ≡ [] → t ≡ s → k ≡ l → ◌≡◌ {A = Reader} (record { tail = (split grammar past).tail; title = t; sequence = k }) (record { tail = []; title = s; sequence = l })
reader_is past t s k l e f g = rw (split-none past e, f, g) refl

pub keeps-longer : (after : State) (item : Option Item) (past longer : List ℕ) (u : ℕ) (t : List ℕ) → longer ≡ past ++ u ∷ [] → Titles after item (split grammar past).tail u t → KeepsTitle after (split grammar longer).tail t
keeps-longer after item past longer u t e h = rw (e, split_after-longer [] past u) h.keeps
