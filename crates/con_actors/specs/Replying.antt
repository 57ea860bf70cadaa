-- A reply as a desk looks at it.
use Rattle.std.proofs.Common.{◌≡◌, Bool, true, false, List, [], refl, sym, ap, ◌∙◌}
use Rattle.con_units.specs.declared.view.View.{View}
use Rattle.con_events.specs.declared.reply.Reply.{Reply}
use Rattle.con_events.specs.declared.reply.Reply.TheVariants as replies
use Rattle.con_machine.specs.Marks.{told}
use Rattle.con_actors.specs.Desk.{listed}
use Rattle.con_actors.specs.Words.Desk.{brief_of}

pub brief_told : (r : Reply) → brief_of (told r) ≡ brief_of r
brief_told (replies.View v marks fresh) = refl
brief_told replies.Done = refl
brief_told (replies.Fail why) = refl
brief_told (replies.Number n) = refl
brief_told (replies.Numbers ns) = refl
brief_told (replies.Units us) = refl
brief_told (replies.Records rs) = refl
brief_told (replies.Cells rect cells) = refl
brief_told (replies.Lines ls) = refl
brief_told (replies.Ctrl n) = refl

pub listed_told : (r : Reply) → listed (told r) ≡ listed r
listed_told (replies.View v marks fresh) = refl
listed_told replies.Done = refl
listed_told (replies.Fail why) = refl
listed_told (replies.Number n) = refl
listed_told (replies.Numbers ns) = refl
listed_told (replies.Units us) = refl
listed_told (replies.Records rs) = refl
listed_told (replies.Cells rect cells) = refl
listed_told (replies.Lines ls) = refl
listed_told (replies.Ctrl n) = refl

-- a reply that is the step's, where the event is a client's, and else its view is
pub listed_by : (b : Bool) (r q : Reply) → (b ≡ true → r ≡ q) → (b ≡ false → told r ≡ q) → listed r ≡ listed q
listed_by true r q e f = ap listed (e refl)
listed_by false r q e f = sym (listed_told r) ∙ ap listed (f refl)

pub brief_by : (b : Bool) (r q : Reply) → (b ≡ true → r ≡ q) → (b ≡ false → told r ≡ q) → brief_of r ≡ brief_of q
brief_by true r q e f = ap brief_of (e refl)
brief_by false r q e f = sym (brief_told r) ∙ ap brief_of (f refl)

-- only a view counts as one
pub view_is : (v w : View) (marks : List Bool) (fresh : Bool) (q : Reply) → told (replies.View v marks fresh) ≡ q → q ≡ replies.View w [] false → v ≡ w
view_is v w marks fresh q e f = let g : replies.View v [] false ≡ replies.View w [] false = e ∙ f in cc
