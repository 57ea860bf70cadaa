-- What an audit asks, and its verdict.
use Rattle.std.specs.Prelude.{◌≡◌, ◌⊎◌, ℕ, ◌+◌, ◌<◌, true, List, [], ◌∷◌, ◌++◌, length, take, flat_map, fold, Some}
use Rattle.std.specs.List.{list_all, AllByRecursion}
use Rattle.con_units.specs.declared.view.Frame.{Frame}
use Rattle.con_link.specs.Frames.{spelling, is_frame, goes_on}
use Rattle.con_link.specs.LinkReading.{plainly, IsLinkBy, ShowsBy}
use Rattle.con_units.specs.declared.view.FrameFault.{FrameFault}
use Rattle.con_events.specs.Session.{Clients}
use Rattle.con_events.specs.declared.end.End.TheVariants as ends
use Rattle.con_events.specs.declared.entry.Entry.{Entry}
use Rattle.con_events.specs.declared.reply.Reply.{Reply}
use Rattle.con_machine.specs.State.{State}
use Rattle.con_machine.specs.Step.{step}
use Rattle.con_machine.specs.Along.{Along}
use Rattle.con_machine.specs.History.{is_legal}
use Rattle.con_machine.specs.Turns.{moved, is_paint}
use Rattle.con_machine.specs.Sights.{sights_of}
use Rattle.con_machine.specs.Follows.{Follows, session_start}
use Rattle.con_laws.specs.Whole.{IsWhole}
use Rattle.con_audit.specs.Watching.{watching, watched, HasEnd, IsSeen}
use Rattle.con_audit.specs.declared.verdict.What.{What}
use Rattle.con_audit.specs.declared.verdict.What.TheVariants as what
use Rattle.con_audit.specs.declared.verdict.Verdict.{Verdict}
use Rattle.con_audit.specs.declared.verdict.Verdict.TheVariants as verdicts

-- what is audited; `racks` has the kinds of each client's handlers
pub record Given : Type 0 where
  pub session : Clients
  pub racks : List (List ℕ)
  pub link : List ℕ
  pub stream : List ℕ
  pub entries : List Entry
  pub replies : List Reply
  pub ends : List ℕ

-- ---- the link's frames

-- The frames that bytes begin with, as they are read one after another: up to the one that ends the link, or to a place where no frame stands.
pub record AreFrames (link : List ℕ) (frames : List Frame) : Type 0 where
  pub rest : List ℕ
  pub text : link ≡ flat_map spelling frames ++ rest
  pub frames' : list_all is_frame frames ≡ true
  pub stop : IsLinkBy plainly frames (Some rest) ⊎ ((list_all goes_on frames ≡ true) × (kind : FrameFault) × (taken left : List ℕ)
      × (rest ≡ taken ++ left) × ShowsBy plainly kind taken (Some left))

-- ---- the parts that a front of the entries must keep

-- a Paint's reply tells nothing; every other one is the console's
abbrev pub AreReplied : State → List Entry → List Reply → Type 0
AreReplied s [] rs = Unit {0}
AreReplied s (x ∷ xs) [] = ⊥
AreReplied s (x ∷ xs) (r ∷ rs) = ((is_paint x.event ≡ true) ⊎ (r ≡ (step s x.actor x.event).reply)) × AreReplied (moved s x) xs rs

-- where the last piece ends
abbrev pub last_end : ℕ → List ℕ → ℕ
last_end n es = fold (λ before e. e) n es

abbrev pub Holds : What → Given → List Frame → List Entry → Type 0
Holds what.Ready g frames h = is_legal (session_start g.session g.racks) h ≡ true
Holds what.Reply g frames h = AreReplied (session_start g.session g.racks) h g.replies
Holds what.Follows g frames h = Follows (session_start g.session g.racks) h g.session g.racks frames ends.Done
Holds what.End g frames h = Along (HasEnd g.stream) (watched g.stream) (watching g.session.size g.ends) (sights_of (session_start g.session g.racks) h)
Holds what.Shows g frames h = Along (IsSeen g.stream) (watched g.stream) (watching g.session.size g.ends) (sights_of (session_start g.session g.racks) h)
Holds what.Whole g frames h = (last_end 0 g.ends ≡ length g.stream) × IsWhole (session_start g.session g.racks) h g.session g.racks

-- the parts, in the order in which they are tried at each entry
abbrev pub parts : List What
parts = what.Ready ∷ what.Reply ∷ what.Follows ∷ what.End ∷ what.Shows ∷ []

abbrev pub Passes : Given → List Frame → List Entry → Type 0
Passes g frames h = AllByRecursion (λ w. Holds w g frames h) parts

-- w is the first of these that does not hold
abbrev pub FirstFails : List What → What → Given → List Frame → List Entry → Type 0
FirstFails [] w g frames h = ⊥
FirstFails (v ∷ vs) w g frames h = ((v ≡ w) × ¬ (Holds v g frames h)) ⊎ (Holds v g frames h × FirstFails vs w g frames h)

-- ---- the verdict

-- a no names a place before which the entries pass, and the first part that fails with the entry there, or `Whole` behind all of them
abbrev pub IsVerdict : Given → List Frame → Verdict → Type 0
IsVerdict g frames verdicts.Yes = Passes g frames g.entries × Holds what.Whole g frames g.entries
IsVerdict g frames (verdicts.No k w) = Passes g frames (take k g.entries) ×
    (((k < length g.entries) × FirstFails parts w g frames (take (k + 1) g.entries))
    ⊎ ((k ≡ length g.entries) × (w ≡ what.Whole) × ¬ (Holds what.Whole g frames g.entries)))

-- the link's frames are told by its bytes
abbrev pub IsAudited : Given → Verdict → Type 0
IsAudited g v = (frames : List Frame) × AreFrames g.link frames × IsVerdict g frames v
