-- What a worker enters of its script.
use Rattle.std.proofs.Common.{◌≡◌, ℕ, ◌+◌, ◌≤◌, Bool, true, false, List, [], length, refl, sym, ◌∙◌, subst, drop, arith}
use Rattle.std.specs.Prelude.{if◌then◌else◌}
use Rattle.std.proofs.lemmas.Grind.{common_steps}
use Rattle.std.proofs.lemmas.List.{drop-drop}
use Rattle.con_events.specs.declared.call.Call.{Call}
use Rattle.con_events.specs.declared.call.Call.TheVariants as calls
use Rattle.con_events.specs.declared.event.Event.{Event}
use Rattle.con_events.specs.declared.event.Event.TheVariants as events
use Rattle.con_events.specs.declared.reply.Reply.{Reply}
use Rattle.con_events.specs.declared.reply.Reply.TheVariants as replies
use Rattle.con_events.specs.declared.script.Step.{Step}
use Rattle.con_machine.specs.Client.{Client, due, next_event, is_fail, chained}
use Rattle.con_actors.specs.Words.Desk.{brief_of, is_refused}
use Rattle.con_actors.specs.Words.Worker.{IsWorker, is_handlers}
use Rattle.con_actors.specs.declared.worker.Worker.{Worker}

pub refused_is : (r : Reply) → is_refused (brief_of r) ≡ is_fail r
refused_is (replies.Fail code) = refl
refused_is (replies.Ctrl n) = refl
refused_is replies.Done = refl
refused_is (replies.Number n) = refl
refused_is (replies.Units us) = refl
refused_is (replies.View v marks fresh) = refl
refused_is (replies.Numbers ns) = refl
refused_is (replies.Records rs) = refl
refused_is (replies.Cells rect cells) = refl
refused_is (replies.Lines ls) = refl

pub drop_one : (at : ℕ) (steps : List Step) → drop 1 (drop at steps) ≡ drop (at + 1) steps
drop_one at steps = drop-drop 1 at steps

-- what is due where no read is open
pub due_next : (c : Client) (steps : List Step) (w : Worker) (ev : Event) → IsWorker c steps w → w.reading ≡ false → ev ≡ next_event c.left → ev ≡ due c
due_next c steps w ev k r d = let P : Bool → Type 0 = λ x. ev ≡ (if x then events.Collect else next_event c.left) in subst P (sym (k.reading ∙ r)) d

pub drop_end : (at : ℕ) (steps : List Step) → length steps ≤ at → drop at steps ≡ []
drop_end at steps m = grind (arith, common_steps)

-- a call that adds and removes no handler leaves the chain alone
pub plain_chain : (d : Client) (call : Call) → is_handlers call ≡ false → chained d call ≡ d
plain_chain x (calls.BufferCreate a) e = refl
plain_chain x (calls.OpenOut a) e = refl
plain_chain x (calls.OpenIn a) e = refl
plain_chain x (calls.Close a) e = refl
plain_chain x (calls.Duplicate a b) e = refl
plain_chain x (calls.Activate a) e = refl
plain_chain x (calls.Mode a) e = refl
plain_chain x (calls.SetMode a b) e = refl
plain_chain x (calls.Info a) e = refl
plain_chain x (calls.SetSize a b c) e = refl
plain_chain x (calls.SetCursor a b c) e = refl
plain_chain x (calls.CursorInfo a) e = refl
plain_chain x (calls.SetCursorInfo a b c) e = refl
plain_chain x (calls.SetOrigin a b c) e = refl
plain_chain x (calls.SetAttr a b) e = refl
plain_chain x calls.Title e = refl
plain_chain x (calls.SetTitle a) e = refl
plain_chain x (calls.Write a b) e = refl
plain_chain x (calls.RectRead a b) e = refl
plain_chain x (calls.RectWrite a b c d) e = refl
plain_chain x (calls.RunReadUnits a b c d) e = refl
plain_chain x (calls.RunReadAttrs a b c d) e = refl
plain_chain x (calls.RunWriteUnits a b c d) e = refl
plain_chain x (calls.RunWriteAttrs a b c d) e = refl
plain_chain x (calls.FillUnits a b c d f) e = refl
plain_chain x (calls.FillAttrs a b c d f) e = refl
plain_chain x (calls.Scroll a b c d f g i) e = refl
plain_chain x (calls.Peek a b) e = refl
plain_chain x (calls.WriteInput a b) e = refl
plain_chain x (calls.Count a) e = refl
plain_chain x (calls.Flush a) e = refl
plain_chain x calls.HistoryInfo e = refl
plain_chain x (calls.SetHistory a b c) e = refl
plain_chain x calls.HistoryList e = refl
plain_chain x calls.HistoryClear e = refl
plain_chain x (calls.AliasAdd a b c) e = refl
plain_chain x (calls.AliasRemove a b) e = refl
plain_chain x (calls.AliasGet a b) e = refl
plain_chain x (calls.AliasList a) e = refl
plain_chain x calls.Processes e = refl
plain_chain x (calls.Signal a b) e = refl
plain_chain x (calls.Ignore a) e = refl
plain_chain x (calls.HandlerAdd a) e = absurd (cc)
plain_chain x (calls.HandlerRemove a) e = absurd (cc)

pub plain_by : (d : Client) (call : Call) (b : Bool) → is_handlers call ≡ false → (if b then d else chained d call) ≡ d
plain_by d call true e = refl
plain_by d call false e = plain_chain d call e
