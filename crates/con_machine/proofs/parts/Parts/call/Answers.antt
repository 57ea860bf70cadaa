-- A call that tells something leaves the console as it was.
use Rattle.std.proofs.Common.{ap}
use Rattle.con_machine.proofs.Tellings.{is_telling, told_same, is_after, is_reply, size_row, rect_row, add_row, remove_row}
use Rattle.con_machine.proofs.parts.Parts.call.Goals as goal

pub returns-in-Mode-clause-state : goal.returns-in-Mode-clause-state
returns-in-Mode-clause-state c = told_same c.args.self.now.state c.args.p c.args.call.now (ap is_telling c.in-Mode.is)

pub returns-in-Info-clause-state : goal.returns-in-Info-clause-state
returns-in-Info-clause-state c = told_same c.args.self.now.state c.args.p c.args.call.now (ap is_telling c.in-Info.is)

pub returns-in-CursorInfo-clause-state : goal.returns-in-CursorInfo-clause-state
returns-in-CursorInfo-clause-state c = told_same c.args.self.now.state c.args.p c.args.call.now (ap is_telling c.in-CursorInfo.is)

pub returns-in-Title-clause-state : goal.returns-in-Title-clause-state
returns-in-Title-clause-state c = told_same c.args.self.now.state c.args.p c.args.call.now (ap is_telling c.in-Title.is)

pub returns-in-RectRead-clause-state : goal.returns-in-RectRead-clause-state
returns-in-RectRead-clause-state c = told_same c.args.self.now.state c.args.p c.args.call.now (ap is_telling c.in-RectRead.is)

pub returns-in-RunReadUnits-clause-state : goal.returns-in-RunReadUnits-clause-state
returns-in-RunReadUnits-clause-state c = told_same c.args.self.now.state c.args.p c.args.call.now (ap is_telling c.in-RunReadUnits.is)

pub returns-in-RunReadAttrs-clause-state : goal.returns-in-RunReadAttrs-clause-state
returns-in-RunReadAttrs-clause-state c = told_same c.args.self.now.state c.args.p c.args.call.now (ap is_telling c.in-RunReadAttrs.is)

pub returns-in-Peek-clause-state : goal.returns-in-Peek-clause-state
returns-in-Peek-clause-state c = told_same c.args.self.now.state c.args.p c.args.call.now (ap is_telling c.in-Peek.is)

pub returns-in-Count-clause-state : goal.returns-in-Count-clause-state
returns-in-Count-clause-state c = told_same c.args.self.now.state c.args.p c.args.call.now (ap is_telling c.in-Count.is)

pub returns-in-HistoryInfo-clause-state : goal.returns-in-HistoryInfo-clause-state
returns-in-HistoryInfo-clause-state c = told_same c.args.self.now.state c.args.p c.args.call.now (ap is_telling c.in-HistoryInfo.is)

pub returns-in-HistoryList-clause-state : goal.returns-in-HistoryList-clause-state
returns-in-HistoryList-clause-state c = told_same c.args.self.now.state c.args.p c.args.call.now (ap is_telling c.in-HistoryList.is)

pub returns-in-AliasGet-clause-state : goal.returns-in-AliasGet-clause-state
returns-in-AliasGet-clause-state c = told_same c.args.self.now.state c.args.p c.args.call.now (ap is_telling c.in-AliasGet.is)

pub returns-in-AliasList-clause-state : goal.returns-in-AliasList-clause-state
returns-in-AliasList-clause-state c = told_same c.args.self.now.state c.args.p c.args.call.now (ap is_telling c.in-AliasList.is)

pub returns-in-Processes-clause-state : goal.returns-in-Processes-clause-state
returns-in-Processes-clause-state c = told_same c.args.self.now.state c.args.p c.args.call.now (ap is_telling c.in-Processes.is)

pub returns-in-SetSize-clause-state : goal.returns-in-SetSize-clause-state
returns-in-SetSize-clause-state c = is_after _ _ _ _ _ _ c.in-SetSize.is (size_row c.args.self.now.state c.args.p _ _ _) c.set_size_in.ensures.state

pub returns-in-SetSize-clause-reply : goal.returns-in-SetSize-clause-reply
returns-in-SetSize-clause-reply c = is_reply _ _ _ _ _ _ c.in-SetSize.is (size_row c.args.self.now.state c.args.p _ _ _) c.set_size_in.ensures.reply

pub returns-in-RectWrite-clause-state : goal.returns-in-RectWrite-clause-state
returns-in-RectWrite-clause-state c = is_after _ _ _ _ _ _ c.in-RectWrite.is (rect_row c.args.self.now.state c.args.p _ _ _ _) c.write_rect_in.ensures.state

pub returns-in-RectWrite-clause-reply : goal.returns-in-RectWrite-clause-reply
returns-in-RectWrite-clause-reply c = is_reply _ _ _ _ _ _ c.in-RectWrite.is (rect_row c.args.self.now.state c.args.p _ _ _ _) c.write_rect_in.ensures.reply

pub returns-in-AliasAdd-clause-state : goal.returns-in-AliasAdd-clause-state
returns-in-AliasAdd-clause-state c = is_after _ _ _ _ _ _ c.in-AliasAdd.is (add_row c.args.self.now.state c.args.p _ _ _) c.add_alias_in.ensures.state

pub returns-in-AliasAdd-clause-reply : goal.returns-in-AliasAdd-clause-reply
returns-in-AliasAdd-clause-reply c = is_reply _ _ _ _ _ _ c.in-AliasAdd.is (add_row c.args.self.now.state c.args.p _ _ _) c.add_alias_in.ensures.reply

pub returns-in-AliasRemove-clause-state : goal.returns-in-AliasRemove-clause-state
returns-in-AliasRemove-clause-state c = is_after _ _ _ _ _ _ c.in-AliasRemove.is (remove_row c.args.self.now.state c.args.p _ _) c.remove_alias.ensures.state

pub returns-in-AliasRemove-clause-reply : goal.returns-in-AliasRemove-clause-reply
returns-in-AliasRemove-clause-reply c = is_reply _ _ _ _ _ _ c.in-AliasRemove.is (remove_row c.args.self.now.state c.args.p _ _) c.remove_alias.ensures.reply
