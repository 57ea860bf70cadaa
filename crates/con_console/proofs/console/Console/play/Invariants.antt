-- What is still to come is ready, and leads to the same console and the same replies; what was entered led to this console.
use Rattle.std.proofs.Common.{◌≡◌, ◌≤◌, ◌++◌, true, length, map, take, drop, vec_len, vec_capacity}
use Rattle.con_machine.specs.History.{run, replies_of, is_legal}
use Rattle.con_machine.specs.Marks.{told}
use Rattle.con_console.proofs.console.Console.play.Given as goal

abbrev pub invariant-loop-entry : goal.invariant-loop-entry
invariant-loop-entry l = record {
  legal : is_legal l.self.state (drop l.entry-index l.entries) ≡ true;
  state : run l.self.state (drop l.entry-index l.entries) ≡ run l.fn.self.state l.entries;
  told : map told l.replies.items ++ replies_of l.self.state (drop l.entry-index l.entries) ≡ replies_of l.fn.self.state l.entries;
  count : vec_len l.replies ≡ l.entry-index;
  room : length l.entries ≤ vec_capacity l.replies;
  front : l.self.state ≡ run l.fn.self.state (take l.entry-index l.entries);
}
