-- What holds of all histories at all times.
use Rattle.std.specs.Prelude.{◌≤◌, Vec, length, vec_capacity}
use Rattle.std.specs.declared.alloc.Global.{Global}
use Rattle.con_history.specs.Histories.{ProgramLines}
use Rattle.con_history.specs.declared.info.HistoryInfo.{HistoryInfo}

-- no more histories than the settings allow, and memory for as many as they ever can allow
pub record IsSound (used : Vec ProgramLines Global) (info : HistoryInfo) : Type 0 where
  pub number : length used.items ≤ info.number
  pub few : info.number ≤ 64
  pub lines : info.lines ≤ 999
  pub room : 64 ≤ vec_capacity used
