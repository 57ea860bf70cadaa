-- What is noted and left, and for how much more there is room.
use Rattle.std.specs.Prelude.{ℕ, List}
use Rattle.con_machine.specs.declared.reads.noted.Noted.{Noted}
use Rattle.con_machine.specs.declared.reads.rest.Rest.{Rest}

pub record Noting : Type 0 where
  pub list : List Noted
  pub spare : ℕ

pub record Resting : Type 0 where
  pub list : List Rest
  pub spare : ℕ
