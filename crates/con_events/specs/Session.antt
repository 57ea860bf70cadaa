-- What clients will do, and its limits.
use Rattle.std.specs.Prelude.{ℕ, Bool, ◌&&◌, nat_le, List}
use Rattle.con_units.specs.declared.place.Size.{Size}
use Rattle.con_events.specs.declared.script.Script.{Script}

-- the window's size, and the clients' scripts in the order of their numbers
pub record Clients : Type 0 where
  pub size : Size
  pub scripts : List Script

abbrev pub is_within : ℕ → ℕ → ℕ → Bool
is_within low high n = nat_le low n && nat_le n high

-- a window is 1 to 512 wide and 1 to 256 high
abbrev pub is_size : Size → Bool
is_size s = is_within 1 512 s.w && is_within 1 256 s.h
