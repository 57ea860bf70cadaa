-- A splitter as contracts see it.
use Rattle.std.specs.Prelude.{ℕ, List}
use Rattle.con_vtgram.specs.declared.item.Csi.{Csi}

-- the units that are no item yet, the text of the last title, and the last control sequence
pub record Reader : Type 0 where
  pub tail : List ℕ
  pub title : List ℕ
  pub sequence : Csi
