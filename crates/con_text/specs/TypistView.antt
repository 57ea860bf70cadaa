-- The fields of what types a text.
use Rattle.std.specs.Prelude.{◌≡◌, ◌≤◌, vec_capacity}
use Rattle.con_screens.specs.Words.Buffers.{AreBuffers}
use Rattle.con_text.specs.Words.Typing.{Typing}
use Rattle.con_text.specs.declared.typing.Typist.TheInside.{Inside}

abbrev pub typing_of : Inside → Typing
typing_of t = record { buffers = t.screens; held = t.bytes }

pub record IsTypist (t : Inside) : Type 0 where
  pub buffers : AreBuffers t.screens
  pub wide : t.screens.w ≡ 80
  pub tall : t.screens.h ≡ 25
  pub room : 16384 ≤ vec_capacity t.units
