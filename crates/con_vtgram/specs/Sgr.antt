-- The parameters of CSI m, one after another: SGR, ECMA-48 8.3.117.
use Rattle.std.specs.Prelude.{ℕ, ◌==◌, ◌-◌, nat_lt, List, fold, take, if◌then◌else◌}
use Rattle.con_vtgram.specs.Pen.{pen_after, indexed, starting_pen}
use Rattle.con_vtgram.specs.declared.item.Csi.{Csi}
use Rattle.con_vtgram.specs.declared.pen.Layer.TheVariants.{Fore, Back}
use Rattle.con_vtgram.specs.declared.pen.ParameterRole.{ParameterRole}
use Rattle.con_vtgram.specs.declared.pen.ParameterRole.TheVariants.{Plain, Kind, Number, Skip, Over}
use Rattle.con_vtgram.specs.declared.pen.Pen.{Pen}
use Rattle.con_vtgram.specs.declared.pen.Styling.{Styling}

-- a pen, and what the next parameter is
abbrev pub with_next : Pen → ParameterRole → Styling
with_next p role = record { pen = p; reading = role }

-- One parameter more. 38 and 48 begin a colour: behind them 5 says that a number of the table of 256 follows, and 2 that three follow
-- which are skipped; with another one no more parameters act, and a colour that is cut off does nothing.
abbrev pub styled_in : Pen → ℕ → ParameterRole → Styling
styled_in p n Plain = if n == 38 then with_next p (Kind Fore) else if n == 48 then with_next p (Kind Back) else with_next (pen_after p n) Plain
styled_in p n (Kind layer) = with_next p (if n == 5 then Number layer else if n == 2 then Skip 3 else Over)
styled_in p n (Number layer) = with_next (indexed p layer n) Plain
styled_in p n (Skip k) = with_next p (if nat_lt 1 k then Skip (k - 1) else Plain)
styled_in p n Over = with_next p Over

abbrev pub styled : Styling → ℕ → Styling
styled s n = styled_in s.pen n s.reading

-- the pen after the parameters
unfoldable pub pen_by : Pen → List ℕ → Pen
pen_by p ns = (fold styled (with_next p Plain) ns).pen

-- and after those of a control sequence, of which none are one 0
abbrev pub pen_of : Csi → Pen → Pen
pen_of c p = if c.count == 0 then starting_pen else pen_by p (take c.count c.params)
