-- A painter as contracts see it.
use Rattle.con_strokes.specs.Checksum.{IsSummed}
use Rattle.con_paint.specs.Painter.{Kept, IsKept}
use Rattle.con_paint.specs.declared.painter.Painter.TheInside.{Inside}

abbrev pub kept_of : Inside → Kept
kept_of p = record {
  w = p.size.w;
  h = p.size.h;
  known = p.known;
  cells = p.shadow.items;
  attr = p.attr;
  placed = p.spot.known;
  x = p.spot.x;
  y = p.spot.y;
  visible = p.visible;
}

pub record IsInside (p : Inside) : Type 0 where
  pub kept : IsKept (kept_of p)
  pub summed : IsSummed p.known p.size.w p.size.h p.shadow.items p.sums.items
