use Rattle.std.proofs.Common.{◌≡◌, ◌∙◌, ap, sym, subst, ◌↔◌}
use Rattle.con_units.specs.Rect.{IsIn}
use Rattle.con_units.specs.declared.place.Rect.{Rect}
use Rattle.con_rects.specs.Parts.{rect_of, area_in, whole}
use Rattle.con_rects.proofs.AreaLemmas.{used_common, used_none}
use Rattle.con_rects.proofs.UsedLemmas.{used_rect_is}
use Rattle.con_rects.proofs.area.used.Goals as goal

pub returns-clause-rect : goal.returns-clause-rect
returns-clause-rect c = c.rect.ensures ∙ ap rect_of c.area_of.ensures ∙ sym (used_rect_is c.args.rect c.args.size.w c.args.size.h)

pub returns-clause-common : goal.returns-clause-common
returns-clause-common c = λ x y.
    let e : c.rect.result ≡ rect_of (area_in c.args.rect c.args.size.w c.args.size.h) = c.rect.ensures ∙ ap rect_of c.area_of.ensures in
    subst (λ (r : Rect). IsIn r x y ↔ (IsIn c.args.rect x y × IsIn (whole c.args.size.w c.args.size.h) x y)) (sym e) (used_common c.args.rect c.args.size.w c.args.size.h x y)

pub returns-clause-none : goal.returns-clause-none
returns-clause-none c = λ h. c.rect.ensures ∙ ap rect_of c.area_of.ensures ∙ used_none c.args.rect c.args.size.w c.args.size.h h
