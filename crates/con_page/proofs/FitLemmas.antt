-- A page in another size is within its bounds.
use Rattle.std.proofs.Common.{◌≡◌, ℕ, ◌<◌, ◌==◌, true, length, arith, sym, ◌∙◌, ap}
use Rattle.std.proofs.lemmas.Bool.{cond_both}
use Rattle.std.proofs.lemmas.Bool.Decides.{nat_tests}
use Rattle.con_page.specs.Page.{Page}
use Rattle.con_page.specs.Words.Page.{IsPage}
use Rattle.con_page.specs.Setters.{default_tabs}
use Rattle.con_page.specs.Fit.{within}
use Rattle.con_page.specs.Words.Fit.{Fit, IsFit, moved_in}

below : (side n : ℕ) → 0 < side → within side n < side
below side n some = omega arith

pub moved_keeps : (p : Page) (f : Fit) → IsPage p → IsFit p f → IsPage (moved_in p f.buffer f.window)
moved_keeps p f ok fit =
    let wide : 0 < f.buffer.w = omega (arith, fit.sizes.some.0, fit.sizes.inside.0) in
    let tall : 0 < f.buffer.h = omega (arith, fit.sizes.some.1, fit.sizes.inside.1) in
    record {
      grid = rw (← fit.grid) fit.picture;
      column = below f.buffer.w p.x wide;
      row = below f.buffer.h _ tall;
      cursor_size = ok.cursor_size;
      wide = fit.sizes.some.0;
      tall = fit.sizes.some.1;
      low = fit.sizes.few.2;
      right = omega (arith, fit.sizes.inside.0);
      bottom = omega (arith, fit.sizes.inside.1);
      pen = ok.pen;
      saved_column = below f.buffer.w p.saved_x wide;
      saved_row = below f.buffer.h _ tall;
      margins = tt;
      tabs = cond_both (f.buffer.w == p.grid.width) p.tabs (default_tabs f.buffer.w) (λ ts. length ts ≡ f.buffer.w)
          (λ e. ok.tabs ∙ sym (same f.buffer.w p.grid.width e))
          (λ e. ap length (sym fit.tabs) ∙ fit.stops);
    }
  where
    same : (a b : ℕ) → (a == b) ≡ true → a ≡ b
    same a b e = grind (arith, nat_tests)
