-- The fields of a fit.
use Rattle.con_page.specs.Words.Fit.{Fit}
use Rattle.con_page.specs.declared.fit.Fit.TheInside.{Inside}

abbrev pub fit_of : Inside → Fit
fit_of f = record { buffer = f.buffer; window = f.window; grid = f.grid; tabs = f.tabs.items }
