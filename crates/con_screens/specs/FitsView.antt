-- The fields of what is made ready for all buffers.
use Rattle.con_screens.specs.Words.Resize.{Fits}
use Rattle.con_screens.specs.declared.fits.AllFits.TheInside.{Inside}

abbrev pub fits_of : Inside → Fits
fits_of f = record { window = f.window; slots = f.slots.items }
