-- The words of the code and of laws about Arg, which a reader need not believe.
use Rattle.std.specs.Prelude.{ℕ, ℤ, Bool, false, List, [], ◌∷◌, Option, None, pos}
use Rattle.con_units.specs.declared.place.Rect.{Rect}
use Rattle.con_records.specs.declared.record.Record.{Record}
use Rattle.con_events.specs.Arg.{Arg, Number, Signed, OneUnit, Flag, Text, Area, Clip, WordsOf, WordList, Records}
use Rattle.con_events.specs.declared.call.Words.{Words}
use Rattle.con_events.specs.declared.call.Words.TheVariants.{Each}

pub data Kind : Type 0 where
  number : Kind
  signed : Kind
  unit : Kind
  flag : Kind
  text : Kind
  rect : Kind
  clip : Kind
  words : Kind
  list : Kind
  records : Kind

abbrev pub kind_of : Arg → Kind
kind_of (Number n) = number
kind_of (Signed z) = signed
kind_of (OneUnit u) = unit
kind_of (Flag b) = flag
kind_of (Text us) = text
kind_of (Area r) = rect
kind_of (Clip r) = clip
kind_of (WordsOf w) = words
kind_of (WordList ws) = list
kind_of (Records rs) = records

-- ---- the value of an argument of a kind: of another kind's, a plain one

abbrev pub the_number : Arg → ℕ
the_number (Number n) = n
the_number (Signed z) = 0
the_number (OneUnit u) = u
the_number (Flag b) = 0
the_number (Text us) = 0
the_number (Area r) = 0
the_number (Clip r) = 0
the_number (WordsOf w) = 0
the_number (WordList ws) = 0
the_number (Records rs) = 0

abbrev pub the_signed : Arg → ℤ
the_signed (Number n) = pos 0
the_signed (Signed z) = z
the_signed (OneUnit u) = pos 0
the_signed (Flag b) = pos 0
the_signed (Text us) = pos 0
the_signed (Area r) = pos 0
the_signed (Clip r) = pos 0
the_signed (WordsOf w) = pos 0
the_signed (WordList ws) = pos 0
the_signed (Records rs) = pos 0

abbrev pub the_flag : Arg → Bool
the_flag (Number n) = false
the_flag (Signed z) = false
the_flag (OneUnit u) = false
the_flag (Flag b) = b
the_flag (Text us) = false
the_flag (Area r) = false
the_flag (Clip r) = false
the_flag (WordsOf w) = false
the_flag (WordList ws) = false
the_flag (Records rs) = false

abbrev pub the_list : Arg → List ℕ
the_list (Number n) = []
the_list (Signed z) = []
the_list (OneUnit u) = []
the_list (Flag b) = []
the_list (Text us) = us
the_list (Area r) = []
the_list (Clip r) = []
the_list (WordsOf w) = []
the_list (WordList ws) = ws
the_list (Records rs) = []

abbrev pub no_rect : Rect
no_rect = record { left = pos 0; top = pos 0; right = pos 0; bottom = pos 0 }

abbrev pub the_rect : Arg → Rect
the_rect (Number n) = no_rect
the_rect (Signed z) = no_rect
the_rect (OneUnit u) = no_rect
the_rect (Flag b) = no_rect
the_rect (Text us) = no_rect
the_rect (Area r) = r
the_rect (Clip r) = no_rect
the_rect (WordsOf w) = no_rect
the_rect (WordList ws) = no_rect
the_rect (Records rs) = no_rect

abbrev pub the_clip : Arg → Option Rect
the_clip (Number n) = None
the_clip (Signed z) = None
the_clip (OneUnit u) = None
the_clip (Flag b) = None
the_clip (Text us) = None
the_clip (Area r) = None
the_clip (Clip r) = r
the_clip (WordsOf w) = None
the_clip (WordList ws) = None
the_clip (Records rs) = None

abbrev pub the_words : Arg → Words
the_words (Number n) = Each []
the_words (Signed z) = Each []
the_words (OneUnit u) = Each []
the_words (Flag b) = Each []
the_words (Text us) = Each []
the_words (Area r) = Each []
the_words (Clip r) = Each []
the_words (WordsOf w) = w
the_words (WordList ws) = Each []
the_words (Records rs) = Each []

abbrev pub the_records : Arg → List Record
the_records (Number n) = []
the_records (Signed z) = []
the_records (OneUnit u) = []
the_records (Flag b) = []
the_records (Text us) = []
the_records (Area r) = []
the_records (Clip r) = []
the_records (WordsOf w) = []
the_records (WordList ws) = []
the_records (Records rs) = rs

-- after these arguments, one after another
abbrev pub put_all : {S : Type 0} → (S → Arg → S) → S → List Arg → S
put_all put s [] = s
put_all put s (a ∷ xs) = put_all put (put s a) xs
