-- Six parts between ESC [ and m.
use Rattle.std.proofs.Common.{◌++◌, false}
use Rattle.con_strokes.specs.Bytes.{csi_bytes, separated, part, parts}
use Rattle.con_strokes.specs.Pens.{numbers_of, bold_number, underline_number, negative_number, foreground_number, background_number, foreground_numbers, background_numbers}
use Rattle.con_strokes.proofs.LeadLemmas.{six_separated, bracketed}
use Rattle.con_strokes.proofs.pen.pen_bytes.Goals as goal

pub returns-clause-bytes : goal.returns-clause-bytes
unfolding csi_bytes numbers_of
returns-clause-bytes c =
    let a = c.args.changes in let w = c.args.attr in
    bracketed _ _ _ _ _ (separated false (part a.reset 0 ++ part a.bold (bold_number w) ++ part a.underline (underline_number w) ++ part a.negative (negative_number w) ++ parts a.foreground (foreground_numbers w) ++ parts a.background (background_numbers w))) 0x6D c.push_reserved.ensures.items c.push_reserved-2.ensures.items
    (six_separated a.reset a.bold a.underline a.negative a.foreground a.background c.number_if-first.result c.number_if-second.result c.number_if-third.result c.number_if-fourth.result c.colour_if-fifth.result
    0 (bold_number w) (underline_number w) (negative_number w) (foreground_number w) (background_number w) w.fore w.back _ _ _ _ _ _ _ c.number_if-first.ensures.some c.number_if-second.ensures.some c.number_if-third.ensures.some c.number_if-fourth.ensures.some c.colour_if-fifth.ensures.some
    c.number_if-first.ensures.bytes (rw c.bold_number.ensures.number at c.number_if-second.ensures.bytes) (rw c.underline_number.ensures.number at c.number_if-third.ensures.bytes) (rw c.negative_number.ensures.number at c.number_if-fourth.ensures.bytes)
    (rw (c.foreground_number-fore.ensures.number, c.fore.ensures.value) at c.colour_if-fifth.ensures.bytes) (rw (c.background_number-back.ensures.number, c.back.ensures.value) at c.colour_if.ensures.bytes))
    c.push_reserved-3.ensures.items
