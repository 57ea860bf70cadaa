-- Lines are plain: they are read as they were written, and end at their line feed.
use Rattle.std.proofs.Common.{ℕ, suc, ◌+◌, ◌/◌, ◌%◌, ◌<◌, List, [], ◌∷◌, map, refl, arith, Some, None}
use Rattle.std.specs.Prelude.{ℤ, pos, negsuc, decimal, nat_lt, codes, if◌then◌else◌}
use Rattle.std.specs.Char.{digit_char}
use Rattle.std.specs.Str.{IsUtf8}
use Rattle.std.proofs.lemmas.Bool.Decides.{nat_tests}
use Rattle.std.proofs.lemmas.Bool.{cond_both}
use Rattle.std.proofs.lemmas.Fmt.{IsAscii-decimal}
use Rattle.std.proofs.lemmas.Str.{IsUtf8-from_ascii, IsUtf8-append}
use Rattle.json.proofs.Printed.Utf8.{IsUtf8-are_ascii}
use Rattle.con_units.specs.declared.code.Code.{Code}
use Rattle.con_units.specs.declared.code.Code.TheVariants as code
use Rattle.con_units.specs.declared.view.FrameFault.{FrameFault}
use Rattle.con_units.specs.declared.view.FrameFault.TheVariants as fault
use Rattle.con_units.specs.declared.place.Rect.{Rect}
use Rattle.con_records.specs.declared.record.Record.{Record}
use Rattle.con_records.specs.declared.record.Record.TheVariants as record_of
use Rattle.con_events.specs.declared.actor.Actor.{Actor}
use Rattle.con_events.specs.declared.actor.Actor.TheVariants as actor
use Rattle.con_events.specs.declared.call.Call.{Call}
use Rattle.con_events.specs.declared.call.Call.TheVariants as call
use Rattle.con_events.specs.declared.call.Words.TheVariants.{One, Each}
use Rattle.con_events.specs.declared.event.Event.{Event}
use Rattle.con_events.specs.declared.event.Event.TheVariants as event
use Rattle.con_events.specs.declared.event.Wanted.TheVariants.{Read, ReadInput, ReadWith}
use Rattle.con_events.specs.declared.reply.Reply.{Reply}
use Rattle.con_events.specs.declared.reply.Reply.TheVariants as reply
use Rattle.con_events.specs.Arg.{Arg, Number, Signed, OneUnit, Flag, Text, Area, Clip, WordsOf, WordList, Records}
use Rattle.con_events.specs.Fits.{AreUnits, RectFits, RecordFits, ArgFits}
use Rattle.con_events.specs.Words.Fits.{IsSmall, RecordsFit, ArgsFit}
use Rattle.con_events.specs.Words.Table.{name_of}
use Rattle.con_events.specs.declared.form.Form.{Form}
use Rattle.con_lines.specs.declared.said.Said.{Said}
use Rattle.con_lines.specs.Form.{event_spelled, form_of}
use Rattle.con_lines.specs.Words.Form.{event_name}
use Rattle.con_lines.specs.Hex.{hex_units, hex_bytes}
use Rattle.con_lines.specs.Shown.{whole, units_text, rect_data, record_data, shown, cell_words}
use Rattle.con_lines.specs.Words.Shown.{items}
use Rattle.con_lines.specs.Line.{number_and_flag, reply_data, answer_data, event_data, actor_text, line_data}
use Rattle.con_lines.specs.Fits.{IsOwn, EventFits, ReplyFits, refused, is_done, is_number, are_fields, number_and_flag as number_and_flag_fit, are_sides, are_ids, are_units, are_records, are_cells, are_lines, waited_units, waited_records, is_control, AnswerFits}
use Rattle.con_lines.specs.Words.Fits.{AreBytes, IsWhole, AreWhole, AreTexts}
use Rattle.con_lines.specs.Ending.{Ending, IsEnding, done, no_memory, usage, document, link, terminal, missing, failed, too_long, mirror, frame, kind_text, ending_data}
use Rattle.con_lines.specs.Fits.{IsLine}
use Rattle.con_lines.proofs.ReadBack.{IsPlain, ArePlain}

-- ---- hexadecimal digits

abbrev AreAscii : List ℕ → Type 0
AreAscii [] = Unit {0}
AreAscii (b ∷ bs) = (b < 128) × AreAscii bs

ascii_utf8 : (s : List ℕ) → AreAscii s → IsUtf8 s
ascii_utf8 [] p = IsUtf8-are_ascii [] refl
ascii_utf8 (b ∷ bs) p = IsUtf8-append (b ∷ []) bs (IsUtf8-are_ascii (b ∷ []) (grind (arith, nat_tests))) (ascii_utf8 bs p.1)

digit_ascii : (d : ℕ) → d < 16 → digit_char d < 128
digit_ascii d p = cond_both (nat_lt d 10) (48 + d) (87 + d) (λ c. c < 128) (λ h. omega (arith, p)) (λ h. omega (arith, p))

units_ascii : (us : List ℕ) → AreUnits us → AreAscii (hex_units us)
units_ascii [] p = tt
units_ascii (u ∷ us) p = let small = p.0 in (digit_ascii (u / 4096) (omega arith), (digit_ascii (u / 256 % 16) (omega arith), (digit_ascii (u / 16 % 16) (omega arith), (digit_ascii (u % 16) (omega arith), units_ascii us p.1))))

bytes_ascii : (bs : List ℕ) → AreBytes bs → AreAscii (hex_bytes bs)
bytes_ascii [] p = tt
bytes_ascii (b ∷ bs) p = let small = p.0 in (digit_ascii (b / 16) (omega arith), (digit_ascii (b % 16) (omega arith), bytes_ascii bs p.1))

units_utf8 : (us : List ℕ) → AreUnits us → IsUtf8 (hex_units us)
units_utf8 us p = ascii_utf8 (hex_units us) (units_ascii us p)

-- ---- values

small_plain : (z : ℤ) (k : ℕ) → IsSmall z → IsPlain (whole z) k
small_plain (pos n) k p = omega (arith, p)
small_plain (negsuc n) k p = omega (arith, p)

rect_plain : (r : Rect) (k : ℕ) → RectFits r → IsPlain (rect_data r) (suc k)
rect_plain r k p = (small_plain r.left k p.0, (small_plain r.top k p.1, (small_plain r.right k p.2, (small_plain r.bottom k p.3, tt))))

record_plain : (r : Record) (k : ℕ) → RecordFits r → IsPlain (record_data r) (suc k)
record_plain (record_of.Key x) k p = (IsUtf8-are_ascii (codes "key") refl, (tt, (omega (arith, p.0), (omega (arith, p.1), (omega (arith, p.2), (omega (arith, p.3), (omega (arith, p.4), tt)))))))
record_plain (record_of.Mouse m) k p = (IsUtf8-are_ascii (codes "mouse") refl, (small_plain m.x k p.0, (small_plain m.y k p.1, (omega (arith, p.2), (omega (arith, p.3), (omega (arith, p.4), tt))))))
record_plain (record_of.Size s) k p = (IsUtf8-are_ascii (codes "size") refl, (omega (arith, p.0), (omega (arith, p.1), tt)))
record_plain (record_of.Menu n) k p = (IsUtf8-are_ascii (codes "menu") refl, (omega (arith, p), tt))
record_plain (record_of.Focus b) k p = (IsUtf8-are_ascii (codes "focus") refl, (tt, tt))

records_plain : (rs : List Record) (k : ℕ) → RecordsFit rs → ArePlain (items (map record_data rs)) (suc k)
records_plain [] k p = tt
records_plain (r ∷ rs) k p = (record_plain r k p.0, records_plain rs k p.1)

arg_plain : (a : Arg) (k : ℕ) → ArgFits a → IsPlain (shown a) (suc (suc k))
arg_plain (Number n) k p = omega (arith, p)
arg_plain (Signed z) k p = small_plain z (suc (suc k)) p
arg_plain (OneUnit u) k p = omega (arith, p)
arg_plain (Flag b) k p = tt
arg_plain (Text us) k p = units_utf8 us p
arg_plain (Area r) k p = rect_plain r (suc k) p
arg_plain (Clip None) k p = tt
arg_plain (Clip (Some r)) k p = rect_plain r (suc k) p
arg_plain (WordsOf (One w)) k p = omega (arith, p)
arg_plain (WordsOf (Each ws)) k p = units_utf8 ws p
arg_plain (WordList ws) k p = units_utf8 ws p
arg_plain (Records rs) k p = records_plain rs k p

args_plain : (xs : List Arg) (k : ℕ) → ArgsFit xs → ArePlain (items (map shown xs)) (suc (suc k))
args_plain [] k p = tt
args_plain (a ∷ xs) k p = (arg_plain a k p.0, args_plain xs k p.1)

-- ---- names

call_utf8 : (c : Call) → IsUtf8 (name_of c)
call_utf8 (call.BufferCreate a) = IsUtf8-are_ascii _ refl
call_utf8 (call.OpenOut a) = IsUtf8-are_ascii _ refl
call_utf8 (call.OpenIn a) = IsUtf8-are_ascii _ refl
call_utf8 (call.Close a) = IsUtf8-are_ascii _ refl
call_utf8 (call.Duplicate a b) = IsUtf8-are_ascii _ refl
call_utf8 (call.Activate a) = IsUtf8-are_ascii _ refl
call_utf8 (call.Mode a) = IsUtf8-are_ascii _ refl
call_utf8 (call.SetMode a b) = IsUtf8-are_ascii _ refl
call_utf8 (call.Info a) = IsUtf8-are_ascii _ refl
call_utf8 (call.SetSize a b c) = IsUtf8-are_ascii _ refl
call_utf8 (call.SetCursor a b c) = IsUtf8-are_ascii _ refl
call_utf8 (call.CursorInfo a) = IsUtf8-are_ascii _ refl
call_utf8 (call.SetCursorInfo a b c) = IsUtf8-are_ascii _ refl
call_utf8 (call.SetOrigin a b c) = IsUtf8-are_ascii _ refl
call_utf8 (call.SetAttr a b) = IsUtf8-are_ascii _ refl
call_utf8 call.Title = IsUtf8-are_ascii _ refl
call_utf8 (call.SetTitle a) = IsUtf8-are_ascii _ refl
call_utf8 (call.Write a b) = IsUtf8-are_ascii _ refl
call_utf8 (call.RectRead a b) = IsUtf8-are_ascii _ refl
call_utf8 (call.RectWrite a b c d) = IsUtf8-are_ascii _ refl
call_utf8 (call.RunReadUnits a b c d) = IsUtf8-are_ascii _ refl
call_utf8 (call.RunReadAttrs a b c d) = IsUtf8-are_ascii _ refl
call_utf8 (call.RunWriteUnits a b c d) = IsUtf8-are_ascii _ refl
call_utf8 (call.RunWriteAttrs a b c d) = IsUtf8-are_ascii _ refl
call_utf8 (call.FillUnits a b c d e) = IsUtf8-are_ascii _ refl
call_utf8 (call.FillAttrs a b c d e) = IsUtf8-are_ascii _ refl
call_utf8 (call.Scroll a b c d e f g) = IsUtf8-are_ascii _ refl
call_utf8 (call.Peek a b) = IsUtf8-are_ascii _ refl
call_utf8 (call.WriteInput a b) = IsUtf8-are_ascii _ refl
call_utf8 (call.Count a) = IsUtf8-are_ascii _ refl
call_utf8 (call.Flush a) = IsUtf8-are_ascii _ refl
call_utf8 call.HistoryInfo = IsUtf8-are_ascii _ refl
call_utf8 (call.SetHistory a b c) = IsUtf8-are_ascii _ refl
call_utf8 call.HistoryList = IsUtf8-are_ascii _ refl
call_utf8 call.HistoryClear = IsUtf8-are_ascii _ refl
call_utf8 (call.AliasAdd a b c) = IsUtf8-are_ascii _ refl
call_utf8 (call.AliasRemove a b) = IsUtf8-are_ascii _ refl
call_utf8 (call.AliasGet a b) = IsUtf8-are_ascii _ refl
call_utf8 (call.AliasList a) = IsUtf8-are_ascii _ refl
call_utf8 call.Processes = IsUtf8-are_ascii _ refl
call_utf8 (call.Signal a b) = IsUtf8-are_ascii _ refl
call_utf8 (call.Ignore a) = IsUtf8-are_ascii _ refl
call_utf8 (call.HandlerAdd a) = IsUtf8-are_ascii _ refl
call_utf8 (call.HandlerRemove a) = IsUtf8-are_ascii _ refl

event_utf8 : (e : Event) → IsUtf8 (event_name e)
event_utf8 (event.Call c) = call_utf8 c
event_utf8 (event.Begin (Read h n)) = IsUtf8-are_ascii _ refl
event_utf8 (event.Begin (ReadInput h n)) = IsUtf8-are_ascii _ refl
event_utf8 (event.Begin (ReadWith h n us m)) = IsUtf8-are_ascii _ refl
event_utf8 event.Collect = IsUtf8-are_ascii _ refl
event_utf8 event.TakeCtrl = IsUtf8-are_ascii _ refl
event_utf8 (event.Exit n) = IsUtf8-are_ascii _ refl
event_utf8 (event.Feed bs) = IsUtf8-are_ascii _ refl
event_utf8 event.Quiet = IsUtf8-are_ascii _ refl
event_utf8 (event.Resize s) = IsUtf8-are_ascii _ refl
event_utf8 event.Ask = IsUtf8-are_ascii _ refl
event_utf8 event.Hangup = IsUtf8-are_ascii _ refl
event_utf8 event.Drained = IsUtf8-are_ascii _ refl
event_utf8 event.Paint = IsUtf8-are_ascii _ refl

actor_utf8 : (a : Actor) (e : Event) → IsOwn a e → IsUtf8 (actor_text a)
actor_utf8 (actor.Client n) e o = let small = o.1 in IsUtf8-append (99 ∷ []) (decimal n) (IsUtf8-are_ascii (99 ∷ []) refl) (IsUtf8-from_ascii (decimal n) (IsAscii-decimal n (omega arith)))
actor_utf8 actor.Terminal e o = IsUtf8-are_ascii _ refl
actor_utf8 actor.Painter e o = IsUtf8-are_ascii _ refl

-- ---- events

event_plain : (e : Event) (k : ℕ) → EventFits e → ArePlain (items (event_data e)) (suc (suc k))
event_plain (event.Feed bs) k p = (ascii_utf8 (hex_bytes bs) (bytes_ascii bs p), tt)
event_plain other k p = args_plain (event_spelled other).1 k p

-- ---- answers

ok_utf8 : IsUtf8 (codes "ok")
ok_utf8 = IsUtf8-are_ascii (codes "ok") refl

whole_plain : (z : ℤ) (k : ℕ) → IsWhole z → IsPlain (whole z) k
whole_plain (pos n) k p = omega (arith, p)
whole_plain (negsuc n) k p = p

wholes_plain : (zs : List ℤ) (k : ℕ) → AreWhole zs → ArePlain (items (map whole zs)) k
wholes_plain [] k p = tt
wholes_plain (z ∷ zs) k p = (whole_plain z k p.0, wholes_plain zs k p.1)

flag_plain : (z b : ℤ) (k : ℕ) → IsWhole z → ArePlain (items (number_and_flag (z ∷ b ∷ []))) k
flag_plain z b k p = (whole_plain z k p, (tt, tt))

texts_plain : (ls : List (List ℕ)) (k : ℕ) → AreTexts ls → ArePlain (items (map units_text ls)) k
texts_plain [] k p = tt
texts_plain (us ∷ ls) k p = (units_utf8 us p.0, texts_plain ls k p.1)

code_plain : (f : Form) (c : Code) (k : ℕ) → IsPlain (reply_data f (reply.Fail c)) (suc k)
code_plain f code.Denied k = (IsUtf8-are_ascii (codes "fail") refl, (omega arith, tt))
code_plain f code.BadHandle k = (IsUtf8-are_ascii (codes "fail") refl, (omega arith, tt))
code_plain f code.NoAlias k = (IsUtf8-are_ascii (codes "fail") refl, (omega arith, tt))
code_plain f code.BadArgument k = (IsUtf8-are_ascii (codes "fail") refl, (omega arith, tt))
code_plain f code.Closed k = (IsUtf8-are_ascii (codes "fail") refl, (omega arith, tt))
code_plain f code.Aborted k = (IsUtf8-are_ascii (codes "fail") refl, (omega arith, tt))
code_plain f code.Limit k = (IsUtf8-are_ascii (codes "fail") refl, (omega arith, tt))

reply_plain : (f : Form) (r : Reply) (k : ℕ) → ReplyFits f r → IsPlain (reply_data f r) (suc (suc (suc k)))
reply_plain _ _ k (refused f c) = code_plain f c (suc (suc k))
reply_plain _ _ k is_done = (ok_utf8, tt)
reply_plain _ _ k (is_number n p) = (ok_utf8, (omega (arith, p), tt))
reply_plain _ _ k (are_fields n zs e p) = (ok_utf8, wholes_plain zs (suc (suc k)) p)
reply_plain _ _ k (number_and_flag_fit z b p) = (ok_utf8, flag_plain z (if b then pos 1 else pos 0) (suc (suc k)) p)
reply_plain _ _ k (are_sides zs e p) = (ok_utf8, (wholes_plain zs (suc k) p, tt))
reply_plain _ _ k (are_ids zs p) = (ok_utf8, (wholes_plain zs (suc k) p, tt))
reply_plain _ _ k (are_units us p) = (ok_utf8, (units_utf8 us p, tt))
reply_plain _ _ k (are_records rs p) = (ok_utf8, (records_plain rs k p, tt))
reply_plain _ _ k (are_cells r gs p q s) = (ok_utf8, (rect_plain r (suc k) p, (units_utf8 (cell_words gs) q, tt)))
reply_plain _ _ k (are_lines ls p) = (ok_utf8, (texts_plain ls (suc k) p, tt))
reply_plain _ _ k (waited_units us p) = (ok_utf8, (units_utf8 us p, tt))
reply_plain _ _ k (waited_records rs p) = (ok_utf8, (records_plain rs k p, tt))
reply_plain _ _ k (is_control n p) = (IsUtf8-are_ascii (codes "ctrl") refl, (omega (arith, p), tt))

answer_plain : (e : Event) (r : Reply) (end : ℕ) (k : ℕ) → AnswerFits e r end → IsPlain (answer_data e r end) (suc (suc (suc k)))
answer_plain event.Paint r end k p = (IsUtf8-are_ascii (codes "painted") refl, (p.1, tt))
answer_plain other r end k p = reply_plain (form_of other) r k p.0

-- ---- lines

pub line_plain : (s : Said) → IsLine s → IsPlain (line_data s.entry s.reply s.end) 4
line_plain s p = (actor_utf8 s.entry.actor s.entry.event p.own, (event_utf8 s.entry.event, (event_plain s.entry.event 0 p.event, (answer_plain s.entry.event s.reply s.end 0 p.answer, tt))))

kind_utf8 : (k : FrameFault) → IsUtf8 (kind_text k)
kind_utf8 fault.Tag = IsUtf8-are_ascii _ refl
kind_utf8 fault.Length = IsUtf8-are_ascii _ refl
kind_utf8 fault.Size = IsUtf8-are_ascii _ refl
kind_utf8 fault.Cut = IsUtf8-are_ascii _ refl

end_utf8 : IsUtf8 (codes "end")
end_utf8 = IsUtf8-are_ascii (codes "end") refl

pub ending_plain : (e : Ending) → IsEnding e → IsPlain (ending_data e) 1
ending_plain _ done = (end_utf8, (omega arith, tt))
ending_plain _ no_memory = (end_utf8, (omega arith, tt))
ending_plain _ usage = (end_utf8, (omega arith, (IsUtf8-are_ascii _ refl, tt)))
ending_plain _ (document path p) = (end_utf8, (omega arith, (p, tt)))
ending_plain _ link = (end_utf8, (omega arith, (IsUtf8-are_ascii _ refl, tt)))
ending_plain _ terminal = (end_utf8, (omega arith, (IsUtf8-are_ascii _ refl, tt)))
ending_plain _ missing = (end_utf8, (omega arith, (IsUtf8-are_ascii _ refl, tt)))
ending_plain _ failed = (end_utf8, (omega arith, (IsUtf8-are_ascii _ refl, tt)))
ending_plain _ too_long = (end_utf8, (omega arith, (IsUtf8-are_ascii _ refl, tt)))
ending_plain _ mirror = (end_utf8, (omega arith, (IsUtf8-are_ascii _ refl, tt)))
ending_plain _ (frame place kind p) = (end_utf8, (omega arith, (p, (kind_utf8 kind, tt))))
