-- A line is told again.
use Rattle.std.proofs.Common.{◌≡◌, refl, ap, ◌∙◌, arith, ℕ, ◌*◌, ◌+◌, ◌<◌, ◌-◌, ◌/◌, ◌%◌, List, [], ◌∷◌, ◌++◌, length, map, Option, Some, None, Bool, true, false}
use Rattle.std.specs.Prelude.{ℤ, pos, negsuc, ◌==◌, option_map, option_and_then, decimal}
use Rattle.std.specs.Int.{is_in_range}
use Rattle.std.proofs.lemmas.Fmt.{decimal_by_steps}
use Rattle.std.proofs.lemmas.Bool.Decides.{nat_tests}
use Rattle.con_units.specs.Glyph.{Glyph}
use Rattle.con_units.specs.declared.code.Code.{Code}
use Rattle.con_units.specs.declared.code.Code.TheVariants as code
use Rattle.con_units.specs.declared.view.FrameFault.TheVariants as fault
use Rattle.con_events.specs.declared.actor.Actor.{Actor}
use Rattle.con_events.specs.declared.actor.Actor.TheVariants as actor
use Rattle.con_events.specs.declared.call.Call.{Call}
use Rattle.con_events.specs.declared.call.Call.TheVariants as call
use Rattle.con_events.specs.declared.event.Event.{Event}
use Rattle.con_events.specs.declared.event.Event.TheVariants as event
use Rattle.con_events.specs.declared.event.Wanted.TheVariants.{Read, ReadInput, ReadWith}
use Rattle.con_events.specs.declared.reply.Reply.{Reply}
use Rattle.con_events.specs.declared.reply.Reply.TheVariants as reply
use Rattle.con_events.specs.Arg.{Arg}
use Rattle.con_events.specs.Words.Fits.{ArgsFit}
use Rattle.con_events.specs.Words.Table.{name_of, args_of}
use Rattle.con_events.specs.Reading.{call_from, whole as whole_from}
use Rattle.con_events.specs.declared.form.Form.{Form}
use Rattle.con_lines.specs.declared.said.Said.{Said}
use Rattle.con_lines.specs.Form.{form_of}
use Rattle.con_lines.specs.Words.Form.{event_name}
use Rattle.con_lines.specs.Shown.{whole, units_text, shown, cell_words}
use Rattle.con_lines.specs.Words.Shown.{items}
use Rattle.con_lines.specs.Line.{number_and_flag, reply_data, event_data, actor_text, answer_data, line_data}
use Rattle.con_lines.specs.Fits.{IsOwn, EventFits, ReplyFits, refused, is_done, is_number, are_fields, number_and_flag as number_and_flag_fit, are_sides, are_ids, are_units, are_records, are_cells, are_lines, waited_units, waited_records, is_control, AnswerFits}
use Rattle.con_lines.specs.Words.Fits.{IsWhole, AreWhole, AreTexts, AreRead}
use Rattle.con_lines.specs.Ending.{Ending, IsEnding, done, no_memory, usage, document, link, terminal, missing, failed, too_long, mirror, frame, ending_data}
use Rattle.con_lines.specs.Fits.{IsLine}
use Rattle.con_lines.specs.Told.{whole_in, units_in, all_in, if_many, flag_of, number_and_flag_in, cells_from, reply_in, told, as_told, call_in, event_in, of_terminal, of_client, of_painter, one_digit, digits_after, actor_in, answer_in, said_in, ending_in}
use Rattle.con_lines.proofs.ToldBack.{is_below, is_most, units_back, bytes_back, rect_back, records_back, told_back}

-- ---- answers

same_number : (n : ℕ) → (n == n) ≡ true
same_number n = grind (arith, nat_tests)

whole_back : (z : ℤ) → IsWhole z → whole_in (whole z) ≡ Some z
whole_back (pos n) p = rw (is_below n 9223372036854775808 p, is_most n 9223372036854775807 (omega (arith, p))) refl
whole_back (negsuc n) p = rw (is_most n 9223372036854775807 (omega (arith, p))) refl

wholes_back : (zs : List ℤ) → AreWhole zs → all_in whole_in (items (map whole zs)) ≡ Some zs
wholes_back [] p = refl
wholes_back (z ∷ zs) p = rw (whole_back z p.0, wholes_back zs p.1) refl

many_back : (n : ℕ) (zs : List ℤ) → length zs ≡ n → if_many n zs ≡ Some zs
many_back n zs e = rw (e, same_number n) refl

flag_back : (z : ℤ) (b : Bool) → IsWhole z → number_and_flag_in (items (number_and_flag (z ∷ flag_of b ∷ []))) ≡ Some (z ∷ flag_of b ∷ [])
flag_back z true p = rw (whole_back z p) refl
flag_back z false p = rw (whole_back z p) refl

lines_back : (ls : List (List ℕ)) → AreTexts ls → all_in units_in (items (map units_text ls)) ≡ Some ls
lines_back [] p = refl
lines_back (us ∷ ls) p = rw (units_back us p.0, lines_back ls p.1) refl

cells_back : (gs : List Glyph) → AreRead gs → cells_from (cell_words gs) ≡ Some gs
cells_back [] p = refl
cells_back (g ∷ gs) p = rw (cells_back gs p.1) (ap (λ c. Some (c ∷ gs)) p.0)

fail_back : (f : Form) (c : Code) → reply_in f (reply_data f (reply.Fail c)) ≡ Some (reply.Fail c)
fail_back f code.Denied = refl
fail_back f code.BadHandle = refl
fail_back f code.NoAlias = refl
fail_back f code.BadArgument = refl
fail_back f code.Closed = refl
fail_back f code.Aborted = refl
fail_back f code.Limit = refl

pub reply_back : (f : Form) (r : Reply) → ReplyFits f r → reply_in f (reply_data f r) ≡ Some r
reply_back _ _ (refused f c) = fail_back f c
reply_back _ _ is_done = refl
reply_back _ _ (is_number n p) = rw (is_below n 4294967296 p) refl
reply_back _ _ (are_fields n zs e p) = rw (wholes_back zs p, many_back n zs e) refl
reply_back _ _ (number_and_flag_fit z b p) = rw (flag_back z b p) refl
reply_back _ _ (are_sides zs e p) = rw (wholes_back zs p, many_back 4 zs e) refl
reply_back _ _ (are_ids zs p) = rw (wholes_back zs p) refl
reply_back _ _ (are_units us p) = rw (units_back us p) refl
reply_back _ _ (are_records rs p) = rw (records_back rs p) refl
reply_back _ _ (are_cells r gs p q s) = rw (rect_back r p, units_back (cell_words gs) q, cells_back gs s) refl
reply_back _ _ (are_lines ls p) = rw (lines_back ls p) refl
reply_back _ _ (waited_units us p) = rw (units_back us p) refl
reply_back _ _ (waited_records rs p) = rw (records_back rs p) refl
reply_back _ _ (is_control n p) = rw (is_below n 4294967296 p) refl

-- ---- events

as_told_is : (xs : List Arg) → as_told (items (map shown xs)) ≡ map (λ a. told (shown a)) xs
as_told_is [] = refl
as_told_is (a ∷ xs) = ap (λ r. told (shown a) ∷ r) (as_told_is xs)

-- a call's name is none of the other events'
call_event : (c : Call) → of_client (name_of c) (items (map shown (args_of c))) ≡ call_in (name_of c) (items (map shown (args_of c)))
unfolding of_client
call_event (call.BufferCreate a) = refl
call_event (call.OpenOut a) = refl
call_event (call.OpenIn a) = refl
call_event (call.Close a) = refl
call_event (call.Duplicate a b) = refl
call_event (call.Activate a) = refl
call_event (call.Mode a) = refl
call_event (call.SetMode a b) = refl
call_event (call.Info a) = refl
call_event (call.SetSize a b c) = refl
call_event (call.SetCursor a b c) = refl
call_event (call.CursorInfo a) = refl
call_event (call.SetCursorInfo a b c) = refl
call_event (call.SetOrigin a b c) = refl
call_event (call.SetAttr a b) = refl
call_event call.Title = refl
call_event (call.SetTitle a) = refl
call_event (call.Write a b) = refl
call_event (call.RectRead a b) = refl
call_event (call.RectWrite a b c d) = refl
call_event (call.RunReadUnits a b c d) = refl
call_event (call.RunReadAttrs a b c d) = refl
call_event (call.RunWriteUnits a b c d) = refl
call_event (call.RunWriteAttrs a b c d) = refl
call_event (call.FillUnits a b c d e) = refl
call_event (call.FillAttrs a b c d e) = refl
call_event (call.Scroll a b c d e f g) = refl
call_event (call.Peek a b) = refl
call_event (call.WriteInput a b) = refl
call_event (call.Count a) = refl
call_event (call.Flush a) = refl
call_event call.HistoryInfo = refl
call_event (call.SetHistory a b c) = refl
call_event call.HistoryList = refl
call_event call.HistoryClear = refl
call_event (call.AliasAdd a b c) = refl
call_event (call.AliasRemove a b) = refl
call_event (call.AliasGet a b) = refl
call_event (call.AliasList a) = refl
call_event call.Processes = refl
call_event (call.Signal a b) = refl
call_event (call.Ignore a) = refl
call_event (call.HandlerAdd a) = refl
call_event (call.HandlerRemove a) = refl

call_event_back : (c : Call) → ArgsFit (args_of c) → of_client (name_of c) (items (map shown (args_of c))) ≡ Some (event.Call c)
call_event_back c p = call_event c
    ∙ (ap (λ ds. option_map event.Call (whole_from (call_from (name_of c) ds))) (as_told_is (args_of c))
    ∙ ap (λ o. option_map event.Call (whole_from o)) (told_back c p))

never : false ≡ true → ⊥
never h = absurd (cc)

pub event_back : (a : Actor) (e : Event) → IsOwn a e → EventFits e → event_in a (event_name e) (items (event_data e)) ≡ Some e
unfolding of_client of_terminal of_painter
event_back (actor.Client n) (event.Call c) o p = call_event_back c p
event_back (actor.Client n) (event.Begin (Read h m)) o p = rw (is_below h 4294967296 p.0, is_below m 4294967296 p.1.0) refl
event_back (actor.Client n) (event.Begin (ReadInput h m)) o p = rw (is_below h 4294967296 p.0, is_below m 4294967296 p.1.0) refl
event_back (actor.Client n) (event.Begin (ReadWith h m us k)) o p = rw (is_below h 4294967296 p.0, is_below m 4294967296 p.1.0, is_below k 4294967296 p.1.1.1.0, units_back us p.1.1.0) refl
event_back (actor.Client n) event.Collect o p = refl
event_back (actor.Client n) event.TakeCtrl o p = refl
event_back (actor.Client n) (event.Exit s) o p = rw (is_below s 4294967296 p.0) refl
event_back (actor.Client n) other o p = absurd (never o.2)
event_back actor.Terminal (event.Feed bs) o p = rw (bytes_back bs p) refl
event_back actor.Terminal event.Quiet o p = refl
event_back actor.Terminal (event.Resize s) o p = rw (is_below s.w 65536 p.0, is_below s.h 65536 p.1.0) refl
event_back actor.Terminal event.Ask o p = refl
event_back actor.Terminal event.Hangup o p = refl
event_back actor.Terminal event.Drained o p = refl
event_back actor.Terminal other o p = absurd (never o)
event_back actor.Painter event.Paint o p = refl
event_back actor.Painter other o p = absurd (never o)

-- ---- a whole line

then_append : (o : Option ℕ) (xs ys : List ℕ) → ((m : ℕ) → digits_after m (xs ++ ys) ≡ option_and_then (λ k. digits_after k ys) (digits_after m xs))
    → option_and_then (λ m. digits_after m (xs ++ ys)) o ≡ option_and_then (λ k. digits_after k ys) (option_and_then (λ m. digits_after m xs) o)
then_append None xs ys h = refl
then_append (Some m) xs ys h = h m

digits_append : (n : ℕ) (xs ys : List ℕ) → digits_after n (xs ++ ys) ≡ option_and_then (λ m. digits_after m ys) (digits_after n xs)
digits_append n [] ys = refl
digits_append n (c ∷ xs) ys = then_append (one_digit n c) xs ys (λ m. digits_append m xs ys)

digit_told : (n : ℕ) → n < 256 → one_digit (n / 10) (48 + n % 10) ≡ Some n
digit_told n small =
    let range : is_in_range 48 57 (48 + n % 10) ≡ true = grind (arith, nat_tests) in
    let value : n / 10 * 10 + (48 + n % 10 - 48) ≡ n = omega arith in
    rw (range, value, is_below n 256 small) refl

first_told : (n : ℕ) → n < 10 → one_digit 0 (48 + n) ≡ Some n
first_told n small =
    let range : is_in_range 48 57 (48 + n) ≡ true = grind (arith, nat_tests) in
    let value : 0 * 10 + (48 + n - 48) ≡ n = omega arith in
    let below : n < 256 = omega (arith, small) in
    rw (range, value, is_below n 256 below) refl

digits_back : (n : ℕ) → n < 256 → digits_after 0 (decimal n) ≡ Some n
digits_back n small = decimal_by_steps (λ m ds. m < 256 → digits_after 0 ds ≡ Some m)
    (λ m h p. rw (first_told m h) refl)
    (λ m ds h q p. digits_append 0 ds ((48 + m % 10) ∷ []) ∙ rw (q (omega arith), digit_told m p) refl) n (omega arith) small

client_back : (n : ℕ) → 0 < n → n < 256 → actor_in (actor_text (actor.Client n)) ≡ Some (actor.Client n)
client_back n some small =
    let digits : digits_after 0 (decimal n) ≡ Some n = digits_back n small in
    let not_zero : (n == 0) ≡ false = grind (arith, nat_tests) in
    rw (digits, not_zero) refl

actor_back : (a : Actor) (e : Event) → IsOwn a e → actor_in (actor_text a) ≡ Some a
actor_back (actor.Client n) e o = client_back n o.0 o.1
actor_back actor.Terminal e o = refl
actor_back actor.Painter e o = refl

plain_back : (f : Form) (r : Reply) (end : ℕ) → ReplyFits f r × (end ≡ 0) → option_map {T = Reply} {U = Reply × ℕ} (λ r. (r, 0)) (reply_in f (reply_data f r)) ≡ Some (r, end)
plain_back f r end p = rw (reply_back f r p.0, p.1) refl

answer_back : (e : Event) (r : Reply) (end : ℕ) → AnswerFits e r end → answer_in e (answer_data e r end) ≡ Some (r, end)
answer_back event.Paint r end p = rw (p.0, is_below end 18446744073709551616 p.1) refl
answer_back other r end p = plain_back (form_of other) r end p

pub said_back : (s : Said) → IsLine s → said_in (line_data s.entry s.reply s.end) ≡ Some s
said_back s p = rw (
  actor_back s.entry.actor s.entry.event p.own,
  event_back s.entry.actor s.entry.event p.own p.event,
  answer_back s.entry.event s.reply s.end p.answer,
) refl

pub ending_back : (e : Ending) → IsEnding e → ending_in (ending_data e) ≡ Some e
ending_back _ done = refl
ending_back _ no_memory = refl
ending_back _ usage = refl
ending_back _ (document path p) = refl
ending_back _ link = refl
ending_back _ terminal = refl
ending_back _ missing = refl
ending_back _ failed = refl
ending_back _ too_long = refl
ending_back _ mirror = refl
ending_back _ (frame place fault.Tag p) = rw (is_below place 18446744073709551616 p) refl
ending_back _ (frame place fault.Length p) = rw (is_below place 18446744073709551616 p) refl
ending_back _ (frame place fault.Size p) = rw (is_below place 18446744073709551616 p) refl
ending_back _ (frame place fault.Cut p) = rw (is_below place 18446744073709551616 p) refl
