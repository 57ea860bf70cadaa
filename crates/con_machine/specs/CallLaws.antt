-- What most calls leave: all but the screens, the lines, the handles, the modes and the title. And no call answers a view.
use Rattle.std.proofs.Common.{◌≡◌, ℕ, Bool, true, false, List, Option, Some, None, Result, Ok, Err, refl, ap, ◌∙◌}
use Rattle.std.specs.Prelude.{if◌then◌else◌, ◌+◌, ◌-◌, ◌&&◌, ◌==◌, pos, nat_lt, nat_le, not, length, map, min, take}
use Rattle.con_units.specs.Natural.{natural}
use Rattle.con_units.specs.Attr.{plain}
use Rattle.con_units.specs.Glyph.{Glyph, cell_of}
use Rattle.con_units.specs.declared.code.Code.{Code}
use Rattle.con_units.specs.declared.code.Code.TheVariants as code
use Rattle.con_units.specs.declared.place.Coord.{Coord}
use Rattle.con_units.specs.declared.place.Rect.{Rect}
use Rattle.con_units.specs.declared.view.View.{View}
use Rattle.con_events.specs.declared.call.Call.{Call}
use Rattle.con_events.specs.declared.call.Call.TheVariants as calls
use Rattle.con_events.specs.declared.reply.Reply.{Reply}
use Rattle.con_events.specs.declared.reply.Reply.TheVariants as replies
use Rattle.con_grid.specs.Picture.{Picture}
use Rattle.con_handles.specs.Handles.{new_number}
use Rattle.con_handles.specs.declared.handle.Handle.{Handle}
use Rattle.con_handles.specs.declared.handle.Kind.TheVariants as kind
use Rattle.con_handles.specs.declared.handle.Object.{Object}
use Rattle.con_handles.specs.declared.handle.Object.TheVariants as object
use Rattle.con_procs.specs.Procs.{ids_of, program_of}
use Rattle.con_procs.specs.declared.proc.Proc.{Proc}
use Rattle.con_readers.specs.declared.open.Open.{Open}
use Rattle.con_records.specs.declared.record.Record.{Record}
use Rattle.con_screens.specs.Buffers.{Buffers, screen_at, free_id, gone, with_buffer, handles_of}
use Rattle.con_screens.specs.Words.Buffers.{with_handles}
use Rattle.con_screen.specs.ModeSet.{mode_set}
use Rattle.con_page.specs.Setters.{info_of, cursor_set, origin_set, pen_of_word}
use Rattle.con_rects.specs.Rules.{rect_cells, rect_written}
use Rattle.con_rects.specs.Runs.{run_count, run_cells, units_written, words_written, unit_filled, word_filled}
use Rattle.con_rects.specs.Scroll.{scrolled}
use Rattle.con_alias.specs.Aliases as alias
use Rattle.con_alias.specs.Aliases.{Entry, added, removed, alias_at, entries_in}
use Rattle.con_history.specs.Histories.{configured, is_refused, cleared, lines_of}
use Rattle.con_machine.specs.State.{State}
use Rattle.con_machine.specs.Outcome.{Outcome, refused, answered, done, by_answer, while_open, guard, on_input, on_buffer, buffer_of, are_rights, checked}
use Rattle.con_machine.specs.Words.Outcome.{by_result, with_object}
use Rattle.con_machine.specs.Call.{called}
use Rattle.con_machine.specs.HandleCalls.{opened, buffer_made, handle_with}
use Rattle.con_machine.specs.Words.HandleCalls.{opened_at, retained, released}
use Rattle.con_machine.specs.ScreenCalls.{mode_in, mode_changed, is_input_mode, with_screen, with_page, page_of}
use Rattle.con_machine.specs.Words.ScreenCalls.{numbers_of, is_size, refitted_at, is_place, cursor_numbers, is_origin}
use Rattle.con_machine.specs.CellCalls.{cells_of, with_cells, cells_for, are_cells, run_told, at_place, run_answer}
use Rattle.con_machine.specs.Words.CellCalls.{is_over, used_in, used_of, rect_told, rect_answer, sides_of}
use Rattle.con_machine.specs.InputCalls.{peek_told}
use Rattle.con_machine.specs.LineCalls.{info_numbers, pair_of, told_alias_in}
use Rattle.con_machine.specs.Marks.{told}
use Rattle.con_machine.specs.declared.reads.noted.Noted.{Noted}
use Rattle.con_machine.specs.declared.reads.rest.Rest.{Rest}

-- what the laws of events speak of
pub record Parts : Type 0 where
  pub procs : List Proc
  pub reads : List Open
  pub noted : List Noted
  pub rests : List Rest
  pub records : List Record
  pub wide : ℕ
  pub high : ℕ
  pub drained : Bool
  pub closed : Bool
  pub painted : Option View
  pub resized : Bool
  pub asked : Bool

abbrev pub parts : State → Parts
parts s = record {
  procs = s.procs;
  reads = s.reads;
  noted = s.noted;
  rests = s.rests;
  records = s.records;
  wide = s.buffers.w;
  high = s.buffers.h;
  drained = s.drained;
  closed = s.closed;
  painted = s.painted;
  resized = s.resized;
  asked = s.asked;
}

-- an outcome that leaves them, and answers no view
pub record Stands (s : State) (o : Outcome) : Type 0 where
  pub is : parts o.after ≡ parts s
  pub plain : told o.reply ≡ o.reply

-- a call that may change one of them: it closes a handle, writes text, whose reports are records, writes or flushes records, or is about processes
abbrev pub moves_parts : Call → Bool
moves_parts (calls.Close h) = true
moves_parts (calls.Write h text) = true
moves_parts (calls.WriteInput h records) = true
moves_parts (calls.Flush h) = true
moves_parts (calls.Signal event group) = true
moves_parts (calls.Ignore on) = true
moves_parts (calls.HandlerAdd place) = true
moves_parts (calls.HandlerRemove place) = true
moves_parts _ = false

-- ---- a handle more, and one less, leave the sides of the window

one_of : (b : Bool) (x y : Buffers) (f : Buffers → ℕ) (n : ℕ) → f x ≡ n → f y ≡ n → f (if b then x else y) ≡ n
one_of true x y f n e g = e
one_of false x y f n e g = g

pub retained_is : (o : Object) (b : Buffers) (f : Buffers → ℕ) → ((id n : ℕ) → f (with_buffer b id (with_handles n)) ≡ f b) → f (retained o b) ≡ f b
retained_is object.Input b f k = refl
retained_is (object.Output id) b f k = one_of (id.0 == 0) b (with_buffer b id.0 (with_handles (handles_of b id.0 + 1))) f (f b) refl
    (k id.0 (handles_of b id.0 + 1))

pub released_is : (o : Object) (b : Buffers) (f : Buffers → ℕ) → ((id : ℕ) → f (gone b id) ≡ f b) → ((id n : ℕ) → f (with_buffer b id (with_handles n)) ≡ f b)
    → f (released o b) ≡ f b
released_is object.Input b f g k = refl
released_is (object.Output id) b f g k =
    let rest : Buffers = if nat_le (handles_of b id.0) 1 then gone b id.0 else with_buffer b id.0 (with_handles (handles_of b id.0 - 1)) in
    one_of (id.0 == 0) b rest f (f b) refl (one_of (nat_le (handles_of b id.0) 1) (gone b id.0) (with_buffer b id.0 (with_handles (handles_of b id.0 - 1))) f
    (f b) (g id.0) (k id.0 (handles_of b id.0 - 1)))

-- other handles and buffers, of the same sides
sides_same : (s : State) (hs : List Handle) (b : Buffers) → b.w ≡ s.buffers.w → b.h ≡ s.buffers.h → parts (record s { handles = hs; buffers = b }) ≡ parts s
sides_same s hs b w h = ap (λ (n : ℕ). record (parts s) { wide = n; high = b.h }) w ∙ ap (λ (n : ℕ). record (parts s) { high = n }) h

-- ---- answers that are no view

reply_of : (b : Bool) (x y : Reply) → told x ≡ x → told y ≡ y → told (if b then x else y) ≡ (if b then x else y)
reply_of true x y h k = h
reply_of false x y h k = k

rect_plain : (g : Picture) (r : Rect) → told (rect_told g r) ≡ rect_told g r
rect_plain g r = reply_of (is_over (used_in g r)) (replies.Fail code.Limit) (replies.Cells (used_of g r) (rect_cells g r)) refl refl

run_plain : (g : Picture) (at : Coord) (n : ℕ) (part : Glyph → ℕ) → told (run_told g at n part) ≡ run_told g at n part
run_plain g at n part = reply_of (is_over (run_count g at n)) (replies.Fail code.Limit) (replies.Units (map part (run_cells g at n))) refl refl

peek_plain : (rs : List Record) (n : ℕ) → told (peek_told rs n) ≡ peek_told rs n
peek_plain rs n = reply_of (n == 0) (replies.Fail code.BadArgument) (if nat_lt 1024 n then replies.Fail code.Limit else replies.Records (take n rs)) refl
    (reply_of (nat_lt 1024 n) (replies.Fail code.Limit) (replies.Records (take n rs)) refl refl)

module _ (s : State) (p : ℕ) where
  -- ---- choices

  no : (why : Code) → Stands s (refused s why)
  no why = record { is = refl; plain = refl }

  said : (reply : Reply) → told reply ≡ reply → Stands s (answered s reply)
  said reply e = record { is = refl; plain = e }

  changed : (t : State) (reply : Reply) → parts t ≡ parts s → told reply ≡ reply → Stands s (answered t reply)
  changed t reply k e = record { is = k; plain = e }

  either : (b : Bool) (x y : Outcome) → Stands s x → Stands s y → Stands s (if b then x else y)
  either true x y k l = k
  either false x y k l = l

  if_open : (o : Outcome) → Stands s o → Stands s (while_open s o)
  if_open o k = either s.closed (refused s code.Closed) o (no code.Closed) k

  if_object : (r : Result Object Code) (f : Object → Outcome) → ((o : Object) → Stands s (f o)) → Stands s (with_object s r f)
  if_object (Err why) f k = no why
  if_object (Ok o) f k = k o

  if_buffer : (h right : ℕ) (f : ℕ → Outcome) → ((id : ℕ) → Stands s (f id)) → Stands s (on_buffer s p h right f)
  if_buffer h right f k = if_object (guard s p h kind.Output right) (λ o. f (buffer_of o)) (λ o. k (buffer_of o))

  if_input : (h right : ℕ) (o : Outcome) → Stands s o → Stands s (on_input s p h right o)
  if_input h right o k = if_object (guard s p h kind.Input right) (λ _. o) (λ _. k)

  if_answer : (r : Result (Unit {0}) Code) (t : State) → parts t ≡ parts s → Stands s (by_answer s r t)
  if_answer (Err why) t k = no why
  if_answer (Ok u) t k = record { is = k; plain = refl }

  if_result : {A : Type 0} (r : Result A Code) (t : State) (f : A → Reply) → parts t ≡ parts s → ((a : A) → told (f a) ≡ f a) → Stands s (by_result s r t f)
  if_result (Err why) t f k e = no why
  if_result (Ok a) t f k e = record { is = k; plain = e a }

  -- ---- calls of more cases

  opened_so : (o : Object) (rights : ℕ) (r : Result ℕ Code) → Stands s (opened_at s p o rights r)
  opened_so o rights (Err why) = no why
  opened_so o rights (Ok n) =
      let k = sides_same s (handle_with s p n o rights) (retained o s.buffers) (retained_is o s.buffers (λ b. b.w) (λ id n. refl))
      (retained_is o s.buffers (λ b. b.h) (λ id n. refl)) in
      changed (record s { handles = handle_with s p n o rights; buffers = retained o s.buffers }) (replies.Number n) k refl

  opens_one : (o : Object) (rights : ℕ) → Stands s (opened s p o rights)
  opens_one o rights = either (are_rights rights) (opened_at s p o rights (new_number s.handles p)) (refused s code.BadArgument)
      (opened_so o rights (new_number s.handles p)) (no code.BadArgument)

  makes : (rights : ℕ) (r : Result ℕ Code) (id : Option ℕ) → Stands s (buffer_made s p rights r id)
  makes rights (Err why) id = no code.Limit
  makes rights (Ok n) None = no code.Limit
  makes rights (Ok n) (Some id) = record { is = refl; plain = refl }

  sets_mode : (n : ℕ) (o : Object) → Stands s (mode_changed s n o)
  sets_mode n object.Input = if_answer (checked (is_input_mode n)) (record s { mode = n }) refl
  sets_mode n (object.Output id) = if_answer (checked (nat_lt n 0x10)) (with_screen s id.0 (mode_set (screen_at s.buffers id.0) n)) refl

  tells_alias : (e : Option Entry) → Stands s (told_alias_in s e)
  tells_alias None = no code.NoAlias
  tells_alias (Some e) = said (replies.Units e.target) refl

  -- on a page of a buffer: done where the test holds
  sets : (h : ℕ) (b : ℕ → Bool) (f : ℕ → State) → ((id : ℕ) → parts (f id) ≡ parts s)
      → Stands s (on_buffer s p h 2 (λ id. by_answer s (checked (b id)) (f id)))
  sets h b f e = if_buffer h 2 (λ id. by_answer s (checked (b id)) (f id)) (λ id. if_answer (checked (b id)) (f id) (e id))

  -- on a page of a buffer: done
  does : (h : ℕ) (f : ℕ → State) (reply : ℕ → Reply) → ((id : ℕ) → parts (f id) ≡ parts s) → ((id : ℕ) → told (reply id) ≡ reply id)
      → Stands s (on_buffer s p h 2 (λ id. answered (f id) (reply id)))
  does h f reply e k = if_buffer h 2 (λ id. answered (f id) (reply id)) (λ id. changed (f id) (reply id) (e id) (k id))

  -- of a buffer: told
  tells : (h : ℕ) (reply : ℕ → Reply) → ((id : ℕ) → told (reply id) ≡ reply id) → Stands s (on_buffer s p h 1 (λ id. answered s (reply id)))
  tells h reply k = if_buffer h 1 (λ id. answered s (reply id)) (λ id. said (reply id) (k id))

  -- ---- each call

  each_call : (x : Call) → moves_parts x ≡ false → Stands s (called s p x)
  unfolding called
  each_call (calls.BufferCreate rights) m =
      let o : Outcome = (if are_rights rights then buffer_made s p rights (new_number s.handles p) (free_id s.buffers) else refused s code.BadArgument) in
      if_open o (either (are_rights rights) (buffer_made s p rights (new_number s.handles p) (free_id s.buffers)) (refused s code.BadArgument)
      (makes rights (new_number s.handles p) (free_id s.buffers)) (no code.BadArgument))
  each_call (calls.OpenOut rights) m = if_open _ (opens_one _ rights)
  each_call (calls.OpenIn rights) m = if_open _ (opens_one _ rights)
  each_call (calls.Close h) m = absurd (cc)
  each_call (calls.Duplicate h rights) m = if_object (guard s p h kind.Any (if are_rights rights then rights else 0)) (λ o. opened s p o rights)
      (λ o. opens_one o rights)
  each_call (calls.Activate h) m = does h (λ id. record s { buffers = record s.buffers { active = id } }) (λ id. replies.Done) (λ id. refl) (λ id. refl)
  each_call (calls.Mode h) m = if_object (guard s p h kind.Any 1) (λ o. answered s (replies.Number (mode_in s o)))
      (λ o. said (replies.Number (mode_in s o)) refl)
  each_call (calls.SetMode h mode) m = if_object (guard s p h kind.Any 2) (mode_changed s mode) (λ o. sets_mode mode o)
  each_call (calls.Info h) m = tells h (λ id. replies.Numbers (numbers_of (info_of (page_of s id)))) (λ id. refl)
  each_call (calls.SetSize handle w h) m = sets handle (λ id. is_size s.buffers id w h) (λ id. record s { buffers = refitted_at s.buffers id w h })
      (λ id. refl)
  each_call (calls.SetCursor h x y) m = sets h (λ id. is_place (page_of s id) x y) (λ id. with_page s id (cursor_set (page_of s id) (natural x) (natural y)))
      (λ id. refl)
  each_call (calls.CursorInfo h) m = tells h (λ id. replies.Numbers (cursor_numbers (page_of s id).cursor_size (page_of s id).visible)) (λ id. refl)
  each_call (calls.SetCursorInfo h size visible) m = sets h (λ id. nat_lt 0 size && nat_le size 100)
      (λ id. with_page s id (record (page_of s id) { cursor_size = size; visible = visible })) (λ id. refl)
  each_call (calls.SetOrigin h x y) m = sets h (λ id. is_origin (page_of s id) x y) (λ id. with_page s id (origin_set (page_of s id) (natural x) (natural y)))
      (λ id. refl)
  each_call (calls.SetAttr h word) m = does h (λ id. with_page s id (record (page_of s id) { pen = pen_of_word word })) (λ id. replies.Done) (λ id. refl)
      (λ id. refl)
  each_call calls.Title m = if_open (answered s (replies.Units s.title)) (said (replies.Units s.title) refl)
  each_call (calls.SetTitle text) m =
      let t : State = record s { title = text } in
      if_open (if nat_le (length text) 255 then done t else refused s code.BadArgument)
      (either (nat_le (length text) 255) (done t) (refused s code.BadArgument) (changed t replies.Done refl refl) (no code.BadArgument))
  each_call (calls.Write h text) m = absurd (cc)
  each_call (calls.RectRead h rect) m = tells h (λ id. rect_told (cells_of s id) rect) (λ id. rect_plain (cells_of s id) rect)
  each_call (calls.RectWrite h rect text words) m =
      let t : ℕ → State = λ id. with_cells s id (rect_written (cells_of s id) rect (cells_for text words)) in
      let o : ℕ → Outcome = λ id. by_result s (rect_answer (cells_of s id) rect) (t id) (λ used. replies.Numbers (sides_of used)) in
      if_buffer h 2 (λ id. if are_cells rect text words then o id else refused s code.BadArgument)
      (λ id. either (are_cells rect text words) (o id) (refused s code.BadArgument)
      (if_result (rect_answer (cells_of s id) rect) (t id) (λ used. replies.Numbers (sides_of used)) refl (λ used. refl)) (no code.BadArgument))
  each_call (calls.RunReadUnits h x y n) m = tells h (λ id. run_told (cells_of s id) (at_place x y) n (λ g. g.unit))
      (λ id. run_plain (cells_of s id) (at_place x y) n (λ g. g.unit))
  each_call (calls.RunReadAttrs h x y n) m = tells h (λ id. run_told (cells_of s id) (at_place x y) n (λ g. g.attr.word))
      (λ id. run_plain (cells_of s id) (at_place x y) n (λ g. g.attr.word))
  each_call (calls.RunWriteUnits h x y text) m =
      let t : ℕ → State = λ id. with_cells s id (units_written (cells_of s id) (at_place x y) text) in
      if_buffer h 2 (λ id. by_result s (run_answer (cells_of s id) (at_place x y) (length text)) (t id) replies.Number)
      (λ id. if_result (run_answer (cells_of s id) (at_place x y) (length text)) (t id) replies.Number refl (λ n. refl))
  each_call (calls.RunWriteAttrs h x y words) m =
      let t : ℕ → State = λ id. with_cells s id (words_written (cells_of s id) (at_place x y) words) in
      if_buffer h 2 (λ id. by_result s (run_answer (cells_of s id) (at_place x y) (length words)) (t id) replies.Number)
      (λ id. if_result (run_answer (cells_of s id) (at_place x y) (length words)) (t id) replies.Number refl (λ n. refl))
  each_call (calls.FillUnits h x y n unit) m = does h (λ id. with_cells s id (unit_filled (cells_of s id) (at_place x y) n unit))
      (λ id. replies.Number (run_count (cells_of s id) (at_place x y) n)) (λ id. refl) (λ id. refl)
  each_call (calls.FillAttrs h x y n word) m = does h (λ id. with_cells s id (word_filled (cells_of s id) (at_place x y) n word))
      (λ id. replies.Number (run_count (cells_of s id) (at_place x y) n)) (λ id. refl) (λ id. refl)
  each_call (calls.Scroll h rect clip x y unit word) m = does h
      (λ id. with_cells s id (scrolled (cells_of s id) rect clip (at_place x y) (cell_of unit (plain word)))) (λ id. replies.Done) (λ id. refl) (λ id. refl)
  each_call (calls.Peek h n) m = if_input h 1 (answered s (peek_told s.records n)) (said (peek_told s.records n) (peek_plain s.records n))
  each_call (calls.WriteInput h records) m = absurd (cc)
  each_call (calls.Count h) m = let reply : Reply = replies.Number (min (length s.records) 4294967295) in if_input h 1 (answered s reply) (said reply refl)
  each_call (calls.Flush h) m = absurd (cc)
  each_call calls.HistoryInfo m = if_open (answered s (replies.Numbers (info_numbers s.histories.info)))
      (said (replies.Numbers (info_numbers s.histories.info)) refl)
  each_call (calls.SetHistory lines number flag) m =
      let t : State = record s { histories = configured s.histories (record { lines = lines; number = number; flag = flag }) } in
      let r = checked (not (is_refused (record { lines = lines; number = number; flag = flag }))) in
      if_open (by_answer s r t) (if_answer r t refl)
  each_call calls.HistoryList m =
      let reply : Reply = replies.Lines (lines_of s.histories (program_of s.procs p)) in
      if_open (answered s reply) (said reply refl)
  each_call calls.HistoryClear m =
      let t : State = record s { histories = cleared s.histories (program_of s.procs p) } in
      if_open (done t) (changed t replies.Done refl refl)
  each_call (calls.AliasAdd program source target) m =
      let t : State = record s { aliases = added s.aliases program source target } in
      if_open (by_answer s (alias.add_answer s.aliases program source target) t) (if_answer (alias.add_answer s.aliases program source target) t refl)
  each_call (calls.AliasRemove program source) m =
      let t : State = record s { aliases = removed s.aliases program source } in
      if_open (by_answer s (alias.remove_answer s.aliases program source) t) (if_answer (alias.remove_answer s.aliases program source) t refl)
  each_call (calls.AliasGet program source) m = if_open (told_alias_in s (alias_at s.aliases program source))
      (tells_alias (alias_at s.aliases program source))
  each_call (calls.AliasList program) m =
      let reply : Reply = replies.Lines (map pair_of (entries_in s.aliases program)) in
      if_open (answered s reply) (said reply refl)
  each_call calls.Processes m = let reply : Reply = replies.Numbers (map (λ id. pos id) (ids_of s.procs)) in if_open (answered s reply) (said reply refl)
  each_call (calls.Signal event group) m = absurd (cc)
  each_call (calls.Ignore on) m = absurd (cc)
  each_call (calls.HandlerAdd place) m = absurd (cc)
  each_call (calls.HandlerRemove place) m = absurd (cc)

-- every other call leaves the parts, and answers no view
pub stands : (s : State) (p : ℕ) (x : Call) → moves_parts x ≡ false → Stands s (called s p x)
stands s p x m = each_call s p x m
