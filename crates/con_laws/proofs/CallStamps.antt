-- Nor does what a call does, or answers.
use Rattle.std.proofs.Common.{◌≡◌, ℕ, Bool, true, false, not, ◌&&◌, List, length, Option, Some, None, Result, Ok, Err, refl, sym, ap, ◌∙◌}
use Rattle.std.specs.Prelude.{if◌then◌else◌, ◌==◌, ◌||◌, nat_lt, nat_le}
use Rattle.con_units.specs.Attr.{plain}
use Rattle.con_units.specs.Glyph.{Glyph, cell_of}
use Rattle.con_units.specs.Natural.{natural}
use Rattle.con_units.specs.declared.code.Code.{Code}
use Rattle.con_units.specs.declared.code.Code.TheVariants as code
use Rattle.con_units.specs.declared.place.Rect.{Rect}
use Rattle.con_alias.specs.Aliases as alias
use Rattle.con_alias.specs.Aliases.{Entry, alias_at, added, removed}
use Rattle.con_events.specs.declared.call.Call.{Call}
use Rattle.con_events.specs.declared.call.Call.TheVariants as calls
use Rattle.con_events.specs.declared.reply.Reply.{Reply}
use Rattle.con_events.specs.declared.reply.Reply.TheVariants as replies
use Rattle.con_grid.specs.Picture.{Picture}
use Rattle.con_handles.specs.Handles.{new_number}
use Rattle.con_handles.specs.declared.handle.Kind.TheVariants as kind
use Rattle.con_handles.specs.declared.handle.Object.{Object}
use Rattle.con_handles.specs.declared.handle.Object.TheVariants as object
use Rattle.con_history.specs.Histories.{configured, is_refused}
use Rattle.con_procs.specs.Procs.{add_answer, handler_added, remove_answer, handler_removed}
use Rattle.con_rects.specs.Rules.{redrawn, rect_cells, rect_written}
use Rattle.con_rects.specs.Runs.{run_count, units_written, words_written, unit_filled, word_filled}
use Rattle.con_rects.specs.Scroll.{scrolled}
use Rattle.con_screen.specs.ModeSet.{mode_set}
use Rattle.con_page.specs.Mode.{number_of}
use Rattle.con_page.specs.Page.{Page, shown}
use Rattle.con_screen.specs.Screen.{Screen}
use Rattle.con_page.specs.Setters.{info_of, cursor_set, origin_set, pen_of_word}
use Rattle.con_screen.specs.Told.{Told, nothing_told}
use Rattle.con_page.specs.Fit.{refitted}
use Rattle.con_screens.specs.Buffer.{buffer_written, told_on}
use Rattle.con_screens.specs.Buffers.{Buffers, buffer_at, screen_at, free_id, with_buffer}
use Rattle.con_machine.specs.State.{State}
use Rattle.con_machine.specs.Outcome.{Outcome, refused, answered, done, by_answer, checked, while_open, guard, on_buffer, on_input, buffer_of, are_rights}
use Rattle.con_machine.specs.Words.Outcome.{by_result, with_object}
use Rattle.con_machine.specs.HandleCalls.{handle_with, opened, buffer_made}
use Rattle.con_machine.specs.Words.HandleCalls.{retained, released, opened_at, handle_closed, owned}
use Rattle.con_machine.specs.ScreenCalls.{page_of, with_page, with_screen, mode_in, mode_changed, is_input_mode}
use Rattle.con_machine.specs.Words.ScreenCalls.{page_at, page_left, numbers_of, is_size, refitted_at, is_place, cursor_numbers, is_origin, told_by, written_to}
use Rattle.con_machine.specs.CellCalls.{run_told, run_answer, at_place, cells_for, are_cells}
use Rattle.con_machine.specs.Words.CellCalls.{rect_told, used_of, is_over, used_in, rect_answer, sides_of}
use Rattle.con_machine.specs.LineCalls.{told_alias_in}
use Rattle.con_machine.specs.ProcessCalls.{is_no_signal}
use Rattle.con_machine.specs.Words.ProcessCalls.{on_place}
use Rattle.con_machine.specs.Signals.{signalled_to}
use Rattle.con_machine.specs.Call.{called}
use Rattle.con_laws.specs.Unstamped.{unstamped_grid, unstamped_page, unstamped_screen, unstamped_buffers, unstamped}
use Rattle.con_laws.proofs.BufferStamps.{screen_same, page_same, text_same, told_on_same, left_same, page_left_same, alternate_same, retained_one, released_one, created_same, free_same, refitted_same}

-- an outcome without stamps
abbrev pub out : Outcome → Outcome
out o = record o { after = unstamped o.after }

-- ---- pages of a console

pub page_is : (s : State) (id : ℕ) → page_of (unstamped s) id ≡ unstamped_page (page_of s id)
page_is s id = page_same s.buffers id

pub page_changed : (s : State) (id : ℕ) (f : Page → Page) → ((p : Page) → unstamped_page (f p) ≡ f (unstamped_page p))
    → unstamped (with_page s id (f (page_of s id))) ≡ with_page (unstamped s) id (f (page_of (unstamped s) id))
page_changed s id f k = ap (λ (b : Buffers). let t : State = record s { buffers = b } in t)
    (page_left_same s.buffers id (f (page_at s.buffers id))
    ∙ ap (page_left (unstamped_buffers s.buffers) id) (k (page_at s.buffers id) ∙ ap f (sym (page_same s.buffers id))))

pub screen_changed : (s : State) (id : ℕ) (f : Screen → Screen) → ((w : Screen) → unstamped_screen (f w) ≡ f (unstamped_screen w))
    → unstamped (with_screen s id (f (screen_at s.buffers id))) ≡ with_screen (unstamped s) id (f (screen_at (unstamped_buffers s.buffers) id))
screen_changed s id f k = ap (λ (b : Buffers). let t : State = record s { buffers = b } in t)
    (left_same s.buffers id (f (screen_at s.buffers id))
    ∙ ap (λ (w : Screen). let t : State = with_screen (unstamped s) id w in t.buffers) (k (screen_at s.buffers id) ∙ ap f (sym (screen_same s.buffers id))))

retained_same : (o : Object) (b : Buffers) → unstamped_buffers (retained o b) ≡ retained o (unstamped_buffers b)
retained_same object.Input b = refl
retained_same (object.Output id) b = retained_one b id.0

pub released_same : (o : Object) (b : Buffers) → unstamped_buffers (released o b) ≡ released o (unstamped_buffers b)
released_same object.Input b = refl
released_same (object.Output id) b = released_one b id.0

-- ---- cells that are read

cells_same : (g : Picture) (r : Rect) → rect_cells (unstamped_grid g) r ≡ rect_cells g r
unfolding rect_cells
cells_same g r = refl

rect_same : (g : Picture) (r : Rect) → rect_told (unstamped_grid g) r ≡ rect_told g r
rect_same g r = ap (λ (cells : List Glyph). if is_over (used_in g r) then replies.Fail code.Limit else replies.Cells (used_of g r) cells) (cells_same g r)

-- ---- choices

pub either : (b : Bool) (x y z w : Outcome) → out x ≡ z → out y ≡ w → out (if b then x else y) ≡ (if b then z else w)
either true x y z w h k = h
either false x y z w h k = k

pub states : (b : Bool) (x y z w : State) → unstamped x ≡ z → unstamped y ≡ w → unstamped (if b then x else y) ≡ (if b then z else w)
states true x y z w h k = h
states false x y z w h k = k

if_open : (s : State) (o z : Outcome) → out o ≡ z → out (while_open s o) ≡ while_open (unstamped s) z
if_open s o z k = either s.closed (refused s code.Closed) o (refused (unstamped s) code.Closed) z refl k

pub if_object : (s : State) (r : Result Object Code) (f g : Object → Outcome) → ((o : Object) → out (f o) ≡ g o)
    → out (with_object s r f) ≡ with_object (unstamped s) r g
if_object s (Err why) f g k = refl
if_object s (Ok o) f g k = k o

if_buffer : (s : State) (p h right : ℕ) (f g : ℕ → Outcome) → ((id : ℕ) → out (f id) ≡ g id)
    → out (on_buffer s p h right f) ≡ on_buffer (unstamped s) p h right g
if_buffer s p h right f g k = if_object s (guard s p h kind.Output right) (λ o. f (buffer_of o)) (λ o. g (buffer_of o)) (λ o. k (buffer_of o))

if_input : (s : State) (p h right : ℕ) (o z : Outcome) → out o ≡ z → out (on_input s p h right o) ≡ on_input (unstamped s) p h right z
if_input s p h right o z k = if_object s (guard s p h kind.Input right) (λ _. o) (λ _. z) (λ _. k)

pub if_answer : (s : State) (r : Result (Unit {0}) Code) (t u : State) → unstamped t ≡ u → out (by_answer s r t) ≡ by_answer (unstamped s) r u
if_answer s (Err why) t u k = refl
if_answer s (Ok x) t u k = ap (λ (v : State). done v) k

if_result : {A : Type 0} (s : State) (r : Result A Code) (t u : State) (f : A → Reply) → unstamped t ≡ u
    → out (by_result s r t f) ≡ by_result (unstamped s) r u f
if_result s (Err why) t u f k = refl
if_result s (Ok a) t u f k = ap (λ (v : State). answered v (f a)) k

-- told of a page
told_page : (s : State) (p h right : ℕ) (f : Page → Reply) → ((q : Page) → f (unstamped_page q) ≡ f q)
    → out (on_buffer s p h right (λ id. answered s (f (page_of s id)))) ≡ on_buffer (unstamped s) p h right
    (λ id. answered (unstamped s) (f (page_of (unstamped s) id)))
told_page s p h right f k = if_buffer s p h right (λ id. answered s (f (page_of s id))) (λ id. answered (unstamped s) (f (page_of (unstamped s) id)))
    (λ id. ap (answered (unstamped s)) (sym (ap f (page_is s id) ∙ k (page_of s id))))

-- a page becomes another one, where a test of it holds
set_page : (s : State) (p h : ℕ) (r : Page → Bool) (f : Page → Page) → ((q : Page) → r (unstamped_page q) ≡ r q)
    → ((q : Page) → unstamped_page (f q) ≡ f (unstamped_page q))
    → out (on_buffer s p h 2 (λ id. by_answer s (checked (r (page_of s id))) (with_page s id (f (page_of s id)))))
    ≡ on_buffer (unstamped s) p h 2 (λ id. by_answer (unstamped s) (checked (r (page_of (unstamped s) id)))
    (with_page (unstamped s) id (f (page_of (unstamped s) id))))
set_page s p h r f e k =
    if_buffer s p h 2 (λ id. by_answer s (checked (r (page_of s id))) (with_page s id (f (page_of s id))))
    (λ id. by_answer (unstamped s) (checked (r (page_of (unstamped s) id))) (with_page (unstamped s) id (f (page_of (unstamped s) id))))
    (λ id. if_answer s (checked (r (page_of s id))) (with_page s id (f (page_of s id))) (with_page (unstamped s) id (f (page_of (unstamped s) id)))
    (page_changed s id f k)
    ∙ ap (λ (b : Bool). by_answer (unstamped s) (checked b) (with_page (unstamped s) id (f (page_of (unstamped s) id))))
    (sym (ap r (page_is s id) ∙ e (page_of s id))))

-- a page becomes another one, and something of it is answered
do_page : (s : State) (p h : ℕ) (f : Page → Page) (reply : Page → Reply) → ((q : Page) → unstamped_page (f q) ≡ f (unstamped_page q))
    → ((q : Page) → reply (unstamped_page q) ≡ reply q)
    → out (on_buffer s p h 2 (λ id. answered (with_page s id (f (page_of s id))) (reply (page_of s id))))
    ≡ on_buffer (unstamped s) p h 2 (λ id. answered (with_page (unstamped s) id (f (page_of (unstamped s) id))) (reply (page_of (unstamped s) id)))
do_page s p h f reply k e =
    if_buffer s p h 2 (λ id. answered (with_page s id (f (page_of s id))) (reply (page_of s id)))
    (λ id. answered (with_page (unstamped s) id (f (page_of (unstamped s) id))) (reply (page_of (unstamped s) id)))
    (λ id. ap (λ (t : State). answered t (reply (page_of s id))) (page_changed s id f k)
    ∙ ap (answered (with_page (unstamped s) id (f (page_of (unstamped s) id)))) (sym (ap reply (page_is s id) ∙ e (page_of s id))))

-- and so where the call is refused by what it has
result_page : {A : Type 0} (s : State) (p h : ℕ) (f : Page → Page) (r : Page → Result A Code) (reply : A → Reply)
    → ((q : Page) → unstamped_page (f q) ≡ f (unstamped_page q)) → ((q : Page) → r (unstamped_page q) ≡ r q) → (id : ℕ)
    → out (by_result s (r (page_of s id)) (with_page s id (f (page_of s id))) reply) ≡ by_result (unstamped s) (r (page_of (unstamped s) id))
    (with_page (unstamped s) id (f (page_of (unstamped s) id))) reply
result_page s p h f r reply k e id =
    if_result s (r (page_of s id)) (with_page s id (f (page_of s id))) (with_page (unstamped s) id (f (page_of (unstamped s) id))) reply (page_changed s id f k)
    ∙ ap (λ x. by_result (unstamped s) x (with_page (unstamped s) id (f (page_of (unstamped s) id))) reply) (sym (ap r (page_is s id) ∙ e (page_of s id)))

-- ---- calls of more cases

opened_so : (s : State) (p : ℕ) (o : Object) (rights : ℕ) (r : Result ℕ Code) → out (opened_at s p o rights r) ≡ opened_at (unstamped s) p o rights r
opened_so s p o rights (Err why) = refl
opened_so s p o rights (Ok n) = ap (λ (b : Buffers). let t : State = record s { handles = handle_with s p n o rights; buffers = b } in answered t
    (replies.Number n)) (retained_same o s.buffers)

opens_one : (s : State) (p : ℕ) (o : Object) (rights : ℕ) → out (opened s p o rights) ≡ opened (unstamped s) p o rights
opens_one s p o rights = either (are_rights rights) (opened_at s p o rights (new_number s.handles p)) (refused s code.BadArgument)
    (opened_at (unstamped s) p o rights (new_number s.handles p)) (refused (unstamped s) code.BadArgument)
    (opened_so s p o rights (new_number s.handles p)) refl

makes : (s : State) (p rights : ℕ) (r : Result ℕ Code) (id : Option ℕ) → out (buffer_made s p rights r id) ≡ buffer_made (unstamped s) p rights r id
makes s p rights (Err why) id = refl
makes s p rights (Ok n) None = refl
makes s p rights (Ok n) (Some id) = ap (λ (b : Buffers). let t : State = record (buffer_made s p rights (Ok n) (Some id)).after { buffers = b } in answered t
    (replies.Number n)) (created_same s.buffers id)

closes_one : (s : State) (p h : ℕ) (o : Object) → out (done (handle_closed s p h o)) ≡ done (handle_closed (unstamped s) p h o)
closes_one s p h o = ap (λ (b : Buffers). let t : State = record (handle_closed s p h o) { buffers = b } in done t) (released_same o s.buffers)

mode_of_same : (s : State) (o : Object) → mode_in (unstamped s) o ≡ mode_in s o
mode_of_same s object.Input = refl
mode_of_same s (object.Output id) = ap (λ (q : Page). number_of q.mode) (page_is s id.0)

sets_mode : (s : State) (n : ℕ) (o : Object) → out (mode_changed s n o) ≡ mode_changed (unstamped s) n o
sets_mode s n object.Input = if_answer s (checked (is_input_mode n)) (record s { mode = n }) (record (unstamped s) { mode = n }) refl
sets_mode s n (object.Output id) = if_answer s (checked (nat_lt n 0x10)) (with_screen s id.0 (mode_set (screen_at s.buffers id.0) n))
    (with_screen (unstamped s) id.0 (mode_set (screen_at (unstamped_buffers s.buffers) id.0) n)) (screen_changed s id.0 (λ w. mode_set w n) (λ w. refl))

sizes_one : (s : State) (id w h : ℕ) → out (by_answer s (checked (is_size s.buffers id w h)) (record s { buffers = refitted_at s.buffers id w h }))
    ≡ by_answer (unstamped s) (checked (is_size (unstamped_buffers s.buffers) id w h))
    (record (unstamped s) { buffers = refitted_at (unstamped_buffers s.buffers) id w h })
sizes_one s id w h =
    let f : Page → Page = λ q. refitted q (record { w = w; h = h }) (record { w = s.buffers.w; h = s.buffers.h }) in
    let u : State = record (unstamped s) { buffers = refitted_at (unstamped_buffers s.buffers) id w h } in
    if_answer s (checked (is_size s.buffers id w h)) (record s { buffers = refitted_at s.buffers id w h }) u
    (page_changed s id f (λ q. refitted_same q (record { w = w; h = h }) (record { w = s.buffers.w; h = s.buffers.h })))
    ∙ ap (λ (b : Bool). by_answer (unstamped s) (checked
    (nat_le s.buffers.w w && nat_le s.buffers.h h && nat_le w 512 && nat_le h 2048 && (not b || ((w == s.buffers.w) && (h == s.buffers.h))))) u)
    (sym (alternate_same s.buffers id))

writes_one : (s : State) (id : ℕ) (text : List ℕ) → unstamped (written_to s id text) ≡ written_to (unstamped s) id text
writes_one s id text =
    let t : Told = told_on (buffer_at s.buffers id) nothing_told text in
    ap (λ (b : Buffers). told_by (record s { buffers = b }) t) (text_same s.buffers id nothing_told text)
    ∙ ap (λ (x : Told). told_by (record s { buffers = with_buffer (unstamped_buffers s.buffers) id (buffer_written nothing_told text) }) x)
    (sym (told_on_same s.buffers id nothing_told text))

tells_alias : (s : State) (e : Option Entry) → out (told_alias_in s e) ≡ told_alias_in (unstamped s) e
tells_alias s None = refl
tells_alias s (Some e) = refl

pub signals : (s : State) (event group : ℕ) → unstamped (signalled_to s event group) ≡ signalled_to (unstamped s) event group
signals s event group = states ((event == 0) && (group == 0)) _ _ _ _ refl refl

-- on a place of a rack
placed : (s : State) (at : ℕ) (r : Result (Unit {0}) Code) (t : State)
    → out (while_open s (on_place s at (by_answer s r t))) ≡ while_open (unstamped s) (on_place (unstamped s) at (by_answer (unstamped s) r (unstamped t)))
placed s at r t = if_open s (on_place s at (by_answer s r t)) (on_place (unstamped s) at (by_answer (unstamped s) r (unstamped t)))
    (either (nat_le at 255) (by_answer s r t) (refused s code.BadArgument) (by_answer (unstamped s) r (unstamped t)) (refused (unstamped s) code.BadArgument)
    (if_answer s r t (unstamped t) refl) refl)

-- ---- each call

pub call_same : (s : State) (p : ℕ) (x : Call) → out (called s p x) ≡ called (unstamped s) p x
unfolding called shown rect_written units_written words_written scrolled redrawn
call_same s p (calls.BufferCreate rights) =
    if_open s _ _ (either (are_rights rights) (buffer_made s p rights (new_number s.handles p) (free_id s.buffers))
    (refused s code.BadArgument) _ (refused (unstamped s) code.BadArgument)
    (makes s p rights (new_number s.handles p) (free_id s.buffers)
    ∙ ap (buffer_made (unstamped s) p rights (new_number s.handles p)) (sym (free_same s.buffers))) refl)
call_same s p (calls.OpenOut rights) = if_open s _ _ (opens_one s p _ rights)
call_same s p (calls.OpenIn rights) = if_open s _ _ (opens_one s p _ rights)
call_same s p (calls.Close h) = if_object s (owned s p h) (λ o. done (handle_closed s p h o)) (λ o. done (handle_closed (unstamped s) p h o))
    (λ o. closes_one s p h o)
call_same s p (calls.Duplicate h rights) = if_object s (guard s p h kind.Any (if are_rights rights then rights else 0)) (λ o. opened s p o rights)
    (λ o. opened (unstamped s) p o rights) (λ o. opens_one s p o rights)
call_same s p (calls.Activate h) = if_buffer s p h 2 (λ id. done (record s { buffers = record s.buffers { active = id } }))
    (λ id. done (record (unstamped s) { buffers = record (unstamped_buffers s.buffers) { active = id } })) (λ id. refl)
call_same s p (calls.Mode h) = if_object s (guard s p h kind.Any 1) (λ o. answered s (replies.Number (mode_in s o)))
    (λ o. answered (unstamped s) (replies.Number (mode_in (unstamped s) o)))
    (λ o. ap (λ (n : ℕ). answered (unstamped s) (replies.Number n)) (sym (mode_of_same s o)))
call_same s p (calls.SetMode h mode) = if_object s (guard s p h kind.Any 2) (mode_changed s mode) (mode_changed (unstamped s) mode) (λ o. sets_mode s mode o)
call_same s p (calls.Info h) = told_page s p h 1 (λ q. replies.Numbers (numbers_of (info_of q))) (λ q. refl)
call_same s p (calls.SetSize handle w h) = if_buffer s p handle 2 _ _ (λ id. sizes_one s id w h)
call_same s p (calls.SetCursor h x y) = set_page s p h (λ q. is_place q x y) (λ q. cursor_set q (natural x) (natural y)) (λ q. refl) (λ q. refl)
call_same s p (calls.CursorInfo h) = told_page s p h 1 (λ q. replies.Numbers (cursor_numbers q.cursor_size q.visible)) (λ q. refl)
call_same s p (calls.SetCursorInfo h size visible) = set_page s p h (λ q. nat_lt 0 size && nat_le size 100)
    (λ q. record q { cursor_size = size; visible = visible }) (λ q. refl) (λ q. refl)
call_same s p (calls.SetOrigin h x y) = set_page s p h (λ q. is_origin q x y) (λ q. origin_set q (natural x) (natural y)) (λ q. refl) (λ q. refl)
call_same s p (calls.SetAttr h word) = do_page s p h (λ q. record q { pen = pen_of_word word }) (λ q. replies.Done) (λ q. refl) (λ q. refl)
call_same s p calls.Title = if_open s _ _ refl
call_same s p (calls.SetTitle text) = if_open s _ _ (either (nat_le (length text) 255) _ _ _ _ refl refl)
call_same s p (calls.Write h text) = if_buffer s p h 2 _ _ (λ id. either (nat_lt 16384 (length text)) (refused s code.Limit)
    (answered (written_to s id text) (replies.Number (length text))) (refused (unstamped s) code.Limit) _ refl
    (ap (λ (t : State). answered t (replies.Number (length text))) (writes_one s id text)))
call_same s p (calls.RectRead h rect) = told_page s p h 1 (λ q. rect_told q.grid rect) (λ q. rect_same q.grid rect)
call_same s p (calls.RectWrite h rect text words) = if_buffer s p h 2 _ _ (λ id. either
    (are_cells rect text words) _ (refused s code.BadArgument) _ (refused (unstamped s) code.BadArgument)
    (result_page s p h (λ q. record q { grid = rect_written q.grid rect (cells_for text words) }) (λ q. rect_answer q.grid rect)
    (λ used. replies.Numbers (sides_of used)) (λ q. refl) (λ q. refl) id) refl)
call_same s p (calls.RunReadUnits h x y n) = told_page s p h 1 (λ q. run_told q.grid (at_place x y) n (λ g. g.unit)) (λ q. refl)
call_same s p (calls.RunReadAttrs h x y n) = told_page s p h 1 (λ q. run_told q.grid (at_place x y) n (λ g. g.attr.word)) (λ q. refl)
call_same s p (calls.RunWriteUnits h x y text) = if_buffer s p h 2 _ _ (λ id.
    result_page s p h (λ q. record q { grid = units_written q.grid (at_place x y) text }) (λ q. run_answer q.grid (at_place x y) (length text)) replies.Number
    (λ q. refl) (λ q. refl) id)
call_same s p (calls.RunWriteAttrs h x y words) = if_buffer s p h 2 _ _ (λ id.
    result_page s p h (λ q. record q { grid = words_written q.grid (at_place x y) words })
    (λ q. run_answer q.grid (at_place x y) (length words)) replies.Number (λ q. refl) (λ q. refl) id)
call_same s p (calls.FillUnits h x y n unit) = do_page s p h (λ q. record q { grid = unit_filled q.grid (at_place x y) n unit })
    (λ q. replies.Number (run_count q.grid (at_place x y) n)) (λ q. refl) (λ q. refl)
call_same s p (calls.FillAttrs h x y n word) = do_page s p h (λ q. record q { grid = word_filled q.grid (at_place x y) n word })
    (λ q. replies.Number (run_count q.grid (at_place x y) n)) (λ q. refl) (λ q. refl)
call_same s p (calls.Scroll h rect clip x y unit word) = do_page s p h
    (λ q. record q { grid = scrolled q.grid rect clip (at_place x y) (cell_of unit (plain word)) }) (λ q. replies.Done) (λ q. refl) (λ q. refl)
call_same s p (calls.Peek h n) = if_input s p h 1 _ _ refl
call_same s p (calls.WriteInput h records) = if_input s p h 2 _ _ (either (nat_lt 1024 (length records)) _ _ _ _ refl refl)
call_same s p (calls.Count h) = if_input s p h 1 _ _ refl
call_same s p (calls.Flush h) = if_input s p h 2 _ _ refl
call_same s p calls.HistoryInfo = if_open s _ _ refl
call_same s p (calls.SetHistory lines number flag) =
    let t : State = record s { histories = configured s.histories (record { lines = lines; number = number; flag = flag }) } in
    if_open s _ _ (if_answer s (checked (not (is_refused (record { lines = lines; number = number; flag = flag })))) t (unstamped t) refl)
call_same s p calls.HistoryList = if_open s _ _ refl
call_same s p calls.HistoryClear = if_open s _ _ refl
call_same s p (calls.AliasAdd program source target) =
    let t : State = record s { aliases = added s.aliases program source target } in
    if_open s _ _ (if_answer s (alias.add_answer s.aliases program source target) t (unstamped t) refl)
call_same s p (calls.AliasRemove program source) =
    let t : State = record s { aliases = removed s.aliases program source } in
    if_open s _ _ (if_answer s (alias.remove_answer s.aliases program source) t (unstamped t) refl)
call_same s p (calls.AliasGet program source) = if_open s _ _ (tells_alias s (alias_at s.aliases program source))
call_same s p (calls.AliasList program) = if_open s _ _ refl
call_same s p calls.Processes = if_open s _ _ refl
call_same s p (calls.Signal event group) = if_open s _ _ (either (is_no_signal s.procs event group) (refused s code.BadArgument)
    (done (signalled_to s event group)) (refused (unstamped s) code.BadArgument) (done (signalled_to (unstamped s) event group)) refl
    (ap (λ (t : State). done t) (signals s event group)))
call_same s p (calls.Ignore on) = if_open s _ _ refl
call_same s p (calls.HandlerAdd place) = placed s place (add_answer s.procs p place) (record s { procs = handler_added s.procs p place })
call_same s p (calls.HandlerRemove place) = placed s place (remove_answer s.procs p place) (record s { procs = handler_removed s.procs p place })
