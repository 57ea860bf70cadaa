-- An entry more.
use Rattle.std.proofs.Common.{◌≤◌, List, length, take, sym, ap, subst}
use Rattle.con_events.specs.declared.entry.Entry.{Entry}
use Rattle.con_audit.specs.Judging.{Stands}
use Rattle.con_audit.proofs.JudgeLemmas.{nothing_passes, goes_at, stops_at, is_yes, stops_behind}
use Rattle.con_audit.proofs.Found.{fails, reply_at, whole_at}
use Rattle.con_audit.proofs.judging.judged.Goals as goal

pub loop-place-init : goal.loop-place-init
loop-place-init c = λ w frames r b. (nothing_passes w frames, b)

pub loop-place-preserved : goal.loop-place-preserved
loop-place-preserved c = λ w frames r b.
    let i = c.loop-place.invariant w frames r b in
    let j = c.entry.new.self in
    goes_at w frames c.loop-place.place c.index-entries-place.result c.in_ok-found.found c.args.entries.now (λ (h : List Entry). Stands j.console.state j.tracks.items j.side j.watch w frames h)
    r.entries' c.loop-place-test.true c.index-entries-place.is c.in_default.not-Some i.0
    (c.in_ok-found.ensures w frames (take c.loop-place.place w.entries) i.1 r.stream'
    (reply_at w _ _ _ _ c.loop-place.place _ r c.requires c.loop-place-test.true c.index-replies-place.is))

pub returns-in-Some : goal.returns-in-Some
returns-in-Some c = λ g frames r b.
    let i = c.loop-place.invariant g frames r b in
    let j = c.in_ok-found.ensures g frames (take c.loop-place.place g.entries) i.1 r.stream'
    (reply_at g _ _ _ _ c.loop-place.place _ r c.requires c.loop-place-test.true c.index-replies-place.is) in
    stops_at g frames c.loop-place.place c.index-entries-place.result c.in-Some.what c.args.entries.now r.entries' c.loop-place-test.true c.index-entries-place.is i.0
    (rw c.in-Some.is at j)

pub returns-then-is_whole : goal.returns-then-is_whole
returns-then-is_whole c = λ g frames r b.
    let i = c.loop-place.invariant g frames r b in
    let le : length g.entries ≤ c.loop-place.place = subst (λ (es : List Entry). length es ≤ c.loop-place.place) (sym r.entries') c.loop-place-test.false in
    is_yes g frames c.loop-place.place le i.0
    ((whole_at _ _ _ _ g frames c.args.stream.now c.args.ends.now _ c.loop-place.place le i.1 i.0 r.stream' r.ends' c.is_whole.ensures).0 c.if-is_whole.true)

pub returns-else-is_whole : goal.returns-else-is_whole
returns-else-is_whole c = λ g frames r b.
    let i = c.loop-place.invariant g frames r b in
    let le : length g.entries ≤ c.loop-place.place = subst (λ (es : List Entry). length es ≤ c.loop-place.place) (sym r.entries') c.loop-place-test.false in
    stops_behind g frames c.loop-place.place _ le (ap length (sym r.entries')) i.0
    (fails c.is_whole.result (whole_at _ _ _ _ g frames c.args.stream.now c.args.ends.now _ c.loop-place.place le i.1 i.0 r.stream' r.ends' c.is_whole.ensures) c.if-is_whole.false)
