-- All bytes are taken.
use Rattle.std.proofs.Common.{◌∙◌, List, ℕ, ap, sym}
use Rattle.std.specs.Prelude.{fold}
use Rattle.con_machine.specs.Feeding.{byte_taken}
use Rattle.con_machine.specs.FeedingLaws.{fed_by_bytes}
use Rattle.con_machine.proofs.Arriving.{none_left}
use Rattle.con_machine.proofs.parts.Parts.feed.Goals as goal

pub returns : goal.returns
returns c =
    sym (ap (λ (l : List ℕ). fold byte_taken c.loop-byte.self.state l) (none_left c.args.bytes.now c.loop-byte.byte-index c.loop-byte-test.false))
    ∙ c.loop-byte.invariant.fed.state ∙ sym (fed_by_bytes c.args.self.now.state c.args.bytes.now)
