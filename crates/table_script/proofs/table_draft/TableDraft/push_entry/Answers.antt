use Rattle.std.proofs.Common.{arith}
use Rattle.table_script.proofs.DraftLemmas.{below_more}
use Rattle.table_script.proofs.table_draft.TableDraft.push_entry.Goals as goal

pub invariant_of-self-then-self-next : goal.invariant_of-self-then-self-next
invariant_of-self-then-self-next c =
    let h = c.height_of-next.ensures.height in
    let t = c.if-self-next.true in
    rw c.in_ok-push.ensures.items (below_more c.self.inside.entries.items c.args.entry c.self.inside.top _ c.self.invariant (omega arith) (omega arith))

pub invariant_of-self-else-self-next : goal.invariant_of-self-else-self-next
invariant_of-self-else-self-next c =
    let h = c.height_of-next.ensures.height in
    let f = c.if-self-next.false in
    rw c.in_ok-push.ensures.items (below_more c.self.inside.entries.items c.args.entry c.self.inside.top _ c.self.invariant (omega arith) (omega arith))
