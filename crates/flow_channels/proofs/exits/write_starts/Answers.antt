use Rattle.flow_channels.proofs.ExitTableLemmas.{starts_first, starts_more, starts_same}
use Rattle.flow_channels.proofs.exits.write_starts.Goals as goal
use Rattle.flow_channels.proofs.exits.write_starts.Goals.{then-is_entry, else-is_entry}

pub entries-init : goal.entries-init
entries-init c = starts_first c.args.graph.now c.args.x c.args.at c.args.up c.args.down c.args.starts.now.items

pub entries-preserved : goal.entries-preserved
entries-preserved c =
    let old = c.args.starts.now.items in
    let now = c.entries.starts.items in
    elim c.if-is_entry.branch [
      | then-is_entry w ↦ rw w.starts-is (starts_more c.args.graph.now c.args.x c.args.at c.args.up c.args.down c.entries.entry old now c.entries.invariant w.place_of.result w.start_of.result c.requires.count c.requires.at c.entries-test.true (c.is_entry.ensures.meaning.0 w.if-is_entry.true) w.place_of.ensures.place w.start_of.ensures)
      | else-is_entry w ↦ rw w.starts-is (starts_same c.args.graph.now c.args.x c.args.at c.args.up c.args.down c.entries.entry old now c.entries.invariant (λ is. absurd (let passed = c.is_entry.ensures.meaning.1 is in let failed = w.if-is_entry.false in cc)))
    ]
