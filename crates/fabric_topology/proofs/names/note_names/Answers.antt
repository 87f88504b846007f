use Rattle.std.proofs.Common.{◌++◌}
use Rattle.std.specs.Option.{option_copied}
use Rattle.fabric_topology.specs.Names.{named}
use Rattle.fabric_topology.proofs.NameLemmas.{line_noted}
use Rattle.fabric_topology.proofs.names.note_names.Goals as goal

pub lines-preserved : goal.lines-preserved
lines-preserved c =
    let told = c.lines.invariant.told in
    let near = c.in_ok-note.ensures told c.lines.invariant.names_are in
    line_noted c.args.bytes.now c.lines.rest.now c.lines.part (option_copied c.lines.section) c.args.guids.now.keys c.lines.names.entries c.lines.invariant c.in-Some.line.now c.in-Some.after.now c.in-Some.ensures.some
    c.in-Some-says.said c.note-in-Some.new.names.entries (option_copied c.section_name-section.result) (option_copied c.near_name.result) (option_copied c.far_name.result) c.node_told.result c.node_told-in-Some.result
    c.in-Some-says.ensures c.section_name-section.ensures c.node_told.ensures c.near_name.ensures c.node_told-in-Some.ensures c.far_name.ensures
    (c.in_ok-note-2.ensures (told ++ named c.node_told.result (option_copied c.near_name.result)) near)
