use Rattle.fabric_tables.specs.Cells.{tables_of}
use Rattle.fabric_lane_witness.proofs.TakeLemmas.{none_of, other_of, way_of}
use Rattle.fabric_lane_witness.proofs.witness.comes_out.Goals as goal

pub returns-in_default-clause-way : goal.returns-in_default-clause-way
returns-in_default-clause-way c = none_of c.args.routing.now.fabric.now (tables_of c.args.routing.now.cells.now) c.args.lid c.args.channel.switch c.in_default.ensures c.args.channel.port

pub returns-then-way-channel-clause-way : goal.returns-then-way-channel-clause-way
returns-then-way-channel-clause-way c = λ spot other. other_of c.args.routing.now.fabric.now (tables_of c.args.routing.now.cells.now) c.args.lid c.args.channel.switch c.in-Some.way.port c.args.channel.port c.in-Some.way.next spot c.in-Some.ensures.0 c.if-way-channel.true other

pub returns-clause-way : goal.returns-clause-way
returns-clause-way c = way_of c.args.routing.now.fabric.now (tables_of c.args.routing.now.cells.now) c.args.lid c.args.channel.switch c.in-Some.way.port c.args.channel.port c.in-Some.way.next c.in-Some.ensures.0 c.if-way-channel.false

pub returns-clause-within : goal.returns-clause-within
returns-clause-within c = c.in-Some.ensures.1.within
