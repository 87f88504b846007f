use Rattle.std.proofs.lemmas.Bool.{iff_false}
use Rattle.fabric_tables.specs.Cells.{tables_of}
use Rattle.fabric_routes.specs.Found.{channel_of}
use Rattle.fabric_routes.proofs.WitnessLemmas.{goes_of, least_at}
use Rattle.fabric_routes.proofs.witness.witness_at.Goals as goal

pub returns-then-not-goes_by : goal.returns-then-not-goes_by
returns-then-not-goes_by c = λ source takes. absurd (iff_false c.goes_by.ensures c.if-not-goes_by.true (goes_of c.args.fabric.now (tables_of c.args.cells.now) c.args.traffic c.args.lid (channel_of c.args.channel) (channel_of c.args.next) source takes))

pub returns-in-Nobody : goal.returns-in-Nobody
returns-in-Nobody c = λ source takes. absurd ((c.in-Nobody.ensures source).0 takes.comes.sends).is_from

pub returns : goal.returns
returns c = least_at c.args.fabric.now (tables_of c.args.cells.now) c.args.traffic c.args.lid (channel_of c.args.channel) (channel_of c.args.next) c.audience_of-audience.result c.audience_of-audience.ensures (c.goes_by.ensures.0 c.if-not-goes_by.false) c.in_ok-found.found c.in_ok-found.ensures
