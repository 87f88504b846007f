use Rattle.std.proofs.Common.{sym, subst, ℕ, arith, inl, inr}
use Rattle.std.proofs.lemmas.Bool.{cases_eq, iff_false}
use Rattle.fabric_tables.specs.Cells.{tables_of}
use Rattle.fabric_lane_tables.specs.Lanes.{lanes_of}
use Rattle.fabric_lane_tables.specs.Levels.{levels_of}
use Rattle.fabric_lane_witness.specs.Search.{TakesAs, end_at}
use Rattle.fabric_lane_witness.specs.Witness.{lane_channel_of}
use Rattle.fabric_lane_witness.proofs.TakeLemmas.{takes_low}
use Rattle.fabric_lane_witness.proofs.witness.first_of_kind.Goals as goal

pub places-init : goal.places-init
places-init c = record { ready = c.requires.ready; none = λ other low. absurd (omega arith) }

pub places-preserved : goal.places-preserved
places-preserved c = record {
  ready = c.takes.ensures.ready;
  none = λ other low is. elim (cases_eq other c.places.place) [
    | inr before ↦ c.places.invariant.none other (omega arith) is
    | inl same ↦ absurd (iff_false c.takes.ensures.takes c.if-takes.false (subst (TakesAs c.args.routing.now.fabric.now (tables_of c.args.routing.now.cells.now) (lanes_of c.args.routing.now.lanes.now) c.args.routing.now.traffic (levels_of c.args.routing.now.levels.now) c.args.sought) (sym c.end_port-source.ensures)
        (subst (λ (place : ℕ). TakesAs c.args.routing.now.fabric.now (tables_of c.args.routing.now.cells.now) (lanes_of c.args.routing.now.lanes.now) c.args.routing.now.traffic (levels_of c.args.routing.now.levels.now) c.args.sought (end_at c.args.kind place)) same is)))
  ];
}

pub returns-then-takes-clause-first : goal.returns-then-takes-clause-first
returns-then-takes-clause-first c = record {
  is = subst (TakesAs c.args.routing.now.fabric.now (tables_of c.args.routing.now.cells.now) (lanes_of c.args.routing.now.lanes.now) c.args.routing.now.traffic (levels_of c.args.routing.now.levels.now) c.args.sought) c.end_port-source.ensures (c.takes.ensures.takes.0 c.if-takes.true);
  first = c.places.invariant.none;
}

pub returns-clause-first : goal.returns-clause-first
returns-clause-first c = λ other is. c.places.invariant.none other (let low = takes_low c.args.routing.now.fabric.now (tables_of c.args.routing.now.cells.now) (lanes_of c.args.routing.now.lanes.now) c.args.sought.lid c.args.routing.now.traffic (levels_of c.args.routing.now.levels.now) (lane_channel_of c.args.sought.channel) (lane_channel_of c.args.sought.next) c.args.kind other is in omega arith) is
