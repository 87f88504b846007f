use Rattle.std.proofs.Common.{◌≡◌, ◌∙◌, sym, subst, ℕ, arith, inl, inr}
use Rattle.std.specs.Int.{bit_at}
use Rattle.std.proofs.lemmas.Bool.{cases_eq, iff_false}
use Rattle.fabric_tables.specs.Cells.{tables_of}
use Rattle.fabric_lane_tables.specs.Lanes.{lanes_of}
use Rattle.fabric_lane_tables.specs.Levels.{levels_of}
use Rattle.fabric_lane_routes.specs.LaneRoutes.{LaneTakes}
use Rattle.fabric_lane_routes.proofs.OneLaneLemmas.{takes_one}
use Rattle.fabric_routes.proofs.StartLemmas.{sender_is}
use Rattle.fabric_lane_witness.specs.Witness.{lane_channel_of}
use Rattle.fabric_lane_witness.proofs.TakeLemmas.{goes_of, on_of, takes_of}
use Rattle.fabric_lane_witness.proofs.witness.least_level.Goals as goal

pub levels-init : goal.levels-init
levels-init c = λ other low. absurd (omega arith)

pub levels-preserved : goal.levels-preserved
levels-preserved c = λ other low takes. elim (cases_eq other c.levels.level) [
  | inr before ↦ c.levels.invariant other (omega arith) takes
  | inl same ↦ absurd (
      let here = subst (λ (level : ℕ). LaneTakes c.args.routing.now.fabric.now (tables_of c.args.routing.now.cells.now) (lanes_of c.args.routing.now.lanes.now) c.args.routing.now.traffic (levels_of c.args.routing.now.levels.now) c.args.sought.lid c.args.source level (lane_channel_of c.args.sought.channel) (lane_channel_of c.args.sought.next)) same takes in
      iff_false c.goes_with.ensures c.if-goes_with.false (
        subst (λ (n : ℕ). bit_at n c.levels.level ≡ 1) (sym (c.from-with.ensures ∙ c.levels-2.ensures)) here.comes.sends.has.1,
        (c.requires.on c.levels.level here.comes.sends.has.0).1 (on_of c.args.routing.now.fabric.now (tables_of c.args.routing.now.cells.now) (lanes_of c.args.routing.now.lanes.now) c.args.sought.lid c.args.routing.now.traffic (levels_of c.args.routing.now.levels.now) (lane_channel_of c.args.sought.channel) (lane_channel_of c.args.sought.next) c.args.source c.levels.level here),
        goes_of c.args.routing.now.fabric.now (tables_of c.args.routing.now.cells.now) (lanes_of c.args.routing.now.lanes.now) c.args.sought.lid c.args.routing.now.traffic (levels_of c.args.routing.now.levels.now) (lane_channel_of c.args.sought.channel) (lane_channel_of c.args.sought.next) c.args.source c.levels.level c.in_ok-start.start (sym c.begin_at.ensures.begin ∙ c.in_ok-start.was) here,
      ))
]

pub goes_with-requires-clause-start : goal.goes_with-requires-clause-start
goes_with-requires-clause-start c =
    let sends = (c.requires.audience c.args.source).1 (c.comes.ensures.comes.0 c.if-not-comes.false).heard in
    rw c.in_ok-start.was at c.begin_at.ensures.within c.args.routing.now.traffic (sender_is c.args.routing.now.fabric.now (tables_of c.args.routing.now.cells.now) c.args.routing.now.traffic c.args.sought.lid c.args.source sends)

pub returns-then-not-comes-clause-level : goal.returns-then-not-comes-clause-level
returns-then-not-comes-clause-level c = λ (level, takes).
    let one = (takes_one c.args.routing.now.fabric.now (tables_of c.args.routing.now.cells.now) (lanes_of c.args.routing.now.lanes.now) c.args.routing.now.traffic (levels_of c.args.routing.now.levels.now) c.args.sought.lid c.args.source level (lane_channel_of c.args.sought.channel) (lane_channel_of c.args.sought.next) takes).comes in
    absurd (iff_false c.comes.ensures.comes c.if-not-comes.true (record {
      heard = (c.requires.audience c.args.source).0 one.sends;
      start = one.start;
      begins = one.begins;
      hops = one.hops;
      comes = one.comes;
    }))

pub returns-then-goes_with-clause-level : goal.returns-then-goes_with-clause-level
returns-then-goes_with-clause-level c =
    let (has, on, goes) = c.goes_with.ensures.0 c.if-goes_with.true in
    let sends = (c.requires.audience c.args.source).1 (c.comes.ensures.comes.0 c.if-not-comes.false).heard in
    record {
      is = takes_of c.args.routing.now.fabric.now (tables_of c.args.routing.now.cells.now) (lanes_of c.args.routing.now.lanes.now) c.args.sought.lid c.args.routing.now.traffic (levels_of c.args.routing.now.levels.now) (lane_channel_of c.args.sought.channel) (lane_channel_of c.args.sought.next) c.args.source c.levels.level c.in_ok-start.start (record { sends = sends; has = ((omega arith), subst (λ (n : ℕ). bit_at n c.levels.level ≡ 1) (c.from-with.ensures ∙ c.levels-2.ensures) has) }) (sym c.begin_at.ensures.begin ∙ c.in_ok-start.was) goes ((c.requires.on c.levels.level (omega arith)).0 on);
      first = c.levels.invariant;
    }

pub returns-clause-level : goal.returns-clause-level
returns-clause-level c = λ (level, takes). c.levels.invariant level (let low = takes.comes.sends.has.0 in omega arith) takes
