use Rattle.std.proofs.Common.{◌∙◌, ◌+◌, sym, subst, ℕ, arith}
use Rattle.std.proofs.lemmas.Bool.{iff_false}
use Rattle.fabric_model.specs.declared.node.Spot.{Spot}
use Rattle.fabric_tables.specs.Cells.{tables_of}
use Rattle.fabric_lane_tables.specs.Lanes.{lanes_of}
use Rattle.fabric_lane_witness.specs.Search.{GoesOn}
use Rattle.fabric_lane_witness.specs.Witness.{lane_channel_of}
use Rattle.fabric_lane_witness.proofs.TakeLemmas.{AreBelow, below_all, below_none, below_with, below_without, goes_on, none_on, on_here}
use Rattle.fabric_lane_witness.proofs.witness.levels_on.Goals as goal
use Rattle.fabric_lane_witness.proofs.witness.levels_on.Goals.{then-is_by, else-is_by}

pub levels-init : goal.levels-init
levels-init c = below_none (λ level. GoesOn c.args.routing.now.fabric.now (tables_of c.args.routing.now.cells.now) (lanes_of c.args.routing.now.lanes.now) c.args.lid level (lane_channel_of c.args.channel) (lane_channel_of c.args.next))

pub levels-preserved : goal.levels-preserved
levels-preserved c =
    let Is = λ (level : ℕ). GoesOn c.args.routing.now.fabric.now (tables_of c.args.routing.now.cells.now) (lanes_of c.args.routing.now.lanes.now) c.args.lid level (lane_channel_of c.args.channel) (lane_channel_of c.args.next) in
    elim c.if-is_by.branch [
      | then-is_by w ↦ (
          let (after, by) = c.is_by.ensures.0 w.if-is_by.true in
          let on = goes_on c.args.routing.now.fabric.now (tables_of c.args.routing.now.cells.now) (lanes_of c.args.routing.now.lanes.now) c.args.lid (lane_channel_of c.args.channel) (lane_channel_of c.args.next) c.levels.level c.in-Some.spot c.in-Some.ensures.way c.if-spot-next.false (after, sym c.lane_hop_at.ensures.hop ∙ by) in
          subst (λ (n : ℕ). AreBelow Is (c.levels.level + 1) n) (sym w.word-is) (below_with Is c.levels.level c.levels.word w.with_bit-word.result c.levels.invariant on w.with_bit-word.ensures))
      | else-is_by w ↦ subst (λ (n : ℕ). AreBelow Is (c.levels.level + 1) n) (sym w.word-is) (below_without Is c.levels.level c.levels.word c.levels.invariant (λ on.
          (let (same, from) = on_here c.args.routing.now.fabric.now (tables_of c.args.routing.now.cells.now) (lanes_of c.args.routing.now.lanes.now) c.args.lid (lane_channel_of c.args.channel) (lane_channel_of c.args.next) c.levels.level c.in-Some.spot c.in-Some.ensures.way on in
          iff_false c.is_by.ensures w.if-is_by.false (from.0, c.lane_hop_at.ensures.hop ∙ from.1))))
    ]

pub returns-in_default : goal.returns-in_default
returns-in_default c = none_on c.args.routing.now.fabric.now (tables_of c.args.routing.now.cells.now) (lanes_of c.args.routing.now.lanes.now) c.args.lid (lane_channel_of c.args.channel) (lane_channel_of c.args.next) (λ level on. (let there : Spot = record { switch = c.args.next.switch; port = on.entry } in c.in_default.ensures.way there on.leads))

pub returns-then-spot-next : goal.returns-then-spot-next
returns-then-spot-next c = none_on c.args.routing.now.fabric.now (tables_of c.args.routing.now.cells.now) (lanes_of c.args.routing.now.lanes.now) c.args.lid (lane_channel_of c.args.channel) (lane_channel_of c.args.next) (λ level on. c.if-spot-next.true (on_here c.args.routing.now.fabric.now (tables_of c.args.routing.now.cells.now) (lanes_of c.args.routing.now.lanes.now) c.args.lid (lane_channel_of c.args.channel) (lane_channel_of c.args.next) level c.in-Some.spot c.in-Some.ensures.way on).0)

pub returns : goal.returns
returns c = below_all (λ level. GoesOn c.args.routing.now.fabric.now (tables_of c.args.routing.now.cells.now) (lanes_of c.args.routing.now.lanes.now) c.args.lid level (lane_channel_of c.args.channel) (lane_channel_of c.args.next)) c.levels.level c.levels.word (omega arith) c.levels.invariant
