use Rattle.std.proofs.Common.{◌≡◌, ap, subst, ℕ, arith}
use Rattle.std.specs.Int.{bit_at}
use Rattle.std.proofs.lemmas.Nat.Bits.{bit_at-zero}
use Rattle.fabric_tables.specs.Cells.{tables_of}
use Rattle.fabric_routes.specs.declared.audience.Audience.{Audience}
use Rattle.fabric_routes.specs.Audience.{IsHeardFrom}
use Rattle.fabric_lane_tables.specs.Lanes.{lanes_of}
use Rattle.fabric_lane_tables.specs.Levels.{levels_of}
use Rattle.fabric_lane_witness.specs.Witness.{lane_channel_of}
use Rattle.fabric_lane_witness.proofs.TakeLemmas.{on_of}
use Rattle.fabric_lane_witness.proofs.witness.witness_at.Goals as goal

pub returns-in-Nobody : goal.returns-in-Nobody
returns-in-Nobody c = λ source (level, takes).
    let heard = (c.audience_of-audience.ensures source).0 takes.comes.sends.sends in
    subst (λ (a : Audience). IsHeardFrom c.args.routing.now.fabric.now a source) c.in-Nobody.is heard.is_from

pub returns-then-on-eq0 : goal.returns-then-on-eq0
returns-then-on-eq0 c = λ source (level, takes). absurd (
    let has = (c.levels_on-on.ensures level takes.comes.sends.has.0).1 (on_of c.args.routing.now.fabric.now (tables_of c.args.routing.now.cells.now) (lanes_of c.args.routing.now.lanes.now) c.args.lid c.args.routing.now.traffic (levels_of c.args.routing.now.levels.now) (lane_channel_of c.args.channel) (lane_channel_of c.args.next) source level takes) in
    let none = bit_at-zero level in
    let zero : bit_at c.levels_on-on.result level ≡ bit_at 0 level = ap (λ (n : ℕ). bit_at n level) c.if-on-eq0.true in
    omega arith)
