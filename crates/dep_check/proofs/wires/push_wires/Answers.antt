use Rattle.std.proofs.Common.{◌≡◌, ◌+◌, ◌*◌, subst, refl, ℕ, List, Option, Some, arith}
use Rattle.std.specs.Prelude.{IfSome}
use Rattle.dep_check.specs.declared.channel.Channel.{Channel}
use Rattle.dep_check.specs.Channels.{far_at}
use Rattle.dep_check.specs.Tables.{AreWiresBelow, IsSpot}
use Rattle.dep_check.proofs.PushLemmas.{wires_more}
use Rattle.dep_check.proofs.wires.push_wires.Goals as goal

within_if : (o : Option Channel) → IfSome o IsSpot → (b : Channel) → o ≡ Some b → IsSpot b
within_if o is b e = rw e at is

-- a number of places as it is counted
same_end : (far : Channel → Option Channel) (wires : List (Option Channel)) (m n : ℕ) → m ≡ n → AreWiresBelow far m wires → AreWiresBelow far n wires
same_end far wires m n same are = subst (λ (k : ℕ). AreWiresBelow far k wires) same are

pub ports-init : goal.ports-init
ports-init c = same_end (far_at c.args.graph.now c.args.numbers.now) c.args.wires.now.items (c.args.at * 13) (c.args.at * 13 + 0) (omega arith) c.requires.below

pub ports-preserved : goal.ports-preserved
ports-preserved c =
    let far = far_at c.args.graph.now c.args.numbers.now in
    let at = c.args.at in
    let port = c.ports.port in
    let spot : Channel = record { at = at; port = port } in
    rw c.in_ok-push.ensures.items (same_end far _ (at * 13 + port + 1) (at * 13 + (port + 1)) (omega arith)
    (wires_more far (at * 13 + port) c.ports.wires.items spot c.far_from.result c.ports.invariant (record { at = c.requires.at; port = omega arith }) refl c.far_from.ensures.far (within_if c.far_from.result c.far_from.ensures.spot)))

pub returns : goal.returns
returns c = same_end (far_at c.args.graph.now c.args.numbers.now) c.ports.wires.items (c.args.at * 13 + c.ports.port) ((c.args.at + 1) * 13) (omega arith) c.ports.invariant
