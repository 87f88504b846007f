use Rattle.std.proofs.Common.{◌≡◌, ◌&&◌, ◌-◌, ◌∙◌, ◌≤◌, ℕ, nat_lt, find, drop, sym, ap, arith}
use Rattle.std.proofs.lemmas.Bool.{le-ltb}
use Rattle.port_monitor.specs.Histories.{externals}
use Rattle.wire_set.specs.WireState.{has_frame_on, place}
use Rattle.net_state.proofs.PortLemmas.{found_here, found_later, skipped}
use Rattle.net_state.proofs.ports.port_above.Goals as goal

pub ports-init : goal.ports-init
ports-init c =
    let most : c.min-port.result ≤ 12 = omega (arith, c.min-port.ensures) in
    let low : c.min-port.result ≤ c.args.last = omega (arith, c.min-port.ensures) in
    skipped (λ port. nat_lt c.args.last port && has_frame_on c.args.wires.now (place c.args.s port)) c.min-port.result most
    (λ port least within. ap (λ b. b && has_frame_on c.args.wires.now (place c.args.s port)) (le-ltb c.args.last port (omega (arith, within, low))))
    ∙ ap (λ (k : ℕ). find (λ port. nat_lt c.args.last port && has_frame_on c.args.wires.now (place c.args.s port)) (drop k externals)) (omega arith)

pub returns-then-is_next : goal.returns-then-is_next
returns-then-is_next c =
    sym (c.ports.invariant ∙ found_here (λ port. nat_lt c.args.last port && has_frame_on c.args.wires.now (place c.args.s port)) c.ports.port (omega arith) (omega arith) (sym c.is_next.ensures ∙ c.if-is_next.true))

pub ports-preserved : goal.ports-preserved
ports-preserved c =
    c.ports.invariant ∙ found_later (λ port. nat_lt c.args.last port && has_frame_on c.args.wires.now (place c.args.s port)) c.ports.port (omega arith) (omega arith) (sym c.is_next.ensures ∙ c.if-is_next.false)

pub returns : goal.returns
returns c =
    let end : c.ports.port ≡ 13 = omega arith in
    sym (c.ports.invariant ∙ ap (λ (k : ℕ). find (λ port. nat_lt c.args.last port && has_frame_on c.args.wires.now (place c.args.s port)) (drop (k - 1) externals)) end)
