use Rattle.std.proofs.Common.{◌≡◌, ◌∙◌, sym, subst, ℕ, ◌-◌, arith, None}
use Rattle.std.specs.Prelude.{find}
use Rattle.std.specs.List.{range_with_len}
use Rattle.net_gen.specs.Generated.{is_free}
use Rattle.net_gen.proofs.LinkLemmas.{find_next}
use Rattle.net_gen.proofs.script.lowest_free.Goals as goal

pub ports-preserved : goal.ports-preserved
ports-preserved c =
    find_next (is_free c.args.script.now.wires.links c.args.place) 1 c.ports.port (omega (arith, c.ports.auto.port)) c.ports.invariant (sym c.is_free.ensures ∙ c.if-is_free.false)

pub returns : goal.returns
returns c =
    let p = is_free c.args.script.now.wires.links c.args.place in
    let last : c.ports.port ≡ 9 = omega (arith, c.ports.auto.port-end, c.ports-test.false) in
    sym (subst (λ (n : ℕ). find p (range_with_len 1 (n - 1)) ≡ None) last c.ports.invariant)
