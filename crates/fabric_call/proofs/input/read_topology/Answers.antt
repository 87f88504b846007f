use Rattle.std.proofs.Common.{subst, sym, ℕ, List}
use Rattle.common_lines.specs.Stops.{IsRefusalBy}
use Rattle.fabric_read_topology.specs.Fabrics.{IsFault}
use Rattle.fabric_call.specs.declared.status.Status.{Status}
use Rattle.fabric_call.specs.Answer.{IsNoFabric}
use Rattle.fabric_call.proofs.NoFabricLemmas.{no_fabric_of, unread_is_none}
use Rattle.fabric_call.proofs.input.read_topology.Goals as goal

pub returns-in-Err-clause-none : goal.returns-in-Err-clause-none
returns-in-Err-clause-none g c =
    let old = g.S.Source.seen c.args.source.now in
    let new = g.S.Source.seen c.read_input.new.source in
    let fault = subst (λ (t : List ℕ). IsRefusalBy (IsFault t) c.in-Err.refusal) c.deref.ensures.value c.in-Err.ensures.fault in
    subst (λ (s : Status). IsNoFabric old new s) (sym c.from.ensures)
    (no_fabric_of old new c.in_ok-text.text.items c.in-Err.refusal c.in_ok-text.ensures.found fault)

pub returns-in_err-text-clause-none : goal.returns-in_err-text-clause-none
returns-in_err-text-clause-none g c = unread_is_none c.from_residual.result c.in_err-text.field-0.0
    (g.S.Source.seen c.args.source.now) (g.S.Source.seen c.read_input.new.source)
    c.from_residual.ensures.1 c.in_err-text.ensures.unread
