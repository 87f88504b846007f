use Rattle.std.proofs.Common.{ℕ, List, subst}
use Rattle.common_lines.specs.Stops.{IsRefusalBy}
use Rattle.fabric_model.specs.Nodes.{NodesOf}
use Rattle.fabric_topology.specs.declared.fact.Fact.{Fact}
use Rattle.fabric_read_topology.specs.declared.nodes.ToldNodes.{ToldNodes}
use Rattle.fabric_read_topology.specs.Facts.{AddsNode, AddsUnset, IsFaultyNode}
use Rattle.fabric_read_topology.specs.Lines.{IsFaultFrom, IsTextFrom}
use Rattle.fabric_read_topology.proofs.ViewLemmas.{refusal_seen, text_seen, unset_is}
use Rattle.fabric_read_topology.proofs.read.told_nodes.Goals as goal

abbrev adds : ToldNodes → Fact → ToldNodes → Type 0
adds old said new = AddsNode old.nodes said new.nodes × AddsUnset old.unset.keys said new.unset.keys

pub returns-in-Ok-clause-nodes : goal.returns-in-Ok-clause-nodes
returns-in-Ok-clause-nodes c =
    let bytes = c.args.bytes.now in
    let old = c.in_ok-told.told in
    let new = c.read_lines.new.told in
    subst (λ (n : NodesOf). IsTextFrom AddsNode n bytes new.nodes) c.in_ok-told.ensures.nodes (text_seen (λ (t : ToldNodes). t.nodes) adds AddsNode (λ old said new is. is.0) old bytes new c.in-Ok.ensures.text)

pub returns-in-Ok-clause-unset : goal.returns-in-Ok-clause-unset
returns-in-Ok-clause-unset c =
    let bytes = c.args.bytes.now in
    let old = c.in_ok-told.told in
    let new = c.read_lines.new.told in
    unset_is bytes new.unset.keys (subst (λ (l : List ℕ). IsTextFrom AddsUnset l bytes new.unset.keys) c.in_ok-told.ensures.unset (text_seen (λ (t : ToldNodes). t.unset.keys) adds AddsUnset (λ old said new is. is.1) old bytes new c.in-Ok.ensures.text))

pub returns-in-Err-clause-fault : goal.returns-in-Err-clause-fault
returns-in-Err-clause-fault c =
    let bytes = c.args.bytes.now in
    let old = c.in_ok-told.told in
    subst (λ (n : NodesOf). IsRefusalBy (IsFaultFrom AddsNode IsFaultyNode n bytes) c.in-Err.refusal) c.in_ok-told.ensures.nodes (refusal_seen (λ (t : ToldNodes). t.nodes) adds AddsNode (λ old said new is. is.0) (λ (t : ToldNodes). IsFaultyNode t.nodes) IsFaultyNode (λ old said cause is. is) old bytes c.in-Err.refusal c.in-Err.ensures.fault)
