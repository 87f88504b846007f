use Rattle.std.proofs.Common.{arith, ◌≡◌, ◌∙◌, ◌<◌, ◌-◌, ◌^◌, sym, ap, subst, refl, ℕ, Bool, false, get_or, List, [], ◌∷◌, ◌++◌, length, nat_eq, None}
use Rattle.indexmap.proofs.CallerLemmas.{insert_entry-new}
use Rattle.fabric_model.specs.declared.node.LidRange.{LidRange}
use Rattle.fabric_model.specs.Nodes.{AreNodes, AreOwned, IsTaken, NodesOf, node_of}
use Rattle.fabric_model.proofs.OwnerLemmas.{free_of}
use Rattle.fabric_model.proofs.NodeLemmas.{kept_length, end_more}
use Rattle.fabric_model.proofs.OwnedLemmas.{all_written, owned_end}
use Rattle.fabric_model.proofs.nodes.Nodes.push_end.Goals as goal

pub invariant_of-self-2 : goal.invariant_of-self-2
invariant_of-self-2 c =
    let e = c.self.view_is in
    let none = subst (λ (v : NodesOf). node_of v.ends c.args.guid ≡ None) (sym e) c.requires.absent in
    let entries = c.in-Ok.ensures.entries ∙ insert_entry-new nat_eq c.self.inside.ends c.args.guid c.args.lids none in
    let few = subst (λ (v : NodesOf). length v.ends < 2 ^ 16 - 1) (sym e) c.requires.few in (
      subst (λ (es : List (ℕ × LidRange)). AreNodes (record { switches = c.self.inside.switches.entries; ends = es })) (sym entries) (end_more (record { switches = c.self.inside.switches.entries; ends = c.self.inside.ends.entries }) c.args.guid c.args.lids c.self.invariant.0 few c.requires.low (free_of (record { switches = c.self.inside.switches.entries; ends = c.self.inside.ends.entries }) c.args.lids (subst (λ (v : NodesOf). ¬ IsTaken v c.args.lids) (sym e) c.requires.free))),
      (
          let size = c.own.auto.owned in
          let lent = c.deref_mut.ensures.len in
          let ok = c.self.inside.owned.ok.0 in
          kept_length c.self.inside.owned.len c.own.new.owned c.self.inside.owned.items c.self.inside.owned.ok.0 (omega arith) ∙ c.self.invariant.1),
      (
          let size = c.own.auto.owned in
          let lent = c.deref_mut.ensures.len in
          let nodes : NodesOf = record { switches = c.self.inside.switches.entries; ends = c.self.inside.ends.entries } in
          let owned = owned_end c.self.inside.owned.items c.own.new.owned nodes c.args.lids c.self.invariant.2 c.own.ensures.inside (λ lid not. c.own.ensures.outside lid not ∙ ap (λ (l : List Bool). get_or l lid false) c.deref_mut.ensures.value) (c.args.guid, c.args.lids) refl in
          subst (λ (f : List Bool). AreOwned (record { switches = c.self.inside.switches.entries; ends = c.insert.new.self.entries }) f) (sym (all_written c.self.inside.owned.len c.own.new.owned c.self.inside.owned.items c.self.inside.owned.ok.0 (omega arith)))
          (subst (λ (es : List (ℕ × LidRange)). AreOwned (record { switches = c.self.inside.switches.entries; ends = es }) c.own.new.owned) (sym entries) owned)),
    )

pub returns-clause-added : goal.returns-clause-added
returns-clause-added c =
    let e = c.self.view_is in
    let none = subst (λ (v : NodesOf). node_of v.ends c.args.guid ≡ None) (sym e) c.requires.absent in
    let entries = c.in-Ok.ensures.entries ∙ insert_entry-new nat_eq c.self.inside.ends c.args.guid c.args.lids none in
    ap (λ (es : List (ℕ × LidRange)). let n : NodesOf = record { switches = c.self.inside.switches.entries; ends = es } in n) entries ∙ ap (λ (v : NodesOf). let n : NodesOf = record { switches = v.switches; ends = v.ends ++ (c.args.guid, c.args.lids) ∷ [] } in n) e
