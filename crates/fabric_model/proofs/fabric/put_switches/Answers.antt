use Rattle.std.proofs.Common.{◌≡◌, ◌<◌, sym, ap, subst, ℕ, List, length, get_or, arith}
use Rattle.fabric_model.specs.declared.node.Switch.{Switch}
use Rattle.fabric_model.specs.Nodes.{AreOwners}
use Rattle.fabric_model.proofs.OwnerLemmas.{switch_owners}
use Rattle.fabric_model.proofs.fabric.put_switches.Goals as goal

pub switches-preserved : goal.switches-preserved
switches-preserved c = record {
  count = c.put_owner.ensures.count;
  owners = λ nodes same one first.
      let default : ℕ × Switch = (0, record { ports = 0; lids = record { base = 0; lmc = 0 } }) in
      switch_owners nodes one c.switches.owners.items c.put_owner.new.owners.items c.switch_lids.result default c.switches.place (subst (λ (es : List (ℕ × Switch)). c.switches.place < length es) (sym same) (omega arith)) (subst (λ (es : List (ℕ × Switch)). (get_or es c.switches.place default).1.lids ≡ c.switch_lids.result) (sym same) (c.switch_lids.ensures.at default)) c.put_owner.ensures.puts (c.switches.invariant.owners nodes same one first);
}

pub returns-clause-owners : goal.returns-clause-owners
returns-clause-owners c = λ nodes same one first.
    let last : c.switches.place ≡ length nodes.switches = (let size = ap (λ (es : List (ℕ × Switch)). length es) same in omega arith) in
    subst (λ (n : ℕ). AreOwners nodes n 0 c.switches.owners.items) last (c.switches.invariant.owners nodes same one first)
