use Rattle.std.proofs.Common.{◌≡◌, ◌<◌, sym, ap, subst, ℕ, List, length, get_or, arith}
use Rattle.fabric_model.specs.declared.node.LidRange.{LidRange}
use Rattle.fabric_model.specs.Nodes.{AreOwners}
use Rattle.fabric_model.proofs.OwnerLemmas.{end_owners}
use Rattle.fabric_model.proofs.fabric.put_ends.Goals as goal

pub ends-preserved : goal.ends-preserved
ends-preserved c = record {
  count = c.put_owner.ensures.count;
  owners = λ nodes same one first.
      let default : ℕ × LidRange = (0, record { base = 0; lmc = 0 }) in
      end_owners nodes one c.ends.owners.items c.put_owner.new.owners.items c.end_lids.result default c.ends.place (subst (λ (es : List (ℕ × LidRange)). c.ends.place < length es) (sym same) (omega arith)) (subst (λ (es : List (ℕ × LidRange)). (get_or es c.ends.place default).1 ≡ c.end_lids.result) (sym same) (c.end_lids.ensures.at default)) c.put_owner.ensures.puts (c.ends.invariant.owners nodes same one first);
}

pub returns-clause-owners : goal.returns-clause-owners
returns-clause-owners c = λ nodes same one first.
    let last : c.ends.place ≡ length nodes.ends = (let size = ap (λ (es : List (ℕ × LidRange)). length es) same in omega arith) in
    subst (λ (n : ℕ). AreOwners nodes (length nodes.switches) n c.ends.owners.items) last (c.ends.invariant.owners nodes same one first)
