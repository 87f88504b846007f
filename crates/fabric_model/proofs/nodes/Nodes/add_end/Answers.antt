use Rattle.std.proofs.Common.{rules, arith, ◌≡◌, ◌+◌, ◌<◌, ◌^◌, sym, subst, Bool, true, false, List, length, get_or, inr}
use Rattle.std.proofs.lemmas.Grind.{common_steps}
use Rattle.fabric_model.specs.Nodes.{AreFree, IsNew, IsOwned, IsRefusedEnd, NodesOf}
use Rattle.fabric_model.proofs.OwnedLemmas.{step_more}
use Rattle.fabric_model.proofs.nodes.Nodes.add_end.Goals as goal

pub returns-clause-added : goal.returns-clause-added
returns-clause-added c =
    let e = c.self.view_is in
    let new : IsNew c.args.self.now c.args.guid = first_of (search rules, grind (arith, common_steps)) in
    let free : AreFree c.args.self.now c.args.lids = record {
      low = c.in_default-lids_fault.ensures.low;
      free = λ taken. c.in_default-lids_fault.ensures.free (taken.0, taken.1, subst (λ (f : List Bool). get_or f taken.0 false ≡ true) (sym c.deref.ensures.value) (c.self.invariant.2.free taken.0 (subst (λ (n : NodesOf). IsOwned n taken.0) (sym e) taken.2)));
    } in
    let room = subst (λ (n : NodesOf). length n.ends + 1 < 2 ^ 16) e (let l = c.len.ensures.len in let f = c.if-len-ge-MOST_ENDS.false in omega arith) in
    step_more c.push_end.result (IsRefusedEnd c.args.self.now c.args.guid c.args.lids) (λ added. inr (new, free, room, added)) c.push_end.ensures.added
