use Rattle.std.proofs.Common.{◌≡◌, ◌≢◌, ◌<◌, ◌≤◌, ◌-◌, ◌∙◌, sym, ap, subst, ℕ, List, Option, None, length, get_or, take}
use Rattle.fabric_model.specs.declared.node.EndPort.{EndPort}
use Rattle.fabric_model.specs.Nodes.{EndsOwned}
use Rattle.fabric_model.proofs.OwnerLemmas.{cut_last, cut_same, no_owners, same_owners}
use Rattle.fabric_model.proofs.fabric.find_owners.Goals as goal

pub returns-clause-owners : goal.returns-clause-owners
returns-clause-owners c = λ nodes switches ends one.
    let full = c.put_ends.new.owners.items in
    let value = c.deref.ensures.value in
    let low = subst (λ (l : List (Option EndPort)). c.owned_end-end.result ≤ length l) value c.owned_end-end.ensures.low in
    let none = subst (λ (l : List (Option EndPort)). (lid : ℕ) → c.owned_end-end.result ≤ lid → get_or l lid None ≡ None) value c.owned_end-end.ensures.none in
    let cut = c.in_ok-owned.ensures.items ∙ ap (λ (l : List (Option EndPort)). take c.owned_end-end.result l) c.deref-2.ensures.value in
    let first = c.put_switches.ensures.owners nodes switches one (no_owners nodes c.in_ok-owners.owners.items c.in_ok-owners.ensures.none) in
    let all = c.put_ends.ensures.owners nodes ends one first in
    same_owners nodes (length nodes.switches) (length nodes.ends) c.put_ends.new.owners.items c.in_ok-owned.owned.items
    (λ lid. ap (λ (l : List (Option EndPort)). get_or l lid None) cut ∙ cut_same c.owned_end-end.result c.put_ends.new.owners.items low none lid) all

pub returns-clause-last : goal.returns-clause-last
returns-clause-last c =
    let value = c.deref.ensures.value in
    let low = subst (λ (l : List (Option EndPort)). c.owned_end-end.result ≤ length l) value c.owned_end-end.ensures.low in
    let last = subst (λ (l : List (Option EndPort)). 0 < c.owned_end-end.result → get_or l (c.owned_end-end.result - 1) None ≢ None) value c.owned_end-end.ensures.last in
    let cut = c.in_ok-owned.ensures.items ∙ ap (λ (l : List (Option EndPort)). take c.owned_end-end.result l) c.deref-2.ensures.value in
    subst EndsOwned (sym cut) (cut_last c.owned_end-end.result c.put_ends.new.owners.items low last)
