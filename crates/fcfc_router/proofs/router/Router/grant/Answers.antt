use Rattle.std.proofs.Common.{refl, ap, sym, subst, ℕ, List, Option, set}
use Rattle.fcfc_router.specs.declared.router.Grant.{Grant}
use Rattle.fcfc_router.specs.Router.{Grants, IsGranted, NoneCanGo, RequestOf}
use Rattle.fcfc_router.specs.Shown.{IsIndex, RouterOf, shown}
use Rattle.fcfc_router.proofs.ShownLemmas.{grants_oldest, index_granted, is_used, none_of_all}
use Rattle.fcfc_router.proofs.router.Router.grant.Goals as goal

pub returns-in_err-place-clause-granted : goal.returns-in_err-place-clause-granted
returns-in_err-place-clause-granted c =
    let index = c.self.invariant in
    let none = none_of_all c.args.free c.self.inside.slots.items c.self.inside.tree index.sets index.used c.in_err-place.ensures in
    let here = subst (λ (waiting : List RequestOf). NoneCanGo c.args.free waiting) (ap (λ (r : RouterOf). r.waiting) c.self.view_is) none in
    subst (λ (r : Option Grant). IsGranted c.args.free c.args.self.now.waiting c.args.self.now.waiting r) (sym c.from_residual.ensures) (refl, here)

pub invariant_of-self : goal.invariant_of-self
invariant_of-self c =
    let index = c.self.invariant in
    let low = is_used c.args.free c.in_ok-place.place c.self.inside.slots.items c.self.inside.tree index.sets c.in_ok-place.ensures in
    subst (λ (xs : List ℕ). IsIndex c.self.inside.most c.self.inside.slots.cap (set c.self.inside.slots.items c.in_ok-place.place (record { packet = c.index-slot.result.now.packet; ports = 0 })) xs) (sym c.put.ensures) (
    index_granted c.self.inside.most c.self.inside.slots.cap c.in_ok-place.place c.index-slot.result.now.packet c.self.inside.slots.items c.self.inside.tree index low)

pub returns-clause-granted : goal.returns-clause-granted
returns-clause-granted c =
    let index = c.self.invariant in
    subst (λ (waiting : List RequestOf). Grants c.args.free waiting (shown (set c.self.inside.slots.items c.in_ok-place.place (record { packet = c.index-slot.result.now.packet; ports = 0 }))) (record { packet = c.index-slot.result.now.packet; port = c.lowest_of.result })) (ap (λ (r : RouterOf). r.waiting) c.self.view_is) (
    grants_oldest c.args.free c.in_ok-place.place c.lowest_of.result c.self.inside.slots.items c.self.inside.tree c.index-slot.result.now index.sets c.in_ok-place.ensures c.index-slot.ensures c.lowest_of.ensures.below c.lowest_of.ensures.lowest)
