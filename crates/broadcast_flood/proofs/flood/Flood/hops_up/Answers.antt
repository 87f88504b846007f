use Rattle.std.proofs.Common.{◌≡◌, ◌∙◌, sym, ap, subst, ℕ, ◌++◌, ◌∷◌, [], List, Option, Some, None, true, arith}
use Rattle.an_base.specs.Values.{LifeId, Place, EntryOf}
use Rattle.topo_graph.specs.Topology.{far_of, life_at, IsGraph, IsTree}
use Rattle.broadcast_flood.specs.Tree.{parent_port, parent_of}
use Rattle.broadcast_flood.specs.declared.hop.FloodHop.{FloodHop}
use Rattle.broadcast_flood.proofs.TreeLemmas.{parent_level}
use Rattle.broadcast_flood.proofs.UpLemmas.{LeadsUpTo, one_up, all_up}
use Rattle.broadcast_flood.proofs.flood.Flood.hops_up.Goals as goal

-- what is at the parent port is the parent
parent_is : (es entries : List EntryOf) (at port : ℕ) (far : Option (ℕ × ℕ)) → entries ≡ es → port ≡ parent_port es at → far_of entries at port ≡ far → parent_of es at ≡ far
parent_is es entries at port far same is e =
    subst (λ (p : ℕ). far_of es at p ≡ far) is (subst (λ (all : List EntryOf). far_of all at port ≡ far) same e)

pub ups-smaller : goal.ups-smaller
ups-smaller c =
    let es = c.args.self.now in
    let graph = subst (λ (entries : List EntryOf). IsGraph entries) c.self.view_is c.self.invariant.graph in
    let tree = subst (λ (entries : List EntryOf). IsTree entries) c.self.view_is c.self.invariant.tree in
    let there = parent_is es c.self.inside.graph.now c.ups.at c.ups.port (Some (c.in-Some.parent, c.in-Some.field-0-1)) c.self.view_is c.ups.invariant.port (sym c.in-Some.ensures.far) in
    let level = parent_level es c.ups.at c.in-Some.parent c.in-Some.field-0-1 graph tree there in
    omega arith

pub ups-preserved : goal.ups-preserved
ups-preserved c =
    let es = c.args.self.now in
    let graph = subst (λ (entries : List EntryOf). IsGraph entries) c.self.view_is c.self.invariant.graph in
    let there = parent_is es c.self.inside.graph.now c.ups.at c.ups.port (Some (c.in-Some.parent, c.in-Some.field-0-1)) c.self.view_is c.ups.invariant.port (sym c.in-Some.ensures.far) in
    let made : LifeId → ℕ → List FloodHop = λ life p. c.ups.hops.items ++ record { up = true; at = life; port = p } ∷ [] in
    let life = c.life.ensures ∙ ap (λ (entries : List EntryOf). life_at entries c.ups.at) c.self.view_is in
    let items = c.in_ok-push.ensures.items ∙ ap (λ (l : LifeId). made l c.ups.port) life ∙ ap (made (life_at es c.ups.at)) c.ups.invariant.port in
    record {
      leads = subst (λ (hops : List FloodHop). LeadsUpTo es c.args.x c.in-Some.parent hops) (sym items) (one_up es c.args.x c.ups.at c.in-Some.parent c.in-Some.field-0-1 c.ups.hops.items graph c.ups.invariant.leads there);
      port = ap (λ (p : Place). p.port) (c.port-in-Some.view_is ∙ c.position-in-Some.ensures) ∙ ap (λ (entries : List EntryOf). parent_port entries c.in-Some.parent) c.self.view_is;
    }

pub returns : goal.returns
returns c =
    let none = parent_is c.args.self.now c.self.inside.graph.now c.ups.at c.ups.port None c.self.view_is c.ups.invariant.port (sym c.in_default.ensures.far) in
    all_up c.args.self.now c.args.x c.ups.at c.ups.hops.items c.ups.invariant.leads none
