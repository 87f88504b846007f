use Rattle.std.proofs.Common.{◌≡◌, ◌∙◌, sym, ap, subst, refl, ℕ, ◌+◌, Some, arith, List, length, replicate}
use Rattle.std.specs.Vec.{with_items}
use Rattle.std.proofs.lemmas.List.{with_items_is}
use Rattle.std.proofs.Math.ListN.{length-replicate}
use Rattle.fabric_tables.specs.Cells.{TablesOf, tables_of}
use Rattle.fabric_model.specs.declared.node.EndPort.{EndPort}
use Rattle.fabric_model.specs.Fabric.{FabricOf, owner_of, switch_count}
use Rattle.fabric_routes.specs.declared.trace.Mark.{Mark}
use Rattle.fabric_routes.specs.declared.trace.Mark.TheVariants.{New}
use Rattle.fabric_model.specs.declared.traffic.Traffic.TheVariants.{Hosts}
use Rattle.fabric_routes.specs.Routes.{IsTarget, Sends}
use Rattle.fabric_routes.specs.Trace.{hop_to, whole}
use Rattle.fabric_routes.proofs.TraceLemmas.{ready_new}
use Rattle.fabric_route_command.proofs.GreatestLemmas.{count_from, nobody_sends}
use Rattle.fabric_route_command.proofs.LoadLemmas.{lid_done, lid_unsent}
use Rattle.fabric_route_command.proofs.LongestLemmas.{arrived_lid, arrived_unsent}
use Rattle.fabric_route_command.specs.declared.loads.Loads.{Loads}
use Rattle.fabric_route_command.specs.Loads.{AreHops, AreLoadsUntil}
use Rattle.fabric_route_command.proofs.loads.Loads.add_lid.Goals as goal

-- nothing is sent to the LID
none_to : (fabric : FabricOf) (tables : TablesOf) (lid : ℕ) (loads : Loads) → ((source : EndPort) → Sends fabric tables Hosts lid source → ⊥) → AreLoadsUntil fabric tables lid 0 loads → AreLoadsUntil fabric tables (lid + 1) 0 loads
none_to fabric tables lid loads none are = record {
  exact = lid_unsent fabric tables lid loads none are.exact;
  arrived = arrived_unsent fabric tables lid loads none are.arrived;
  few = (let few = are.few in omega arith);
  few_routes = (let few = are.few_routes in omega arith);
}

pub returns-in_default-clause-loads : goal.returns-in_default-clause-loads
returns-in_default-clause-loads c =
    let fabric = c.args.fabric.now in
    let tables = tables_of c.args.cells.now in
    none_to fabric tables c.args.lid c.args.self.now
    (nobody_sends fabric tables c.args.lid (λ owner owns is_target. (let none = c.in_default.ensures in absurd (cc)))) c.requires.loads

pub returns-then-not-is_target-clause-loads : goal.returns-then-not-is_target-clause-loads
returns-then-not-is_target-clause-loads c =
    let fabric = c.args.fabric.now in
    let tables = tables_of c.args.cells.now in
    none_to fabric tables c.args.lid c.args.self.now
    (nobody_sends fabric tables c.args.lid (λ owner owns is. (let yes = c.is_target.ensures.1 (owner, owns, is) in let no = c.if-not-is_target.true in absurd (cc)))) c.requires.loads

pub switches-init : goal.switches-init
switches-init c =
    let fabric = c.args.fabric.now in
    let old = c.args.rooms.now.marks in
    let new = c.forget.new.marks in
    let before : length c.deref_mut.result.now ≡ switch_count fabric = ap (λ (xs : List Mark). length xs) c.deref_mut.ensures.value ∙ c.requires.rooms.marks in
    let fresh : new ≡ replicate (switch_count fabric) New = c.forget.ensures ∙ ap (λ (n : ℕ). let xs : List Mark = replicate n New in xs) before in
    let count : length new ≡ switch_count fabric = ap (λ (xs : List Mark). length xs) fresh ∙ length-replicate (switch_count fabric) New in
    let size : length new ≡ old.len = (let has = old.ok.0 in let is = c.requires.rooms.marks in omega arith) in
    let put : length c.put_hops.new.hops ≡ c.args.rooms.now.hops.len = (let has = c.args.rooms.now.hops.ok.0 in let is = c.requires.rooms.hops in let size = c.put_hops.ensures.size in omega arith) in
    record {
      loads = c.requires.loads;
      rooms = record {
        ready = ready_new (hop_to fabric (tables_of c.args.cells.now) (whole c.args.lid)) (switch_count fabric) (switch_count fabric) (with_items old new).items refl (with_items_is old new size ∙ fresh);
        path = c.requires.rooms.path;
        hops = subst (AreHops fabric (tables_of c.args.cells.now) c.args.lid) (sym (with_items_is c.args.rooms.now.hops c.put_hops.new.hops put)) c.put_hops.ensures;
      };
    }

pub add_from-requires-clause-routes : goal.add_from-requires-clause-routes
add_from-requires-clause-routes c =
    let fabric = c.args.fabric.now in
    let owns : owner_of fabric c.args.lid ≡ Some c.in-Some.owner = sym c.in-Some.ensures in
    let found = c.is_target.ensures.0 c.if-not-is_target.false in
    let same : found.0 ≡ c.in-Some.owner = (let other = found.1 in cc) in
    count_from fabric (tables_of c.args.cells.now) c.args.lid c.switches.start c.in-Some.owner owns (subst (IsTarget fabric Hosts) same found.2) c.count_senders-routes.result c.count_senders-routes.ensures.count

pub returns-clause-loads : goal.returns-clause-loads
returns-clause-loads c =
    let fits = c.switches-start-end.ensures.fabric in
    record {
      arrived = arrived_lid c.args.fabric.now (tables_of c.args.cells.now) fits c.args.lid c.switches.start c.switches.self (omega arith) c.switches.invariant.loads.arrived;
      few_routes = (let few = c.switches.invariant.loads.few_routes in let low = fits.few in let last : c.switches.start ≡ switch_count c.args.fabric.now = omega arith in omega arith);
      exact = lid_done c.args.fabric.now (tables_of c.args.cells.now) fits c.args.lid c.switches.start c.switches.self (omega arith) c.switches.invariant.loads.exact;
      few = (let few = c.switches.invariant.loads.few in let low = fits.few in let last : c.switches.start ≡ switch_count c.args.fabric.now = omega arith in omega arith);
    }
