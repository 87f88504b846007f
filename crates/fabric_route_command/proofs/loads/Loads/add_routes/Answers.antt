use Rattle.std.proofs.Common.{◌<◌, ◌≡◌, ◌∙◌, sym, subst, refl, ℕ, ◌+◌, arith, List, get_or}
use Rattle.fabric_tables.specs.Cells.{TablesOf, tables_of}
use Rattle.std.proofs.lemmas.List.{get_or_default}
use Rattle.fabric_counts.specs.Counts.{hop_for}
use Rattle.fabric_counts.proofs.LostLemmas.{walk_more}
use Rattle.fabric_model.specs.Fabric.{FabricOf, switch_count}
use Rattle.fabric_routes.specs.declared.hop.Hop.{Hop}
use Rattle.fabric_routes.specs.declared.hop.Hop.TheVariants.{On, Arrive, Stop}
use Rattle.fabric_routes.specs.Routes.{Channel, ComesBy, hop}
use Rattle.fabric_routes.proofs.ChannelLemmas.{channel_low, hop_within, on_link}
use Rattle.fabric_route_command.specs.Loads.{AreHops, IsPlace, IsUntil}
use Rattle.fabric_route_command.proofs.LoadLemmas.{along_more, walked}
use Rattle.fabric_route_command.proofs.LongestLemmas.{arrived_alike}
use Rattle.fabric_route_command.proofs.WayLemmas.{not_so_far}
use Rattle.fabric_route_command.proofs.loads.Loads.add_routes.Goals as goal

arrived : (does : Hop) → does ≡ Arrive → (port next : ℕ) → does ≡ On port next → ⊥
arrived does is port next on = absurd (cc)

pub hops-init : goal.hops-init
hops-init c = record { loads = c.requires.loads; comes = refl; within = c.requires.start }

-- what a switch does
does_here : (fabric : FabricOf) (tables : TablesOf) (lid : ℕ) (hops : List Hop) → AreHops fabric tables lid hops → (at : ℕ) → at < switch_count fabric → (other : Hop) → get_or hops at other ≡ hop fabric tables at lid
does_here fabric tables lid hops are at low other = get_or_default hops at other Arrive (let size = are.size in omega arith) ∙ are.each at low

place_of_hop : (fabric : FabricOf) (tables : TablesOf) (lid at port next : ℕ) → at < switch_count fabric → hop fabric tables at lid ≡ On port next → IsPlace fabric (let c : Channel = record { switch = at; port = port } in c)
place_of_hop fabric tables lid at port next within goes =
    let here : Channel = record { switch = at; port = port } in
    let link = on_link fabric tables at lid port next goes in
    let low = channel_low fabric here (record { to = next; entry = link.0; leads = link.1 }) in
    record { switch = within; used = low.0; low = low.1 }

pub add_to-requires-clause-place : goal.add_to-requires-clause-place
add_to-requires-clause-place c =
    let fabric = c.args.fabric.now in
    let tables = tables_of c.args.cells.now in
    let goes = sym (does_here fabric tables c.args.lid c.args.hops.now c.requires.hops c.hops.at c.hops.invariant.within (On 0 0)) ∙ c.in-On.is in
    place_of_hop fabric tables c.args.lid c.hops.at c.in-On.port c.in-On.next c.hops.invariant.within goes

pub returns-in-Arrive : goal.returns-in-Arrive
returns-in-Arrive c =
    let fabric = c.args.fabric.now in
    let tables = tables_of c.args.cells.now in
    let does : hop fabric tables c.hops.at c.args.lid ≡ Arrive = sym (does_here fabric tables c.args.lid c.args.hops.now c.requires.hops c.hops.at c.hops.invariant.within (On 0 0)) ∙ c.in-Arrive.is in
    record {
      exact = walked fabric tables c.args.lid c.args.start c.hops._hops c.hops.at c.hops.self c.hops.invariant.comes (λ port next on. absurd (cc)) c.hops.invariant.loads.exact;
      arrived = c.hops.invariant.loads.arrived;
      few = (let few = c.hops.invariant.loads.few in let low = c.hops-test.true in let most = c.switches-hops-end.ensures.most in omega arith);
      few_routes = c.hops.invariant.loads.few_routes;
    }

pub returns-in-Stop : goal.returns-in-Stop
returns-in-Stop c =
    let fabric = c.args.fabric.now in
    let tables = tables_of c.args.cells.now in
    let does : hop fabric tables c.hops.at c.args.lid ≡ Stop c.in-Stop.field-0 = sym (does_here fabric tables c.args.lid c.args.hops.now c.requires.hops c.hops.at c.hops.invariant.within (On 0 0)) ∙ c.in-Stop.is in
    record {
      exact = walked fabric tables c.args.lid c.args.start c.hops._hops c.hops.at c.hops.self c.hops.invariant.comes (λ port next on. absurd (cc)) c.hops.invariant.loads.exact;
      arrived = c.hops.invariant.loads.arrived;
      few = (let few = c.hops.invariant.loads.few in let low = c.hops-test.true in let most = c.switches-hops-end.ensures.most in omega arith);
      few_routes = c.hops.invariant.loads.few_routes;
    }

pub hops-preserved : goal.hops-preserved
hops-preserved c =
    let fabric = c.args.fabric.now in
    let tables = tables_of c.args.cells.now in
    let goes : hop fabric tables c.hops.at c.args.lid ≡ On c.in-On.port c.in-On.next = sym (does_here fabric tables c.args.lid c.args.hops.now c.requires.hops c.hops.at c.hops.invariant.within (On 0 0)) ∙ c.in-On.is in
    let here : Channel = record { switch = c.hops.at; port = c.in-On.port } in
    let within = place_of_hop fabric tables c.args.lid c.hops.at c.in-On.port c.in-On.next c.hops.invariant.within goes in
    record {
      loads = record {
        exact = along_more fabric tables c.args.lid c.args.start c.requires.arrive.0 c.requires.arrive.1 c.hops._hops here within c.hops.invariant.comes c.in-On.next goes c.args.routes c.requires.routes
            c.hops.self c.add_to.new.self c.add_to.ensures.each c.add_to.ensures.hops c.hops.invariant.loads.exact;
        arrived = arrived_alike fabric tables (IsUntil fabric c.args.lid (c.args.start + 1)) c.hops.self c.add_to.new.self c.add_to.ensures.same_routes c.add_to.ensures.same_longest c.hops.invariant.loads.arrived;
        few_routes = (let few = c.hops.invariant.loads.few_routes in let same = c.add_to.ensures.same_routes in omega arith);
        few = (let few = c.hops.invariant.loads.few in let all = c.add_to.ensures.hops in let less = c.requires.few in omega arith);
      };
      comes = walk_more (hop_for fabric tables c.args.lid) c.args.start c.hops._hops c.hops.at c.in-On.port c.in-On.next c.hops.invariant.comes goes;
      within = hop_within fabric c.switches-hops-end.ensures.fabric tables c.hops.at c.args.lid c.in-On.port c.in-On.next goes;
    }

pub returns : goal.returns
returns c =
    let fabric = c.args.fabric.now in
    let tables = tables_of c.args.cells.now in
    let fits = c.switches-hops-end.ensures.fabric in
    let count : c.hops._hops ≡ switch_count fabric = omega arith in
    let far = subst (λ (n : ℕ). ComesBy fabric tables c.args.lid n c.args.start c.hops.at) count c.hops.invariant.comes in
    absurd (not_so_far (hop_for fabric tables c.args.lid) c.args.start c.requires.arrive.0 (switch_count fabric) c.hops.at c.requires.start
    (λ at port next on. hop_within fabric fits tables at c.args.lid port next on) c.requires.arrive.1 far)
