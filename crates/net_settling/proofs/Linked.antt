-- The links of a script, by their two ends, in each reached world.

use Rattle.std.specs.Prelude.{◌≡◌, ◌≢◌, ◌⊎◌, ◌+◌, ◌*◌, ◌<◌, ◌≤◌, ℕ, List, [], ◌∷◌, map, length, slice_index_or, AllPairs, Any, Some, true}
use Rattle.std.specs.List.{flat_map}
use Rattle.std.proofs.Common.{sym, ◌∙◌, ap, inl, inr, arith}
use Rattle.common_values.proofs.ListLemmas.{AllPairs-head, AllPairs-tail, Any-cons_cases}
use Rattle.common_values.proofs.PairLemmas.{AllPairs-front}
use Rattle.net_graph.specs.declared.wiring.LinkAt.{LinkAt}
use Rattle.an_base.specs.declared.event.Event.{Event}
use Rattle.net_graph.specs.declared.wiring.Far.TheVariants.{Switch}
use Rattle.net_graph.specs.Wires.{IsFar, Joins, a_end, b_end, link_ends, host_end, far_at, far_of, far_or_host, host_of}
use Rattle.net_graph.proofs.FarLemmas.{far_back, joined, to_switch}
use Rattle.net_script.specs.Scripts.{ScriptOf, IsScript}
use Rattle.wire_set.specs.WireState.{place, side_at, wire_out, is_link, far_place}
use Rattle.net_state.specs.Fabric.{is_up}
use Rattle.net_world.specs.World.{world_after}
use Rattle.net_world.proofs.FabricLemmas.{world_fits}
use Rattle.net_game.proofs.Firm.{places}
use Rattle.net_game.proofs.MetLemmas.{far_fits}
use Rattle.net_game.proofs.DeliveredLemmas.{far_is}
use Rattle.net_settling.specs.Views.{LinkOf, turned}

-- a link of the script, with its two ends
pub record IsLinkOf (script : ScriptOf) (l : LinkOf) : Type 0 where
  pub far : far_at script.wires l.place l.port ≡ Some (Switch l.far_place l.far_port)
  pub back : far_at script.wires l.far_place l.far_port ≡ Some (Switch l.place l.port)
  pub here : IsFar (places script) l.place l.port (l.far_place, l.far_port)
  pub there : IsFar (places script) l.far_place l.far_port (l.place, l.port)

pub link_turned : (script : ScriptOf) (l : LinkOf) → IsLinkOf script l → IsLinkOf script (turned l)
link_turned script l is = record { far = is.back; back = is.far; here = is.there; there = is.here }

pub link_of : (script : ScriptOf) → IsScript script → (s p t q : ℕ) → far_at script.wires s p ≡ Some (Switch t q) → IsLinkOf script (record { place = s; port = p; far_place = t; far_port = q })
link_of script kept s p t q far =
    let one : far_of script.wires.links s p ≡ Some (t, q) = to_switch (far_of script.wires.links s p) (host_of script.wires.hosts s p) t q far in
    let other : far_of script.wires.links t q ≡ Some (s, p) = far_back script.wires kept.wired s p t q one in
    let back : far_at script.wires t q ≡ Some (Switch s p) = ap (λ o. far_or_host o (host_of script.wires.hosts t q)) other in
    record { far = far; back = back; here = far_fits script kept s p t q far; there = far_fits script kept t q s p back }

-- no port is at both ends of a link
joins_itself : (ls : List LinkAt) (s p : ℕ) → AllPairs (λ a b. a ≢ b) (flat_map link_ends ls) → Any (λ (x : LinkAt). Joins x s p s p) ls → ⊥
joins_itself [] s p apart any = let low = any.2 in absurd (omega (arith, low))
joins_itself (x ∷ ls) s p apart any = by (joins_itself ls s p (AllPairs-tail (λ a b. a ≢ b) (b_end x) (flat_map link_ends ls) (AllPairs-tail (λ a b. a ≢ b) (a_end x) (b_end x ∷ flat_map link_ends ls) apart))) (Any-cons_cases (λ (y : LinkAt). Joins y s p s p) x ls any)
  where
    first : (a_end x ≡ (s, p)) → (b_end x ≡ (s, p)) → ⊥
    first a b = AllPairs-head (λ a b. a ≢ b) (a_end x) (b_end x ∷ flat_map link_ends ls) apart 0 (b_end x) (omega arith) (a ∙ sym b)

    by : (Any (λ (y : LinkAt). Joins y s p s p) ls → ⊥) → Joins x s p s p ⊎ Any (λ (y : LinkAt). Joins y s p s p) ls → ⊥
    by rest (inl (inl e)) = first (ap (λ xs. slice_index_or xs 0 (s, p)) e) (ap (λ xs. slice_index_or xs 1 (s, p)) e)
    by rest (inl (inr e)) = first (ap (λ xs. slice_index_or xs 0 (s, p)) e) (ap (λ xs. slice_index_or xs 1 (s, p)) e)
    by rest (inr later) = rest later

pub ends_apart : (script : ScriptOf) → IsScript script → (l : LinkOf) → IsLinkOf script l → l.far_place ≡ l.place → l.far_port ≡ l.port → ⊥
ends_apart script kept l is same port =
    let far : far_at script.wires l.place l.port ≡ Some (Switch l.place l.port) = is.far ∙ (λ i. Some (Switch (same i) (port i))) in
    joins_itself script.wires.links l.place l.port (AllPairs-front (λ a b. a ≢ b) (flat_map link_ends script.wires.links) (map host_end script.wires.hosts) kept.wired.ports_apart)
    (joined script.wires.links l.place l.port l.place l.port (to_switch (far_of script.wires.links l.place l.port) (host_of script.wires.hosts l.place l.port) l.place l.port far))

-- places of ports differ
pub same_places : (s p t q : ℕ) → p ≤ 12 → q ≤ 12 → place s p ≡ place t q → (s ≡ t) × (p ≡ q)
same_places s p t q low most e = let f : 13 * s + p ≡ 13 * t + q = e in (omega (arith, f, low, most), omega (arith, f, low, most))

-- in each reached world
pub side_far : (script : ScriptOf) → IsScript script → (h : List Event) (l : LinkOf) → IsLinkOf script l → (side_at (world_after script h).fabric.wires (place l.place l.port)).far ≡ Some (Switch l.far_place l.far_port)
side_far script kept h l is = let most = is.here.own_port_most in far_is script kept h l.place l.port is.here.node_below (omega (arith, most)) ∙ is.far

pub side_link : (script : ScriptOf) → IsScript script → (h : List Event) (l : LinkOf) → IsLinkOf script l → is_link (side_at (world_after script h).fabric.wires (place l.place l.port)).far ≡ true
side_link script kept h l is = ap is_link (side_far script kept h l is)

pub out_is : (script : ScriptOf) → IsScript script → (h : List Event) (l : LinkOf) → IsLinkOf script l → wire_out (world_after script h).fabric.wires l.place l.port ≡ place l.far_place l.far_port
out_is script kept h l is = ap far_place (side_far script kept h l is)

-- a link is up at both its ends
pub up_turned : (script : ScriptOf) → IsScript script → (h : List Event) (l : LinkOf) → IsLinkOf script l → is_up (world_after script h).fabric l.place l.port ≡ true → is_up (world_after script h).fabric l.far_place l.far_port ≡ true
up_turned script kept h l is up =
    let w = (world_after script h).fabric.wires in
    let one = (world_fits script kept h).wires_sound.agree (place l.place l.port) (side_link script kept h l is) in
    ap (λ at. (side_at w at).is_up) (sym (out_is script kept h l is)) ∙ one.up ∙ up

-- its wire is one of the queues
pub wire_low : (script : ScriptOf) → IsScript script → (h : List Event) (l : LinkOf) → IsLinkOf script l → place l.far_place l.far_port < length (world_after script h).fabric.wires.frames.queues
wire_low script kept h l is =
    let fits = world_fits script kept h in
    let size = fits.wires_sound.frames.queues in
    let same = ap (λ (s : ScriptOf). length s.wires.switches) (Rattle.net_world.proofs.InductionLemmas.world_script script h) in
    let low = is.there.node_below in
    let most = is.there.own_port_most in
    omega (arith, size, same, low, most)
