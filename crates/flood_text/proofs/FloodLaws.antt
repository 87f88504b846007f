-- A script has one text of how broadcasts go, and in each of them each member gets one copy.
use Rattle.std.proofs.Common.{◌≡◌, ◌∙◌, sym, ap, subst, refl, ℕ, ◌<◌, List, [], ◌∷◌, arith, length, get_or, map, All, Contains}
use Rattle.std.proofs.lemmas.Option.{same_Some}
use Rattle.std.proofs.lemmas.List.{ext_get_or}
use Rattle.std.proofs.lemmas.List.Elements.{All-head, All-tail, All-contains}
use Rattle.an_base.specs.Values.{EntryOf}
use Rattle.net_graph.specs.Forest.{IsComponent}
use Rattle.net_graph.proofs.OneForest.{one_forest_of}
use Rattle.net_script.specs.Scripts.{ScriptOf, IsScript}
use Rattle.topo_graph.specs.Topology.{life_at, IsGraph, IsTree}
use Rattle.topo_graph.proofs.PlaceLemmas.{place_found}
use Rattle.broadcast_flood.specs.Floods.{IsBroadcast, IsFlood}
use Rattle.broadcast_flood.specs.declared.hop.FloodHop.{FloodHop}
use Rattle.broadcast_flood.proofs.CopyLaws.{one_copy}
use Rattle.broadcast_flood.proofs.OneLaws.{one_list}
use Rattle.flood_text.specs.Floods.{AreFloods, FloodPart, flood_text, IsFloodOf, ReachesAll}
use Rattle.row_text.proofs.ComponentTree.{All-from_map, component_tree}

-- the broadcasts of a part are those from all its members
abbrev AreAllFloods : FloodPart → Type 0
AreAllFloods part = AreFloods part.entries (length part.entries) part.floods

-- the broadcasts of the members are one list
one_floods : (entries : List EntryOf) (end : ℕ) (floods others : List (List FloodHop)) → AreFloods entries end floods → AreFloods entries end others → floods ≡ others
one_floods entries end floods others a b =
    ext_get_or [] floods others (a.count ∙ sym b.count)
    (λ x low. let within : x < end = (let e = a.count in omega arith) in one_list entries (life_at entries x) (get_or floods x []) (get_or others x []) (a.each x within) (b.each x within))

-- so a component is one part
one_part : (p q : FloodPart) → AreAllFloods p → AreAllFloods q → p.entries ≡ q.entries → p ≡ q
one_part p q are_p are_q same =
    let part : List EntryOf → List (List FloodHop) → FloodPart = λ es fs. record { entries = es; floods = fs } in
    let floods : AreFloods q.entries (length q.entries) p.floods = subst (λ (es : List EntryOf). AreFloods es (length es) p.floods) same are_p in
    ap (λ (es : List EntryOf). part es p.floods) same ∙ ap (part q.entries) (one_floods q.entries (length q.entries) p.floods q.floods floods are_q)

one_parts : (ps qs : List FloodPart) → All AreAllFloods ps → All AreAllFloods qs → map (λ p. p.entries) ps ≡ map (λ p. p.entries) qs → ps ≡ qs
one_parts [] [] are_p are_q same = refl
one_parts [] (q ∷ qs) are_p are_q same = absurd (cc)
one_parts (p ∷ ps) [] are_p are_q same = absurd (cc)
one_parts (p ∷ ps) (q ∷ qs) are_p are_q same =
    let head : p.entries ≡ q.entries = cc in
    let tail : map (λ r. r.entries) ps ≡ map (λ r. r.entries) qs = cc in
    ap (λ (r : FloodPart). r ∷ ps) (one_part p q (All-head AreAllFloods p ps are_p) (All-head AreAllFloods q qs are_q) head)
    ∙ ap (λ (rs : List FloodPart). q ∷ rs) (one_parts ps qs (All-tail AreAllFloods p ps are_p) (All-tail AreAllFloods q qs are_q) tail)

-- and a script has one text
pub one_flood_text : (s : ScriptOf) (text other : List ℕ) → IsScript s → IsFloodOf s text → IsFloodOf s other → text ≡ other
one_flood_text s text other kept one two =
    let forests = one_forest_of s.wires (map (λ p. p.entries) one.parts) (map (λ p. p.entries) two.parts) kept.wired one.trees two.trees in
    one.text_is ∙ ap (flood_text s) (one_parts one.parts two.parts one.floods two.floods forests) ∙ sym two.text_is

-- in each broadcast of a part each member gets one copy
reaches_all : (part : FloodPart) (from : ℕ) → IsGraph part.entries → IsTree part.entries → AreAllFloods part → from < length part.entries → ReachesAll part.entries from (get_or part.floods from [])
reaches_all part from graph tree are low =
    let is : IsBroadcast part.entries (life_at part.entries from) (get_or part.floods from []) = are.each from low in
    let place : is.place ≡ from = same_Some is.place from (sym is.member ∙ place_found part.entries from (life_at part.entries from) graph.rising low refl) in
    let flood : IsFlood part.entries from is.ups is.downs = subst (λ (x : ℕ). IsFlood part.entries x is.ups is.downs) place is.flood in
    record {
      ups = is.ups;
      downs = is.downs;
      flood = flood;
      hops_are = is.hops_are;
      one_copy = λ y within. (one_copy part.entries graph tree from y is.ups is.downs low within flood).1;
    }

-- so it is in what is told of a script
pub told_reaches_all : (s : ScriptOf) (text : List ℕ) (is : IsFloodOf s text) (part : FloodPart) (from : ℕ) → IsScript s → Contains is.parts part → from < length part.entries → ReachesAll part.entries from (get_or part.floods from [])
told_reaches_all s text is part from kept has low =
    let component : (r : ℕ) × IsComponent s.wires r part.entries = All-contains (λ p. (r : ℕ) × IsComponent s.wires r p.entries) is.parts part (All-from_map (λ es. (r : ℕ) × IsComponent s.wires r es) (λ p. p.entries) is.parts is.trees.components) has in
    let tree = component_tree s.wires component.0 part.entries kept.wired component.1 in
    reaches_all part from tree.0 tree.1 (All-contains AreAllFloods is.parts part is.floods has) low
