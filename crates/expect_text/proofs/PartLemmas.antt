use Rattle.std.proofs.Common.{◌≡◌, ◌∙◌, ap, ℕ, ◌<◌, List, Option, All, arith, length, get_or, map, unwrap_or, slice_get}
use Rattle.std.specs.Option.{option_map}
use Rattle.std.proofs.lemmas.Option.{slice_get-get_or}
use Rattle.an_base.specs.Values.{EntryOf}
use Rattle.an_base.specs.Numbers.{AreNumbers}
use Rattle.net_graph.specs.declared.wiring.SwitchAt.{SwitchAt}
use Rattle.net_graph.specs.Wires.{Wires, IsWired}
use Rattle.net_graph.specs.Forest.{IsComponent, IsMember, IsForest}
use Rattle.topo_graph.specs.Topology.{IsGraph, IsTree}
use Rattle.std.proofs.lemmas.List.FromFn.{length-map-range_with_len}
use Rattle.switch_numbering.specs.Numbering.{number_at, proposals, numbering}
use Rattle.switch_numbering.proofs.Differing.{numbers_are}
use Rattle.net_script.specs.Scripts.{ScriptOf, IsScript}
use Rattle.expect_text.specs.Expect.{Part, AreTables}
use Rattle.row_text.proofs.ComponentTree.{All-from_map, component_tree}

-- the number that a switch had last, where there is such a switch
had_is : (switches : List SwitchAt) (x : ℕ) (d : SwitchAt) → x < length switches → unwrap_or (option_map (λ (s : SwitchAt). s.had) (slice_get switches x)) 1 ≡ (get_or switches x d).had
had_is switches x d low = ap (λ (o : Option SwitchAt). unwrap_or (option_map (λ (s : SwitchAt). s.had) o) 1) (slice_get-get_or switches x d low)

-- the numbers of a component
pub component_numbering : (w : Wires) (r : ℕ) (es : List EntryOf) → IsWired w → IsComponent w r es → IsGraph es → AreNumbers (numbering es)
component_numbering w r es wired is graph = numbers_are es graph.some graph.most (λ i d low.
    let member : IsMember w r (get_or es i d) = is.only i d low in
    let s : SwitchAt = record { uid = 0; had = 1 } in
    let had : (get_or es i d).proposed ≡ (get_or w.switches member.0 s).had = member.2.proposed ∙ had_is w.switches member.0 s member.1 in
    let range = wired.switches member.0 s member.1 in
    let least = range.had_least in
    let most = range.had_most in
    (omega arith, omega arith))

-- what is so of each part of what is expected of a script
pub record IsPart (s : ScriptOf) (p : Part) : Type 0 where
  pub root : ℕ
  pub component : IsComponent s.wires root p.entries
  pub graph : IsGraph p.entries
  pub tree : IsTree p.entries
  pub numbers : AreNumbers (numbering p.entries)
  pub count : length (numbering p.entries) ≡ length p.entries
  pub tables : AreTables p.entries s.any_routes (length p.entries) p.tables

part_is : (s : ScriptOf) (p : Part) (r : ℕ) → IsScript s → IsComponent s.wires r p.entries → AreTables p.entries s.any_routes (length p.entries) p.tables → IsPart s p
part_is s p r kept component tables =
    let graph = component_tree s.wires r p.entries kept.wired component in
    record {
      root = r;
      component = component;
      graph = graph.0;
      tree = graph.1;
      numbers = component_numbering s.wires r p.entries kept.wired component graph.0;
      count = length-map-range_with_len (number_at (proposals p.entries)) 0 (length p.entries);
      tables = tables;
    }

pub are_parts : (s : ScriptOf) (parts : List Part) → IsScript s → IsForest s.wires (map (λ p. p.entries) parts) → All (λ p. AreTables p.entries s.any_routes (length p.entries) p.tables) parts → All (IsPart s) parts
are_parts s parts kept trees tables k d low =
    let component = All-from_map (λ es. (r : ℕ) × IsComponent s.wires r es) (λ p. p.entries) parts trees.components k d low in
    part_is s (get_or parts k d) component.0 kept component.1 (tables k d low)
