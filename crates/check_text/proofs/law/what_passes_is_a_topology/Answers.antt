use Rattle.std.proofs.Common.{ℕ, List, Contains, subst}
use Rattle.std.proofs.lemmas.List.{length-map}
use Rattle.topo_graph.specs.Topology.{IsGraph, IsTree}
use Rattle.net_graph.specs.Forest.{IsComponent}
use Rattle.net_script.specs.Scripts.{ScriptOf}
use Rattle.row_text.proofs.ComponentTree.{All-from_map, component_tree}
use Rattle.table_script.specs.Tables.{TablesOf}
use Rattle.table_script.specs.TableTexts.{IsTextWith}
use Rattle.check_text.specs.Check.{AllPass, IsRanked, Ranked, number_of}
use Rattle.check_text.proofs.ComponentLemmas.{component_numbers}
use Rattle.check_text.proofs.TextSays.{text_says}
use Rattle.check_text.proofs.law.what_passes_is_a_topology.Goals as goal

pub returns-clause-script : goal.returns-clause-script
returns-clause-script c = λ bytes s t said. (text_says bytes s t said).script

-- a part is a component
component_of : (s : ScriptOf) (t : TablesOf) (text : List ℕ) (is : AllPass s t text) (part : Ranked) → Contains is.parts part → (top : ℕ) × IsComponent s.wires top part.entries
component_of s t text is part (k, low, found) =
    subst (λ (p : Ranked). (top : ℕ) × IsComponent s.wires top p.entries) found
    (All-from_map (λ es. (top : ℕ) × IsComponent s.wires top es) (λ p. p.entries) is.parts is.trees.components k part low)

tree_of : (bytes : List ℕ) (s : ScriptOf) (t : TablesOf) (text : List ℕ) (is : AllPass s t text) (part : Ranked) → IsTextWith bytes s t → Contains is.parts part → IsGraph part.entries × IsTree part.entries
tree_of bytes s t text is part said has =
    let component = component_of s t text is part has in
    component_tree s.wires component.0 part.entries (text_says bytes s t said).script.wired component.1

pub returns-clause-tree : goal.returns-clause-tree
returns-clause-tree c = tree_of

pub returns-clause-numbers : goal.returns-clause-numbers
returns-clause-numbers c = λ bytes s t text is part said has.
    let told = text_says bytes s t said in
    let component = component_of s t text is part has in
    let graph = (tree_of bytes s t text is part said has).0 in (
      component_numbers s.wires t component.0 part.entries told.script.wired told.tables told.of_network component.1 graph.some graph.most,
      length-map part.entries (number_of s.wires.switches t.numbers),
    )

pub returns-clause-passes : goal.returns-clause-passes
returns-clause-passes c = λ s t text is part (k, low, found). subst (IsRanked s.wires.switches t) found (is.pass k part low)
