-- The nodes that an output mentions, and their names.

use Rattle.std.specs.Prelude.{ℕ, List, [], ◌∷◌, ◌++◌, Option, Some, None, nat_eq}
use Rattle.std.specs.List.{flat_map}
use Rattle.indexmap.specs.IndexSet.{insert_all}
use Rattle.fabric_print.specs.declared.answer.Lost.{Lost}
use Rattle.fabric_print.specs.declared.answer.Name.{Name}
use Rattle.fabric_print.specs.declared.answer.LoopStep.{LoopStep}
use Rattle.fabric_topology.specs.Names.{name_of}

-- the GUIDs in steps of a cycle and in lost routes, in the order in which they occur
abbrev pub guids_of : List LoopStep → List Lost → List ℕ
guids_of cycle lost =
    flat_map (λ step. step.guid ∷ step.source ∷ []) cycle
    ++ flat_map (λ route. route.source ∷ route.at ∷ []) lost

-- the GUIDs in steps of a cycle and in lost routes, each once, in the order of first occurrence
abbrev pub mentioned : List LoopStep → List Lost → List ℕ
mentioned cycle lost = insert_all nat_eq [] (guids_of cycle lost)

-- a node with its name, if it has one
abbrev pub told_name : ℕ → Option (List ℕ) → List Name
told_name guid None = []
told_name guid (Some name) = record { guid = guid; text = name } ∷ []

-- the names that a text gives to the nodes with these GUIDs
abbrev pub names_for : List ℕ → List ℕ → List Name
names_for text = flat_map (λ guid. told_name guid (name_of text guid))
