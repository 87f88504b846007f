-- The names of the nodes that an answer mentions.
use Rattle.std.proofs.Common.{◌≡◌, ◌∙◌, sym, ap, ℕ, ◌+◌, ◌<◌, List, [], ◌++◌, Option, length, get_or, take}
use Rattle.std.proofs.lemmas.List.{flat_map_more, take_more}
use Rattle.fabric_topology.specs.Names.{name_of}
use Rattle.fabric_print.specs.declared.answer.Name.{Name}
use Rattle.fabric_judge_commands.specs.Names.{told_name, names_for}

-- the name of one node more
pub name_more : (text guids : List ℕ) (place : ℕ) (old new : List Name) (name : Option (List ℕ)) → place < length guids → old ≡ names_for text (take place guids) → new ≡ old ++ told_name (get_or guids place 0) name → name ≡ name_of text (get_or guids place 0) → new ≡ names_for text (take (place + 1) guids)
name_more text guids place old new name low before more is =
    more
    ∙ ap (λ (n : Option (List ℕ)). old ++ told_name (get_or guids place 0) n) is
    ∙ ap (λ (front : List Name). front ++ told_name (get_or guids place 0) (name_of text (get_or guids place 0))) before
    ∙ flat_map_more (λ guid. told_name guid (name_of text guid)) [] (take place guids) (get_or guids place 0)
    ∙ ap (λ (xs : List ℕ). names_for text xs) (sym (take_more guids place 0 low))
