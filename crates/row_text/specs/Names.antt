use Rattle.std.specs.Prelude.{◌==◌, ℕ, List, [], ◌++◌, Option, Some, None, if◌then◌else◌, codes, position, slice_index_or}
use Rattle.std.specs.Fmt.{decimal}
use Rattle.an_base.specs.Values.{LifeId, EntryOf}
use Rattle.net_graph.specs.declared.wiring.SwitchAt.{SwitchAt}
use Rattle.net_script.specs.Scripts.{ScriptOf}
use Rattle.topo_graph.specs.Topology.{life_at}

-- How a life is printed.

-- the name at an index of `names`, empty if there is none
abbrev pub name_at : List (List ℕ) → Option ℕ → List ℕ
name_at names None = []
name_at names (Some switch) = slice_index_or names switch []

-- the name of the switch with identifier `uid`, empty if there is none
abbrev pub switch_name : List (List ℕ) → List SwitchAt → ℕ → List ℕ
switch_name names switches uid = name_at names (position (λ switch. switch.uid == uid) switches)

-- the printed form of a life: the name of its switch, followed by a point and the boot if that is not 1
abbrev pub life_text : ScriptOf → LifeId → List ℕ
life_text script life =
    switch_name script.switch_names script.wires.switches life.uid
    ++ (if life.boot == 1 then [] else (codes "." ++ decimal life.boot))

-- the printed form of the member at an index of `entries`, empty if there is none
abbrev pub member_text : ScriptOf → List EntryOf → Option ℕ → List ℕ
member_text script entries None = []
member_text script entries (Some place) = life_text script (life_at entries place)

-- the printed form of the member that has `number`, empty if no member has it
abbrev pub name_of : ScriptOf → List EntryOf → List ℕ → ℕ → List ℕ
name_of script entries numbers number =
    member_text script entries (position (λ other. other == number) numbers)
