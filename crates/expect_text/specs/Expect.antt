use Rattle.std.specs.Prelude.{◌≡◌, ◌==◌, ℕ, ◌<◌, List, [], ◌∷◌, ◌++◌, length, Bool, All, map, if◌then◌else◌, codes, slice_index_or}
use Rattle.std.specs.Fmt.{decimal}
use Rattle.std.specs.List.{flat_map, zip}
use Rattle.an_base.specs.Values.{Place, EntryOf}
use Rattle.an_base.specs.Rows.{RowOf}
use Rattle.net_graph.specs.Forest.{IsForest}
use Rattle.net_script.specs.Scripts.{ScriptOf}
use Rattle.row_text.specs.TableForms.{TableForm, ComponentLine, MemberLine, NumberLine, EndLine, table_text}
use Rattle.topo_graph.specs.Topology.{entry_at}
use Rattle.switch_numbering.specs.Numbering.{numbering}
use Rattle.table_build.specs.Tables.{TableOf, IsTable}
use Rattle.row_text.specs.Names.{life_text}
use Rattle.row_text.specs.Rows.{table_forms}

-- The text of `expect`, in the forms of lines from which `table_script` reads tables.

-- the words for the parent, and for the own port to it; none for the root
abbrev pub parent_words : ScriptOf → Place → List (List ℕ)
parent_words script place =
    if place.level == 0 then [] else (codes "parent" ∷ life_text script place.parent ∷ codes "port"
    ∷ decimal place.port ∷ [])

-- the line of a component: its root, and the number of its members
abbrev pub component_form : ScriptOf → List EntryOf → TableForm
component_form script entries =
    ComponentLine (life_text script (entry_at entries 0).position.root ∷ codes "members"
    ∷ decimal (length entries) ∷ [])

-- the line of a member: its level and, below the root, its parent and its port to it
abbrev pub member_form : ScriptOf → EntryOf → TableForm
member_form script entry =
    MemberLine (life_text script entry.life ∷ codes "level" ∷ decimal entry.position.level
    ∷ parent_words script entry.position)

-- the line of a member's number
abbrev pub number_form : ScriptOf → EntryOf × ℕ → TableForm
number_form script member = NumberLine (life_text script member.0.life) (decimal member.1)

-- the table of the member at index `place`
abbrev pub table_at : List TableOf → ℕ → TableOf
table_at tables place = slice_index_or tables place (record { number = 0; rows = [] })

-- `tables` are the tables of the members at indices below `end`
pub record AreTables (entries : List EntryOf) (any : Bool) (end : ℕ) (tables : List TableOf) : Type 0 where
  pub count : length tables ≡ end
  pub each : (place : ℕ) → place < end → IsTable entries (numbering entries) any place (table_at tables place)

-- a component with the tables of its members
pub record Part : Type 0 where
  pub entries : List EntryOf
  pub tables : List TableOf

-- the lines of a component: its root; its members in ascending order of life; their numbers; and their tables
abbrev pub part_forms : ScriptOf → Part → List TableForm
part_forms script part = component_form script part.entries ∷ (map (member_form script) part.entries
    ++ (map (number_form script) (zip part.entries (numbering part.entries))
    ++ table_forms script part.entries 0 part.tables))

-- the rows of all members of a component
abbrev pub all_rows : Part → List RowOf
all_rows part = flat_map (λ table. table.rows) part.tables

-- the lines of all components, without `end`
abbrev pub expect_forms : ScriptOf → List Part → List TableForm
expect_forms script parts = flat_map (part_forms script) parts

-- the text of the lines of all components, and of `end`
unfoldable pub expect_text : ScriptOf → List Part → List ℕ
expect_text script parts = table_text (expect_forms script parts ++ EndLine ∷ [])

-- `text` is what is expected of the script's network with all links up
pub record IsExpectOf (script : ScriptOf) (text : List ℕ) : Type 0 where
  pub parts : List Part
  pub trees : IsForest script.wires (map (λ part. part.entries) parts)
  pub tables : All (λ part. AreTables part.entries script.any_routes (length part.entries) part.tables) parts
  pub text_is : text ≡ expect_text script parts
