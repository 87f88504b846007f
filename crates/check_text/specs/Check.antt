use Rattle.std.specs.Prelude.{◌≡◌, ◌==◌, ℕ, List, [], ◌∷◌, ◌++◌, Option, Some, None, Bool, true, false, All, map, filter, codes, position, unwrap_or, slice_index_or}
use Rattle.std.specs.Fmt.{decimal}
use Rattle.std.specs.List.{flat_map, list_any, range_with_len}
use Rattle.an_base.specs.Values.{EntryOf}
use Rattle.an_base.specs.Rows.{RowOf}
use Rattle.net_graph.specs.declared.wiring.SwitchAt.{SwitchAt}
use Rattle.net_graph.specs.Forest.{IsForest}
use Rattle.net_script.specs.Scripts.{ScriptOf}
use Rattle.table_script.specs.Tables.{TablesOf}
use Rattle.dep_check.specs.declared.channel.Channel.{Channel}
use Rattle.dep_check.specs.declared.refusal.CheckRefusal.{CheckRefusal}
use Rattle.dep_check.specs.declared.refusal.CheckRefusal.TheVariants.{Cycle, NotJoined, IllegalExit, OutOfMemory}
use Rattle.dep_check.specs.Answer.{Passes, IsRefusal}
use Rattle.dep_check.specs.Tables.{rank_at}
use Rattle.row_text.specs.Names.{name_of}

-- The judgement of tables.

-- the number of a member, where `numbers` has those of all switches
abbrev pub number_of : List SwitchAt → List ℕ → EntryOf → ℕ
number_of switches numbers entry =
    slice_index_or numbers (unwrap_or (position (λ switch. switch.uid == entry.life.uid) switches) 0) 0

-- the numbers that the tables give to the members, in their order
abbrev pub numbers_of : List SwitchAt → TablesOf → List EntryOf → List ℕ
numbers_of switches tables entries = map (number_of switches tables.numbers) entries

-- whether a switch is a member
abbrev pub is_member : List EntryOf → SwitchAt → Bool
is_member entries switch = list_any (λ entry. entry.life.uid == switch.uid) entries

-- for each switch, whether it is a member
abbrev pub members_of : List SwitchAt → List EntryOf → List Bool
members_of switches entries = map (is_member entries) switches

-- whether the row belongs to a member, where `members` says of each switch whether it is one
abbrev pub is_row_of : List Bool → RowOf → Bool
is_row_of members row = slice_index_or members row.at false

-- the row, with its switch's number instead of its index
abbrev pub renumbered : TablesOf → RowOf → RowOf
renumbered tables row =
    record { at = slice_index_or tables.numbers row.at 0; entry = row.entry; to = row.to; exits = row.exits }

-- the rows of the members, with the switch's number in each
abbrev pub rows_of : List SwitchAt → TablesOf → List EntryOf → List RowOf
rows_of switches tables entries =
    map (renumbered tables) (filter (is_row_of (members_of switches entries)) tables.rows)

-- a channel: the name of its switch, and its port
unfoldable pub channel_text : ScriptOf → List EntryOf → List ℕ → Channel → List ℕ
channel_text script entries numbers channel =
    codes " " ++ name_of script entries numbers channel.at ++ codes ":" ++ decimal channel.port

-- the line of a channel and its rank
unfoldable pub rank_line : ScriptOf → List EntryOf → List ℕ → Channel → ℕ → List ℕ
rank_line script entries numbers channel rank =
    codes "rank " ++ name_of script entries numbers channel.at ++ codes " " ++ decimal channel.port
    ++ codes " " ++ decimal rank ++ codes "\n"

-- the line of a channel and its rank; none if it has no rank
abbrev pub rank_lines : ScriptOf → List EntryOf → List ℕ → Channel → Option ℕ → List ℕ
rank_lines script entries numbers channel None = []
rank_lines script entries numbers channel (Some rank) = rank_line script entries numbers channel rank

-- the line of the channel at a port of the switch that has a number; none if it has no rank
abbrev pub port_ranks : ScriptOf → List EntryOf → List ℕ → List (Option ℕ) → (number port : ℕ) → List ℕ
port_ranks script entries numbers ranks number port =
    rank_lines script entries numbers (record {
      at = number;
      port = port;
    }) (rank_at ranks (record { at = number; port = port }))

-- the lines of the channels of the switch that has a number, in ascending order of port, 0 to 12
abbrev pub number_ranks : ScriptOf → List EntryOf → List ℕ → List (Option ℕ) → ℕ → List ℕ
number_ranks script entries numbers ranks number =
    flat_map (port_ranks script entries numbers ranks number) (range_with_len 0 13)

-- the lines of all channels, in ascending order of number, 0 to 126, then of port
unfoldable pub ranks_text : ScriptOf → List EntryOf → List ℕ → List (Option ℕ) → List ℕ
ranks_text script entries numbers ranks =
    flat_map (number_ranks script entries numbers ranks) (range_with_len 0 127)

-- the words for an entry of the switch that has number `at`
abbrev pub entry_text : ScriptOf → List EntryOf → List ℕ → (at entry : ℕ) → List ℕ
entry_text script entries numbers at entry =
    name_of script entries numbers at ++ codes " entry " ++ decimal entry

-- the line of why the tables of a component are rejected
unfoldable pub refusal_line : ScriptOf → List EntryOf → List ℕ → CheckRefusal → List ℕ
refusal_line script entries numbers (Cycle channels) =
    codes "refused cycle" ++ flat_map (channel_text script entries numbers) channels ++ codes "\n"
refusal_line script entries numbers (NotJoined from to at entry) =
    codes "refused pair " ++ name_of script entries numbers from ++ codes " to "
    ++ name_of script entries numbers to ++ codes " at " ++ entry_text script entries numbers at entry
    ++ codes "\n"
refusal_line script entries numbers (IllegalExit at entry to exit) =
    codes "refused exit " ++ entry_text script entries numbers at entry ++ codes " to " ++ decimal to
    ++ codes " by " ++ decimal exit ++ codes "\n"
refusal_line script entries numbers OutOfMemory = []

-- a component whose tables pass, with the ranks of its channels
pub record Ranked : Type 0 where
  pub entries : List EntryOf
  pub ranks : List (Option ℕ)

-- the tables of a component pass, with these ranks
abbrev pub ArePassing : List SwitchAt → TablesOf → List EntryOf → List (Option ℕ) → Type 0
ArePassing switches tables entries ranks =
    Passes entries (numbers_of switches tables entries) (rows_of switches tables entries) ranks

-- the tables of the component of `ranked` pass, with its ranks
abbrev pub IsRanked : List SwitchAt → TablesOf → Ranked → Type 0
IsRanked switches tables ranked = ArePassing switches tables ranked.entries ranked.ranks

-- the lines of the channels of a component that passes
abbrev pub ranked_text : ScriptOf → TablesOf → Ranked → List ℕ
ranked_text script tables ranked =
    ranks_text script ranked.entries (numbers_of script.wires.switches tables ranked.entries) ranked.ranks

-- the tables of each component pass, and the text is their ranks
pub record AllPass (script : ScriptOf) (tables : TablesOf) (text : List ℕ) : Type 0 where
  pub parts : List Ranked
  pub trees : IsForest script.wires (map (λ part. part.entries) parts)
  pub pass : All (IsRanked script.wires.switches tables) parts
  pub text_is : text ≡ flat_map (ranked_text script tables) parts ++ codes "ok\n"

-- the tables of a component are rejected for this reason
abbrev pub IsRefusedFor : List SwitchAt → TablesOf → List EntryOf → CheckRefusal → Type 0
IsRefusedFor switches tables entries (Cycle channels) =
    IsRefusal entries (numbers_of switches tables entries) (rows_of switches tables entries) (Cycle channels)
IsRefusedFor switches tables entries (NotJoined from to at entry) =
    IsRefusal entries (numbers_of switches tables entries) (rows_of switches tables entries)
    (NotJoined from to at entry)
IsRefusedFor switches tables entries (IllegalExit at entry to exit) =
    IsRefusal entries (numbers_of switches tables entries) (rows_of switches tables entries)
    (IllegalExit at entry to exit)
IsRefusedFor switches tables entries OutOfMemory = ⊥

-- the tables of a component are rejected, those of all components with lower roots pass, and the text is the line
-- of the reason
pub record OneIsRefused (script : ScriptOf) (tables : TablesOf) (text : List ℕ) : Type 0 where
  pub before : List Ranked
  pub refused : List EntryOf
  pub behind : List (List EntryOf)
  pub trees : IsForest script.wires (map (λ part. part.entries) before ++ (refused ∷ behind))
  pub pass : All (IsRanked script.wires.switches tables) before
  pub refusal : CheckRefusal
  pub cause : IsRefusedFor script.wires.switches tables refused refusal
  pub text_is : text ≡ refusal_line script refused (numbers_of script.wires.switches tables refused) refusal

-- the judgement of tables: whether they pass, and the text
abbrev pub IsJudged : ScriptOf → TablesOf → Bool → List ℕ → Type 0
IsJudged script tables true text = AllPass script tables text
IsJudged script tables false text = OneIsRefused script tables text

-- the effect of judging the tables of a component on the text: if they pass, their ranks are appended; if they do
-- not, the text becomes the line of the reason
abbrev pub Judges : ScriptOf → TablesOf → List EntryOf → Bool → (old new : List ℕ) → Type 0
Judges script tables entries true old new =
    (ranks : List (Option ℕ)) × ArePassing script.wires.switches tables entries ranks
    × (new ≡ old ++ ranked_text script tables (record { entries = entries; ranks = ranks }))
Judges script tables entries false old new =
    (refusal : CheckRefusal) × IsRefusedFor script.wires.switches tables entries refusal
    × (new ≡ refusal_line script entries (numbers_of script.wires.switches tables entries) refusal)
