use Rattle.std.specs.Prelude.{◌≡◌, ◌≢◌, ◌==◌, ◌&&◌, not, true, ℕ, ◌<◌, ◌≤◌, All, AllPairs, Bool, List, []}
use Rattle.std.specs.Prelude.{◌∷◌, ◌++◌, length, map, Option, None, nat_lt, nat_le, unwrap_or, find}
use Rattle.std.specs.Prelude.{if◌then◌else◌, codes, slice_index}
use Rattle.std.specs.Option.{option_map}
use Rattle.std.specs.Str.{bytes_eq}
use Rattle.std.specs.List.{list_any, list_all, range_with_len, slice_split, before_first, after_first}
use Rattle.an_base.specs.Rows.{RowOf}
use Rattle.net_graph.specs.Wires.{Wires}
use Rattle.net_script.specs.declared.cause.ScriptCause.{ScriptCause}
use Rattle.net_script.specs.declared.cause.ScriptCause.TheVariants.{BadNumber, NameTwice, PortRange}
use Rattle.net_script.specs.declared.cause.ScriptCause.TheVariants.{TablesShort}
use Rattle.table_script.specs.declared.table_draft.NumberAt.{NumberAt}
use Rattle.common_lines.specs.Words.{is_number, is_number_in, number_value}
use Rattle.common_lines.specs.Faults.{unless, first_of}
use Rattle.net_script.specs.Scripts.{ScriptOf}
use Rattle.net_script.specs.Rules.{place, known_cause, number_cause}
use Rattle.table_script.specs.Tables.{TablesOf, IsRowOf, AreRowsApart, are_joined}
use Rattle.row_text.specs.TableForms.{TableForm, ComponentLine, MemberLine, NumberLine, RowLine, EndLine}
use Rattle.table_script.specs.TableDrafts.{TableDraftOf}

-- The rules for lines of tables: why a line is rejected, and what it adds.

-- whether the numbers ascend, the first above `low`
abbrev pub rise_above : ℕ → List ℕ → Bool
rise_above low [] = true
rise_above low (number ∷ numbers) = nat_lt low number && rise_above number numbers

-- whether a byte is a colon (58); a pair is `N:-` or `N:P/Q/..`, cut at its first colon
abbrev pub is_colon : ℕ → Bool
is_colon byte = byte == 58

-- the ports of a pair, cut at slashes (47); none for `-`
abbrev pub port_words : List ℕ → List (List ℕ)
port_words exits = if bytes_eq exits (codes "-") then [] else slice_split (λ byte. byte == 47) exits

-- the number of a pair
abbrev pub pair_number : List ℕ → ℕ
pair_number word = number_value (before_first is_colon word)

-- the exits of a pair
abbrev pub pair_exits : List ℕ → List ℕ
pair_exits word = map number_value (port_words (after_first is_colon word))

-- whether `words` are ascending ports, 1 to 12, the first above `low`
abbrev pub are_ports : ℕ → List (List ℕ) → Bool
are_ports low words = list_all (is_number_in 1 12) words && rise_above low (map number_value words)

-- whether `word` is a pair: a number from 1 to 126, a colon, and ascending ports
unfoldable pub is_pair : List ℕ → Bool
is_pair word =
    list_any is_colon word
    && (is_number_in 1 126 (before_first is_colon word)
    && are_ports 0 (port_words (after_first is_colon word)))

-- whether `words` are pairs whose numbers ascend, the first above `low`
abbrev pub are_pairs : ℕ → List (List ℕ) → Bool
are_pairs low words = list_all is_pair words && rise_above low (map pair_number words)

-- the row that a pair gives to `entry` of switch `node`
abbrev pub row_of : (node entry : ℕ) → List ℕ → RowOf
row_of node entry word = record { at = node; entry = entry; to = pair_number word; exits = pair_exits word }

-- whether switch `node` had its `number` line
unfoldable pub is_numbered : TableDraftOf → ℕ → Bool
is_numbered draft node = list_any (λ one. one.s == node) draft.numbers

-- whether a switch in the component of `node` has `number`
unfoldable pub is_number_taken : Wires → TableDraftOf → (node number : ℕ) → Bool
is_number_taken wires draft node number =
    list_any (λ one. (one.number == number) && are_joined wires.links one.s node) draft.numbers

-- whether a switch with the label of `node` has `number`
unfoldable pub is_labelled : List ℕ → TableDraftOf → (node number : ℕ) → Bool
is_labelled labels draft node number =
    list_any (λ one. (one.number == number)
    && (slice_index labels one.s == slice_index labels node)) draft.numbers

-- whether `entry` of switch `node` had its `row` line
unfoldable pub is_entered : TableDraftOf → (node entry : ℕ) → Bool
is_entered draft node entry = list_any (λ one. (one.s == node) && (one.entry == entry)) draft.entries

-- whether every switch had its `number` line
unfoldable pub are_numbered : Wires → TableDraftOf → Bool
are_numbered wires draft = list_all (is_numbered draft) (range_with_len 0 (length wires.switches))

-- why `word` is rejected as an entry, if it is
abbrev pub entry_cause : List ℕ → Option ScriptCause
entry_cause word =
    first_of (unless (is_number word) BadNumber ∷ unless (nat_le (number_value word) 12) PortRange ∷ [])

-- why a `number` line after `draft` is rejected, if it is, by its fields from left to right
unfoldable pub number_line_cause : ScriptOf → TableDraftOf → (name number : List ℕ) → Option ScriptCause
number_line_cause script draft name number =
    first_of (known_cause script.switch_names name
    ∷ unless (not (is_numbered draft (place script.switch_names name))) NameTwice ∷ number_cause 1 126 number
    ∷ unless (not (is_number_taken script.wires draft (place script.switch_names name) (number_value number)))
    NameTwice ∷ [])

-- why a `row` line after `draft` is rejected, if it is, by its fields from left to right
unfoldable pub row_line_cause :
    ScriptOf → TableDraftOf → (name entry : List ℕ) → List (List ℕ) → Option ScriptCause
row_line_cause script draft name entry pairs =
    first_of (known_cause script.switch_names name ∷ entry_cause entry
    ∷ unless (not (is_entered draft (place script.switch_names name) (number_value entry))) NameTwice
    ∷ unless (are_pairs 0 pairs) BadNumber ∷ [])

-- why a line of any form after `draft` is rejected, if it is
abbrev pub table_cause : ScriptOf → TableDraftOf → TableForm → Option ScriptCause
table_cause script draft (ComponentLine more) = None
table_cause script draft (MemberLine more) = None
table_cause script draft (NumberLine name number) = number_line_cause script draft name number
table_cause script draft (RowLine name entry pairs) = row_line_cause script draft name entry pairs
table_cause script draft EndLine = unless (are_numbered script.wires draft) TablesShort

-- the draft with the number of switch `node` added
abbrev pub with_number : TableDraftOf → (node number : ℕ) → TableDraftOf
with_number draft node number =
    record draft { numbers = draft.numbers ++ record { s = node; number = number } ∷ [] }

-- the draft with `entry` of switch `node` and its rows added
abbrev pub with_rows : TableDraftOf → (node entry : ℕ) → List (List ℕ) → TableDraftOf
with_rows draft node entry pairs =
    record draft {
      entries = draft.entries ++ record { s = node; entry = entry } ∷ [];
      rows = draft.rows
          ++ map (row_of node entry) pairs;
    }

-- the draft with the content of a line of this form added
abbrev pub with_table_form : ScriptOf → TableDraftOf → TableForm → TableDraftOf
with_table_form script draft (ComponentLine more) = draft
with_table_form script draft (MemberLine more) = draft
with_table_form script draft (NumberLine name number) =
    with_number draft (place script.switch_names name) (number_value number)
with_table_form script draft (RowLine name entry pairs) =
    with_rows draft (place script.switch_names name) (number_value entry) pairs
with_table_form script draft EndLine = record draft { ended = true }

-- two numbers belong to different switches, and differ if links join the switches
pub record AreNumbersApart (wires : Wires) (one other : NumberAt) : Type 0 where
  pub switches : one.s ≢ other.s
  pub numbers : are_joined wires.links one.s other.s ≡ true → one.number ≢ other.number

-- a number from 1 to 126, of one of `count` switches
pub record IsNumberAt (count : ℕ) (one : NumberAt) : Type 0 where
  pub switch : one.s < count
  pub least : 1 ≤ one.number
  pub most : one.number ≤ 126

-- what holds after each line read so far
pub record IsKept (script : ScriptOf) (draft : TableDraftOf) : Type 0 where
  pub named : length script.switch_names ≡ length script.wires.switches
  pub numbers : All (IsNumberAt (length script.wires.switches)) draft.numbers
  pub numbers_apart : AllPairs (AreNumbersApart script.wires) draft.numbers
  pub rows : All (IsRowOf (length script.wires.switches)) draft.rows
  pub entered : All (λ row. is_entered draft row.at row.entry ≡ true) draft.rows
  pub rows_apart : AllPairs AreRowsApart draft.rows
  pub ended : draft.ended ≡ true → are_numbered script.wires draft ≡ true

-- the number of switch `node`, 0 if no line gave one
unfoldable pub number_of : TableDraftOf → ℕ → ℕ
number_of draft node =
    unwrap_or (option_map (λ one. one.number) (find (λ one. one.s == node) draft.numbers)) 0

-- the tables of `count` switches that the lines give
abbrev pub tables_of : ℕ → TableDraftOf → TablesOf
tables_of count draft = record { numbers = map (number_of draft) (range_with_len 0 count); rows = draft.rows }
