-- What an `Account` contains.

use Rattle.std.specs.Prelude.{◌≡◌, ◌+◌, ◌<◌, ◌++◌, ◌∷◌, [], ℕ, List, length, map, slice_index_or, false}
use Rattle.an_base.specs.Rows.{RowOf}
use Rattle.an_base.specs.declared.event.Event.{Event}
use Rattle.net_script.specs.Scripts.{ScriptOf}
use Rattle.net_state.specs.declared.line.PlacedLine.{PlacedLine}
use Rattle.net_world.specs.Accounts.{AccountOf, account_of}
use Rattle.fabric_book.specs.declared.account.Account.{Account}

-- `account` has the lines and the rows of `told`
pub record HasAccount (told : AccountOf) (account : Account) : Type 0 where
  pub lines_are : account.lines.items ≡ told.lines
  pub rows_are : map (λ rows. rows.items) account.rows.items ≡ told.rows

-- `account` has the lines and the rows of `told`, unless an allocation failed
abbrev pub IsAccount : AccountOf → Account → Type 0
IsAccount told account = account.failed ≡ false → HasAccount told account

-- `accounts` report the events of each caller in a history: the driver, and the worker of each switch.
pub record AreAccounts (script : ScriptOf) (history : List Event) (accounts : List Account) : Type 0 where
  pub count : length accounts ≡ length script.wires.switches + 1
  pub each : (caller : ℕ) → caller < length accounts → (account : Account)
      → HasAccount (account_of script caller history) (slice_index_or accounts caller account)

-- an account with more lines, or with the line of a load and the rows of its table
abbrev pub with_lines : List PlacedLine → AccountOf → AccountOf
with_lines lines told = record told { lines = told.lines ++ lines }

abbrev pub with_load : PlacedLine → List RowOf → AccountOf → AccountOf
with_load line rows told =
    record { lines = told.lines ++ line ∷ []; rows = told.rows ++ rows ∷ [] }
