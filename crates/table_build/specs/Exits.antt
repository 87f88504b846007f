-- Ingress ports, and the ports that begin a path from there.
use Rattle.std.specs.Prelude.{◌≡◌, ◌≢◌, ◌==◌, ◌||◌, ◌+◌, ◌<◌, ◌≤◌, ◌⊎◌, ℕ, List, ◌∷◌, Option, Some, None}
use Rattle.std.specs.Prelude.{Bool, true, false, All, Contains, length, is_some}
use Rattle.std.specs.Option.{option_map_or}
use Rattle.an_base.specs.Values.{EntryOf}
use Rattle.an_base.specs.Rows.{ExitsRise}
use Rattle.topo_graph.specs.Topology.{far_of}
use Rattle.updown.specs.Routes.{is_up_end, LegalRoute, DownRoute}
use Rattle.table_build.specs.declared.best.Best.{Best}
use Rattle.table_build.specs.Bests.{HasPort}

-- `ports` lead from `place` to `target` along a legal route or, if packets may not go up, over only downward links
abbrev pub LeadsTo : List EntryOf → Bool → ℕ → List ℕ → ℕ → Type 0
LeadsTo entries true place ports target = LegalRoute entries place ports target
LeadsTo entries false place ports target = DownRoute entries place ports target

-- `port` begins a path from `place` to another member `target`; unless `any`, it begins a shortest one.
pub record Begins (entries : List EntryOf) (any up : Bool) (place target port : ℕ) : Type 0 where
  pub other : place ≢ target
  pub rest : List ℕ
  pub way : LeadsTo entries up place (port ∷ rest) target
  pub least :
      any ≡ false → (others : List ℕ) → LeadsTo entries up place others target
      → length rest + 1 ≤ length others

-- `ports` are those that begin a path from `place` to `target`, in ascending order
pub record AreExits (entries : List EntryOf) (any up : Bool) (place target : ℕ) (ports : List ℕ)
    : Type 0 where
  pub rising : ExitsRise ports
  pub each : All (Begins entries any up place target) ports
  pub whole : (port : ℕ) → Begins entries any up place target port → Contains ports port

-- `ports` are those below `end` that `Has` is true of, in ascending order
pub record ArePortsBelow (Has : ℕ → Type 0) (end : ℕ) (ports : List ℕ) : Type 0 where
  pub rising : ExitsRise ports
  pub each : All Has ports
  pub below : All (λ port. port < end) ports
  pub whole : (port : ℕ) → port < end → Has port → Contains ports port
  pub few : length ports < end

-- a best path begins with the port
abbrev pub IsExitOf : Option Best → ℕ → Type 0
IsExitOf None port = ⊥
IsExitOf (Some best) port = (1 ≤ port) × HasPort best.ports port

-- packets can arrive at the port `entry` of `place`: those that start there, at port 0, or those from a link
abbrev pub IsEntry : List EntryOf → ℕ → ℕ → Type 0
IsEntry entries place entry = (entry ≡ 0) ⊎ ((far : ℕ × ℕ) × (far_of entries place entry ≡ Some far))

abbrev pub is_entry : List EntryOf → ℕ → ℕ → Bool
is_entry entries place entry = (entry == 0) || is_some (far_of entries place entry)

-- whether packets that arrive at the port `entry` of `place` may leave upward: they start there, or `place` is the up
-- end of the link that they arrive over
abbrev pub may_go_up : List EntryOf → ℕ → ℕ → Bool
may_go_up entries place entry =
    (entry == 0) || option_map_or (λ far. is_up_end entries place far.0) (far_of entries place entry) false

-- whether a port is an exit, given the length left after it and the length of a shortest path
abbrev pub is_next : Option ℕ → ℕ → Bool
is_next None left = false
is_next (Some whole) left = whole == (left + 1)

abbrev pub passes : Bool → Option ℕ → Option ℕ → Bool
passes any None whole = false
passes any (Some left) whole = any || is_next whole left
