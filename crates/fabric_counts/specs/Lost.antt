-- How it is found where a route is lost. Only private functions cite this.
use Rattle.std.specs.Prelude.{◌≡◌, ◌≤◌, ℕ}
use Rattle.fabric_routes.specs.declared.hop.Hop.{Hop}
use Rattle.fabric_routes.specs.declared.hop.Hop.TheVariants.{On}
use Rattle.fabric_routes.specs.Routes.{WalksBy}

-- the route comes to this switch; by so many hops, if it goes on from there
pub record IsFar (hop_at : ℕ → Hop) (count start at : ℕ) : Type 0 where
  pub hops : ℕ
  pub comes : WalksBy hop_at hops start at
  pub goes_on : (port next : ℕ) → hop_at at ≡ On port next → hops ≡ count

-- the least switch to which it comes by no more hops than so many
pub record IsLeastOf (hop_at : ℕ → Hop) (count start least : ℕ) : Type 0 where
  pub hops : ℕ
  pub few : hops ≤ count
  pub comes : WalksBy hop_at hops start least
  pub none_less : (other at : ℕ) → other ≤ count → WalksBy hop_at other start at → least ≤ at
