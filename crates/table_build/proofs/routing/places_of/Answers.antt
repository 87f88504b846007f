use Rattle.std.proofs.Common.{◌≡◌, refl, ℕ, None, Option, get_or, arith, inl, inr}
use Rattle.std.specs.Prelude.{replicate}
use Rattle.std.proofs.lemmas.Bool.{cases_lt}
use Rattle.std.proofs.lemmas.List.{get_or-replicate, get_or_past}
use Rattle.table_build.proofs.RoutingLemmas.{no_places, places_more}
use Rattle.table_build.proofs.routing.places_of.Goals as goal

-- nothing stands anywhere
none_at : (n : ℕ) → get_or {A = Option ℕ} (replicate 127 None) n None ≡ None
none_at n = elim (cases_lt n 127) [
  | inl low ↦ get_or-replicate 127 n None None low
  | inr high ↦ get_or_past (replicate 127 None) n None high
]

pub places-init : goal.places-init
places-init c = no_places c.args.numbers.now (replicate 127 None) refl none_at

pub places-preserved : goal.places-preserved
places-preserved c = places_more c.args.numbers.now c.places.i c.from.result c.places.places c.requires c.places.invariant (omega arith) c.from.ensures
