-- A life that a topology names has a place there.

use Rattle.std.specs.Prelude.{◌≡◌, ◌⊎◌, ◌<◌, ◌≤◌, ℕ, List, length, cond, slice_index_or, Any, Some, None, is_some, Bool, true}
use Rattle.std.specs.List.{position_or_len}
use Rattle.std.specs.Ordering.{is_eq}
use Rattle.std.proofs.Common.{sym, ◌∙◌, ap, inl, inr, arith, true≢false}
use Rattle.std.proofs.lemmas.Bool.{cases_lt, lt-ltb}
use Rattle.std.proofs.lemmas.List.Sums.{fails_before_first}
use Rattle.std.proofs.lemmas.List.{get_or_default}
use Rattle.an_base.specs.Values.{EntryOf, LifeId}
use Rattle.an_base.specs.Order.{life_cmp}
use Rattle.topo_graph.specs.Topology.{nothing, life_at, place_of}
use Rattle.an_base.proofs.LifeLemmas.{life_passes}

-- a test that one passes has a first place
first_within : {X : Type 0} (p : X → Bool) (xs : List X) (i : ℕ) (d : X) → i < length xs → p (slice_index_or xs i d) ≡ true → position_or_len p xs < length xs
first_within p xs i d below passes = by (cases_lt (position_or_len p xs) (length xs)) where
  by : (position_or_len p xs < length xs) ⊎ (length xs ≤ position_or_len p xs) → position_or_len p xs < length xs
  by (inl within) = within
  by (inr past) = absurd (true≢false (sym passes ∙ fails_before_first p xs i d (omega (arith, below, past))))

-- a life that an entry has has a place
pub place_some : (es : List EntryOf) (me : LifeId) → Any (λ e. e.life ≡ me) es → is_some (place_of es me) ≡ true
place_some es me any =
    let at : life_at es any.0 ≡ me = ap (λ (e : EntryOf). e.life) (get_or_default es any.0 nothing any.1 any.2 ∙ any.3) ∙ any.4 in
    let within = first_within (λ e. is_eq (life_cmp e.life me)) es any.0 nothing any.2 (life_passes (life_at es any.0) me at) in
    ap (λ b. is_some (cond b (Some (position_or_len (λ e. is_eq (life_cmp e.life me)) es)) None)) (lt-ltb (position_or_len (λ e. is_eq (life_cmp e.life me)) es) (length es) within)
