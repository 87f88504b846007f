use Rattle.std.proofs.Common.{◌≡◌, ◌≢◌, ◌∙◌, ap, ℕ, ◌<◌, List, length, Some, None, IsSome}
use Rattle.std.proofs.lemmas.List.{get_or-set_other, get_or-set_same}
use Rattle.frame_region.specs.Regions.{RegionOf, held_at, with_put, without}

-- what is put is held under its slip
pub put_held : (r : RegionOf) (slip : ℕ) (bytes : List ℕ) → slip < length r.held → held_at (with_put slip bytes r) slip ≡ Some bytes
put_held r slip bytes below = get_or-set_same r.held slip (Some bytes) None below

-- and what is under the other slips stays
pub put_others : (r : RegionOf) (slip other : ℕ) (bytes : List ℕ) → other ≢ slip → held_at (with_put slip bytes r) other ≡ held_at r other
put_others r slip other bytes apart = get_or-set_other r.held slip other (Some bytes) None apart

pub free_others : (r : RegionOf) (slip other : ℕ) → other ≢ slip → held_at (without slip r) other ≡ held_at r other
free_others r slip other apart = get_or-set_other r.held slip other None None apart

-- a slip that is held is not a new one
pub new_is_other : (r : RegionOf) (slip other : ℕ) → IsSome (held_at r other) → held_at r slip ≡ None → other ≢ slip
new_is_other r slip other has new = λ same. let none : held_at r other ≡ None = ap (held_at r) same ∙ new in let some : IsSome {T = List ℕ} None = rw none at has in cc
