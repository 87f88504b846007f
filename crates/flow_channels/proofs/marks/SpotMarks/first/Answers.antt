use Rattle.std.proofs.Common.{◌+◌, ◌*◌, refl, subst, arith, ℕ, List, get_or}
use Rattle.std.specs.Int.{trailing_zeros, w32, w64}
use Rattle.fcfc_router.specs.Tree.{HasNone, IsFirst}
use Rattle.flow_channels.proofs.SpotMarkLemmas.{first_placed, none_placed}
use Rattle.flow_channels.proofs.marks.SpotMarks.first.Goals as goal

pub returns-then-self-eq0 : goal.returns-then-self-eq0
returns-then-self-eq0 c = subst (λ (xs : List ℕ). HasNone 1 xs) c.self.view_is (none_placed c.self.inside.parts c.self.inside.some c.self.invariant c.if-self-eq0.true)

pub returns : goal.returns
returns c =
    let parts = c.self.inside.parts in
    let some = c.self.inside.some in
    let more = c.if-self-eq0.false in
    let part = trailing_zeros w32 some in
    let bits = get_or parts part 0 in
    let place = 64 * part + trailing_zeros w64 bits in
    subst (λ (xs : List ℕ). IsFirst 1 xs place) c.self.view_is (first_placed parts some part bits place c.self.invariant (omega arith) (omega arith) refl refl (omega arith) refl)
