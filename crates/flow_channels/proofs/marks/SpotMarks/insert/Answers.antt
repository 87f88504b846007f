use Rattle.std.proofs.Common.{◌∙◌, ◌*◌, ◌/◌, ◌%◌, ◌^◌, ◌<◌, ap, refl, arith, ℕ, List, get_or, set}
use Rattle.std.specs.Int.{w32, w64}
use Rattle.std.specs.Int.RustNames.{bit_or}
use Rattle.std.proofs.lemmas.Nat.Bits.{bit_at_set_other, bit_at_set_same}
use Rattle.flow_channels.proofs.SpotMarkLemmas.{has_some, parts_put, placed}
use Rattle.flow_channels.proofs.marks.SpotMarks.insert.Goals as goal

pub invariant_of-self : goal.invariant_of-self
invariant_of-self c =
    let parts = c.self.inside.parts in
    let some = c.self.inside.some in
    let part = c.args.place / 64 in
    let bit = c.args.place % 64 in
    let low = c.requires in
    let part_low : part < 32 = omega arith in
    let bit_low : bit < 64 = omega arith in
    let old = get_or parts part 0 in
    let bits = bit_or old (1 * 2 ^ bit % 2 ^ 64) in
    parts_put parts (set parts part bits) some (bit_or some (1 * 2 ^ part % 2 ^ 32)) part bits c.self.invariant part_low refl
    ((λ _. has_some bits bit (bit_at_set_same w64 old bit bit_low)), (λ _. bit_at_set_same w32 some part part_low))
    (λ other below apart. bit_at_set_other w32 some part part_low other apart)

pub returns : goal.returns
returns c =
    let parts = c.self.inside.parts in
    let part = c.args.place / 64 in
    let bit = c.args.place % 64 in
    let low = c.requires in
    let bit_low : bit < 64 = omega arith in
    let old = get_or parts part 0 in
    let bits = bit_or old (1 * 2 ^ bit % 2 ^ 64) in
    placed parts (set parts part bits) c.args.place 1 bits c.self.invariant.count c.requires refl (bit_at_set_same w64 old bit bit_low) (λ other below apart. bit_at_set_other w64 old bit bit_low other apart)
    ∙ ap (λ (xs : List ℕ). set xs c.args.place 1) c.self.view_is
