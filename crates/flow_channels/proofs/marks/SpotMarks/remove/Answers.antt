use Rattle.std.proofs.Common.{◌∙◌, ◌*◌, ◌/◌, ◌%◌, ◌^◌, ◌<◌, ap, refl, arith, ℕ, List, get_or, set}
use Rattle.std.specs.Prelude.{bit_and}
use Rattle.std.specs.Int.{bit_not, w32, w64}
use Rattle.std.proofs.lemmas.Nat.Bits.{bit_at_clear_other, bit_at_clear_same}
use Rattle.flow_channels.proofs.SpotMarkLemmas.{emptied, placed}
use Rattle.flow_channels.proofs.marks.SpotMarks.remove.Goals as goal

pub invariant_of-self : goal.invariant_of-self
invariant_of-self c =
    let parts = c.self.inside.parts in
    let some = c.self.inside.some in
    let part = c.args.place / 64 in
    let bit = c.args.place % 64 in
    let low = c.requires in
    let part_low : part < 32 = omega arith in
    let old = get_or parts part 0 in
    let bits = bit_and old (bit_not w64 (1 * 2 ^ bit % 2 ^ 64)) in
    emptied parts (set parts part bits) some (bit_and some (bit_not w32 (1 * 2 ^ part % 2 ^ 32))) part bits c.self.invariant part_low refl c.if-bits-eq0.true
    (bit_at_clear_same w32 some part part_low)
    (λ other below apart. bit_at_clear_other w32 some part part_low other below apart)

pub returns-then-bits-eq0 : goal.returns-then-bits-eq0
returns-then-bits-eq0 c =
    let parts = c.self.inside.parts in
    let part = c.args.place / 64 in
    let bit = c.args.place % 64 in
    let low = c.requires in
    let bit_low : bit < 64 = omega arith in
    let old = get_or parts part 0 in
    let bits = bit_and old (bit_not w64 (1 * 2 ^ bit % 2 ^ 64)) in
    placed parts (set parts part bits) c.args.place 0 bits c.self.invariant.count c.requires refl (bit_at_clear_same w64 old bit bit_low) (λ other below apart. bit_at_clear_other w64 old bit bit_low other below apart)
    ∙ ap (λ (xs : List ℕ). set xs c.args.place 0) c.self.view_is

pub returns-else-bits-eq0 : goal.returns-else-bits-eq0
returns-else-bits-eq0 c =
    let parts = c.self.inside.parts in
    let part = c.args.place / 64 in
    let bit = c.args.place % 64 in
    let low = c.requires in
    let bit_low : bit < 64 = omega arith in
    let old = get_or parts part 0 in
    let bits = bit_and old (bit_not w64 (1 * 2 ^ bit % 2 ^ 64)) in
    placed parts (set parts part bits) c.args.place 0 bits c.self.invariant.count c.requires refl (bit_at_clear_same w64 old bit bit_low) (λ other below apart. bit_at_clear_other w64 old bit bit_low other below apart)
    ∙ ap (λ (xs : List ℕ). set xs c.args.place 0) c.self.view_is
