use Rattle.std.proofs.Common.{◌≡◌, ◌+◌, ◌*◌, ◌/◌, ◌%◌, ◌<◌, ◌↔◌, ℕ, sym, subst}
use Rattle.std.specs.Int.{bit_at}
use Rattle.std.proofs.lemmas.Bool.{iff_false}
use Rattle.fabric_model.specs.Fabric.{FabricOf, side_of}
use Rattle.fabric_routes.specs.Links.{IsTo}
use Rattle.fabric_routes.proofs.WordLemmas.{has_more, has_same}
use Rattle.fabric_routes.proofs.link.links_word.Goals as goal
use Rattle.fabric_routes.proofs.link.links_word.Goals.{then-is_to, else-is_to}

abbrev Leads : FabricOf → ℕ → ℕ → Type 0
Leads fabric place bit = IsTo (side_of fabric (place / 4) (64 * (place % 4) + bit))

pub bits-preserved : goal.bits-preserved
bits-preserved c = elim c.if-is_to.branch [
  | then-is_to w ↦ subst (λ (word : ℕ). (bit : ℕ) → ((bit_at word bit ≡ 1) ↔ ((bit < c.bits.bit + 1) × Leads c.args.fabric.now c.args.place bit))) (sym w.word-is)
      (has_more (Leads c.args.fabric.now c.args.place) c.bits.word c.bits.bit c.bits.invariant w.with_bit-word.result (subst IsTo c.side.ensures.side (c.is_to.ensures.0 w.if-is_to.true)) w.with_bit-word.ensures)
  | else-is_to w ↦ has_same (Leads c.args.fabric.now c.args.place) c.bits.word c.bits.bit c.bits.invariant c.if-is_to.word (λ leads. iff_false c.is_to.ensures w.if-is_to.false (subst IsTo (sym c.side.ensures.side) leads)) w.word-is
]
