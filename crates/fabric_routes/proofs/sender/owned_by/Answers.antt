use Rattle.std.proofs.Common.{◌≡◌, ◌+◌, ◌*◌, ◌<◌, ◌↔◌, ℕ, Some, sym, subst}
use Rattle.std.specs.Int.{bit_at}
use Rattle.std.proofs.lemmas.Bool.{iff_false}
use Rattle.fabric_model.specs.declared.node.EndPort.{EndPort}
use Rattle.fabric_model.specs.Fabric.{FabricOf, owner_of}
use Rattle.fabric_routes.proofs.WordLemmas.{has_more, has_same}
use Rattle.fabric_routes.proofs.sender.owned_by.Goals as goal
use Rattle.fabric_routes.proofs.sender.owned_by.Goals.{then-is_owner, else-is_owner}

abbrev Has : FabricOf → ℕ → EndPort → ℕ → Type 0
Has fabric block who bit = owner_of fabric (64 * block + bit) ≡ Some who

pub bits-preserved : goal.bits-preserved
bits-preserved c = elim c.if-is_owner.branch [
  | then-is_owner w ↦ subst (λ (word : ℕ). (bit : ℕ) → ((bit_at word bit ≡ 1) ↔ ((bit < c.bits.bit + 1) × Has c.args.fabric.now c.args.block c.args.who bit))) (sym w.word-is)
      (has_more (Has c.args.fabric.now c.args.block c.args.who) c.bits.word c.bits.bit c.bits.invariant w.with_bit-word.result (c.is_owner.ensures.0 w.if-is_owner.true) w.with_bit-word.ensures)
  | else-is_owner w ↦ has_same (Has c.args.fabric.now c.args.block c.args.who) c.bits.word c.bits.bit c.bits.invariant c.if-is_owner.word (λ has. iff_false c.is_owner.ensures w.if-is_owner.false has) w.word-is
]
