-- What arrives, which channels have room, and who is let go.
use Rattle.std.proofs.Common.{◌≡◌, ◌≢◌, ◌∙◌, sym, ap, subst, refl, ℕ, ◌+◌, ◌*◌, ◌%◌, ◌^◌, ◌<◌, ◌≤◌, Option, Some, None, Bool, true, false, arith, inl, inr}
use Rattle.std.specs.Prelude.{is_some, nat_lt, ◌↔◌}
use Rattle.std.specs.Int.{bit_at, w16}
use Rattle.std.specs.Int.RustNames.{bit_or}
use Rattle.std.proofs.lemmas.Bool.{cases_eq}
use Rattle.std.proofs.lemmas.Bool.Decides.{nat_tests}
use Rattle.std.proofs.lemmas.Option.{same_Some}
use Rattle.std.proofs.lemmas.Nat.Bits.{bit_at-zero, bit_at_set_same, bit_at_set_other}
use Rattle.dep_check.specs.declared.channel.Channel.{Channel}
use Rattle.dep_check.proofs.BridgeLemmas.{wire_spot}
use Rattle.flow_channels.specs.declared.board.Board.{Board}
use Rattle.flow_channels.specs.declared.tables.Tables.{Tables}
use Rattle.flow_channels.specs.Board.{flow_of, ways}
use Rattle.flow_channels.specs.Flows.{FlowOf, PacketOf, first_of}
use Rattle.flow_channels.specs.Layout.{LayoutOf, spot}
use Rattle.flow_channels.specs.Moves.{CanArrive, HasRoom}
use Rattle.flow_channels.specs.Turns.{AreFree}

pub nobody_arrives : (layout : LayoutOf) (flow : FlowOf) (channel : Channel) → first_of flow channel ≡ None → CanArrive layout flow channel → ⊥
nobody_arrives layout flow channel none (packet, entry, first, far) = absurd (cc)

pub cannot_arrive : (layout : LayoutOf) (flow : FlowOf) (channel end : Channel) (packet : PacketOf) → first_of flow channel ≡ Some packet → layout.far channel ≡ Some end → packet.to ≢ end.at → CanArrive layout flow channel → ⊥
cannot_arrive layout flow channel end packet first far before (other, entry, other_first, other_far) =
    let one = same_Some packet other (sym first ∙ other_first) in
    let two = same_Some end (spot other.to entry) (sym far ∙ other_far) in
    before (ap (λ (x : PacketOf). x.to) one ∙ sym (ap (λ (x : Channel). x.at) two))

pub some_from : {A : Type 0} (o : Option A) → is_some o ≡ true → (x : A) × (o ≡ Some x)
some_from None e = absurd (cc)
some_from (Some x) e = (x, refl)

pub low_from : (a b : ℕ) → nat_lt a b ≡ true → a < b
low_from a b test = grind (arith, nat_tests)

pub high_test : (a b : ℕ) → a < b → nat_lt a b ≡ true
high_test a b low = grind (arith, nat_tests)

-- of the first ports the set has those whose channels have room
pub record AreFreeBelow (tables : Tables) (board : Board) (at end free : ℕ) : Type 0 where
  pub has : (port : ℕ) → bit_at free port ≡ 1 → (port < end) × HasRoom (ways tables) (flow_of board) (spot at port)
  pub all : (port : ℕ) → port < end → HasRoom (ways tables) (flow_of board) (spot at port) → bit_at free port ≡ 1

pub none_free : (tables : Tables) (board : Board) (at : ℕ) → AreFreeBelow tables board at 0 0
none_free tables board at = record {
  has = λ port is. absurd (let z = bit_at-zero port in omega arith);
  all = λ port low room. absurd (omega arith);
}

pub one_free : (tables : Tables) (board : Board) (at port free : ℕ) → port < 16 → AreFreeBelow tables board at port free → HasRoom (ways tables) (flow_of board) (spot at port) → AreFreeBelow tables board at (port + 1) (bit_or free (1 * 2 ^ port % 2 ^ 16))
one_free tables board at port free low below room = record {
  has = λ other is. elim (cases_eq other port) [
    | inl same ↦ (omega arith, subst (λ (n : ℕ). HasRoom (ways tables) (flow_of board) (spot at n)) (sym same) room)
    | inr differs ↦ (let h = below.has other (sym (bit_at_set_other w16 free port low other differs) ∙ is) in let less = h.0 in (omega arith, h.1))
  ];
  all = λ other less has. elim (cases_eq other port) [
    | inl same ↦ subst (λ (n : ℕ). bit_at (bit_or free (1 * 2 ^ port % 2 ^ 16)) n ≡ 1) (sym same) (bit_at_set_same w16 free port low)
    | inr differs ↦ (bit_at_set_other w16 free port low other differs ∙ below.all other (omega arith) has)
  ];
}

pub one_full : (tables : Tables) (board : Board) (at port free : ℕ) → AreFreeBelow tables board at port free → (HasRoom (ways tables) (flow_of board) (spot at port) → ⊥) → AreFreeBelow tables board at (port + 1) free
one_full tables board at port free below full = record {
  has = λ other is. let h = below.has other is in let less = h.0 in (omega arith, h.1);
  all = λ other less has. elim (cases_eq other port) [
    | inl same ↦ absurd (full (subst (λ (n : ℕ). HasRoom (ways tables) (flow_of board) (spot at n)) same has))
    | inr differs ↦ below.all other (omega arith) has
  ];
}

pub all_free : (tables : Tables) (board : Board) (at end free : ℕ) → 13 ≤ end → AreFreeBelow tables board at end free → AreFree tables board at free
all_free tables board at end free past below port = (
  λ is. (below.has port is).1,
  λ room. below.all port (let is = (wire_spot tables.wires.items (spot at port) room.0 room.1).port in omega arith) room,
)

-- the same for a flow
abbrev pub free_at : Tables → FlowOf → ℕ → ℕ → Type 0
free_at tables flow at free = (port : ℕ) → ((bit_at free port ≡ 1) ↔ HasRoom (ways tables) flow (spot at port))

pub not_both : (b : Bool) → b ≡ true → b ≡ false → ⊥
not_both b passes fails = absurd (cc)
