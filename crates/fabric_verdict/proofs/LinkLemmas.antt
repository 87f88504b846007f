-- Links and channels, port by port and switch by switch.
use Rattle.std.specs.Prelude.{◌↔◌, IsTrue}
use Rattle.std.specs.Int.{from_bool}
use Rattle.std.proofs.Common.{◌≡◌, ◌≢◌, ◌∙◌, sym, ap, subst, refl, ℕ, ◌+◌, ◌<◌, ◌≤◌, ◌⊎◌, Bool, true, false, inl, inr, arith}
use Rattle.std.proofs.lemmas.Bool.{cases_eq}
use Rattle.std.proofs.Math.Nat.{lt_of_mul-lt-mul_right}
use Rattle.fabric_model.specs.declared.node.Side.{Side}
use Rattle.fabric_model.specs.declared.node.Side.TheVariants.{To}
use Rattle.fabric_model.specs.Fabric.{FabricOf, IsFabric, side_of, switch_count}
use Rattle.fabric_routes.specs.Counting.{IsCountOf}
use Rattle.fabric_routes.specs.Found.{IsChannel}
use Rattle.fabric_routes.specs.Routes.{Channel}
use Rattle.fabric_routes.proofs.ChannelLemmas.{channel_low, channel_place}
use Rattle.fabric_routes.proofs.CountLemmas.{count_more, count_none, count_same, count_sum}
use Rattle.fabric_verdict.specs.Count.{IsFirstOf, IsLinkAt}
use Rattle.fabric_verdict.specs.Steps.{IsOutBelow, IsOutOf, IsOutOfFirst}
use Rattle.fabric_verdict.proofs.OneAnswer.{same_parts}

abbrev out_of : ℕ → ℕ → Channel
out_of switch port = record { switch = switch; port = port }

module _ (fabric : FabricOf) (switch port : ℕ) (side : Side) (is : side ≡ side_of fabric switch port) where
  pub channel_at : (b : Bool) → (IsTrue b ↔ ((to entry : ℕ) × (side ≡ To to entry))) → IsTrue b ↔ IsChannel fabric (out_of switch port)
  channel_at b tells = (
    λ true. let (to, entry, leads) = tells.0 true in record { to = to; entry = entry; leads = sym is ∙ leads },
    λ channel. tells.1 (channel.to, channel.entry, is ∙ channel.leads),
  )

  pub link_at : (b : Bool) → (IsTrue b ↔ ((to entry : ℕ) × (side ≡ To to entry) × IsFirstOf switch port to entry)) → IsTrue b ↔ IsLinkAt fabric (out_of switch port)
  link_at b tells = (
    λ true. let (to, entry, leads, first) = tells.0 true in record {
      leads = record { to = to; entry = entry; leads = sym is ∙ leads };
      first = first;
    },
    λ link. tells.1 (link.leads.to, link.leads.entry, is ∙ link.leads.leads, link.first),
  )

-- so there are at most so many
pub few_more : (at count next : ℕ) (b : Bool) → next ≡ count + from_bool b → count ≤ at → next ≤ at + 1
few_more at count next true sum low = omega arith
few_more at count next false sum low = omega arith

-- of channels of a kind
module _ (fabric : FabricOf) (fits : IsFabric fabric) (Is : Channel → Type 0) (channels : (channel : Channel) → Is channel → IsChannel fabric channel) where
  module _ (switch : ℕ) where
    pub ports_none : IsCountOf (IsOutOfFirst Is switch 0) 0
    ports_none = count_none Channel (IsOutOfFirst Is switch 0) (λ channel is. absurd (let low = channel_low fabric channel (channels channel is.0) in let some = low.0 in let most = is.2 in omega arith))

    -- one port more
    pub ports_more : (ports count next : ℕ) (b : Bool) → next ≡ count + from_bool b → (IsTrue b ↔ Is (out_of switch (ports + 1))) → IsCountOf (IsOutOfFirst Is switch ports) count → IsCountOf (IsOutOfFirst Is switch (ports + 1)) next
    ports_more ports count next true sum tells so_far =
        let more : next ≡ count + 1 = omega (arith, sum) in
        subst (IsCountOf (IsOutOfFirst Is switch (ports + 1))) (sym more) (count_more Channel (IsOutOfFirst Is switch ports) (IsOutOfFirst Is switch (ports + 1)) (out_of switch (ports + 1)) count (λ channel is. (is.0, is.1, (let low = is.2 in omega arith)))
        (λ channel is. elim (cases_eq channel.port (ports + 1)) [
          | inl here ↦ inr (same_parts channel (out_of switch (ports + 1)) is.1 here)
          | inr before ↦ inl (is.0, is.1, (let low = is.2 in omega arith))
        ])
        (tells.0 refl, refl, omega arith) (λ is. absurd (let low = is.2 in omega arith)) so_far)
    ports_more ports count next false sum tells so_far =
        let same : next ≡ count = omega (arith, sum) in
        subst (IsCountOf (IsOutOfFirst Is switch (ports + 1))) (sym same) (count_same Channel (IsOutOfFirst Is switch ports) (IsOutOfFirst Is switch (ports + 1)) count (λ channel is. (is.0, is.1, (let low = is.2 in omega arith)))
        (λ channel is. (
          is.0,
          is.1,
          elim (cases_eq channel.port (ports + 1)) [
            | inl here ↦ absurd (none (subst Is (same_parts channel (out_of switch (ports + 1)) is.1 here) is.0))
            | inr before ↦ (let low = is.2 in omega arith)
          ],
        )) so_far)
      where
        none : Is (out_of switch (ports + 1)) → ⊥
        none is = let wrong : false ≡ true = tells.1 is in absurd (cc)

    -- all ports
    pub ports_all : (ports count : ℕ) → fabric.most ≤ ports → IsCountOf (IsOutOfFirst Is switch ports) count → IsCountOf (IsOutOf Is switch) count
    ports_all ports count all so_far = count_same Channel (IsOutOfFirst Is switch ports) (IsOutOf Is switch) count (λ channel is. (is.0, is.1)) (λ channel is. (is.0, is.1, (let low = channel_low fabric channel (channels channel is.0) in let most = low.1 in omega arith))) so_far

  pub switches_none : IsCountOf (IsOutBelow Is 0) 0
  switches_none = count_none Channel (IsOutBelow Is 0) (λ channel is. absurd (let low = is.1 in omega arith))

  -- one switch more
  pub switches_more : (switch before own : ℕ) → IsCountOf (IsOutBelow Is switch) before → IsCountOf (IsOutOf Is switch) own → IsCountOf (IsOutBelow Is (switch + 1)) (before + own)
  switches_more switch before own so_far here =
      count_sum Channel (IsOutBelow Is switch) (IsOutOf Is switch) (IsOutBelow Is (switch + 1)) before own (λ channel is. (is.0, (let low = is.1 in omega arith))) (λ channel is. (is.0, (let same = is.1 in omega arith)))
      (λ channel is. elim (cases_eq channel.switch switch) [
        | inl same ↦ inr (is.0, same)
        | inr less ↦ inl (is.0, (let low = is.1 in omega arith))
      ])
      (λ channel is other. absurd (let low = is.1 in let same = other.1 in omega arith)) so_far here

  switch_low : (channel : Channel) → IsChannel fabric channel → channel.switch < switch_count fabric
  switch_low channel is = let place = channel_place fabric fits channel is in lt_of_mul-lt-mul_right fabric.most {m = channel.switch} {n = switch_count fabric} (omega arith)

  -- all switches
  pub switches_all : (switch count : ℕ) → switch_count fabric ≤ switch → IsCountOf (IsOutBelow Is switch) count → IsCountOf Is count
  switches_all switch count all so_far = count_same Channel (IsOutBelow Is switch) Is count (λ channel is. is.0) (λ channel is. (is, (let low = switch_low channel (channels channel is) in omega arith))) so_far

-- equal or not
pub same_or_not : (one other : Channel) → (one ≡ other) ⊎ (one ≢ other)
same_or_not one other = elim (cases_eq one.switch other.switch) [
  | inl switch ↦ elim (cases_eq one.port other.port) [
    | inl port ↦ inl (same_parts one other switch port)
    | inr differs ↦ inr (λ same. differs (ap (λ (c : Channel). c.port) same))
  ]
  | inr differs ↦ inr (λ same. differs (ap (λ (c : Channel). c.switch) same))
]

pub pair_same_or_not : (one other : Channel × Channel) → (one ≡ other) ⊎ (one ≢ other)
pair_same_or_not one other = elim (same_or_not one.0 other.0) [
  | inl first ↦ elim (same_or_not one.1 other.1) [
    | inl second ↦ inl (ap (λ (c : Channel). let pair : Channel × Channel = (c, one.1) in pair) first ∙ ap (λ (c : Channel). let pair : Channel × Channel = (other.0, c) in pair) second)
    | inr differs ↦ inr (λ same. differs (ap (λ (pair : Channel × Channel). pair.1) same))
  ]
  | inr differs ↦ inr (λ same. differs (ap (λ (pair : Channel × Channel). pair.0) same))
]
