-- How many channels there are on so many lanes.
use Rattle.std.proofs.Common.{◌≡◌, sym, ap, subst, refl, ℕ, zero, suc, ◌+◌, ◌*◌, arith, inl, inr, mul_comm}
use Rattle.std.proofs.lemmas.Bool.{cases_eq}
use Rattle.fabric_model.specs.Fabric.{FabricOf}
use Rattle.fabric_routes.specs.Counting.{IsCountOf}
use Rattle.fabric_routes.specs.Found.{IsChannel}
use Rattle.fabric_routes.specs.Routes.{Channel}
use Rattle.fabric_routes.proofs.CountLemmas.{count_image, count_none, count_sum}
use Rattle.fabric_lane_routes.specs.LaneFound.{IsLaneChannel, link_of}
use Rattle.fabric_lane_routes.specs.LaneRoutes.{LaneChannel}

-- a link on a lane
abbrev pub on : ℕ → Channel → LaneChannel
on lane channel = record { switch = channel.switch; port = channel.port; lane = lane }

module _ (fabric : FabricOf) where
  pub link_is : (count : ℕ) (channel : LaneChannel) → IsLaneChannel fabric count channel → IsChannel fabric (link_of channel)
  link_is count channel is = record { to = is.to; entry = is.entry; leads = is.leads }

  -- those on one lane
  abbrev IsOn : ℕ → LaneChannel → Type 0
  IsOn lane channel = IsChannel fabric (link_of channel) × (channel.lane ≡ lane)

  on_count : (lane links : ℕ) → IsCountOf (IsChannel fabric) links → IsCountOf (IsOn lane) links
  on_count lane links is =
      count_image Channel LaneChannel (on lane) (IsChannel fabric) (IsOn lane) links (λ channel has. (has, refl))
      (λ channel has. (link_of channel, has.0, ap (λ (l : ℕ). on l (link_of channel)) (sym has.1)))
      (λ one other same. ap link_of same) is

  pub lane_count : (lanes links : ℕ) → IsCountOf (IsChannel fabric) links → IsCountOf (IsLaneChannel fabric lanes) (links * lanes)
  lane_count zero links is = subst (λ (n : ℕ). IsCountOf (IsLaneChannel fabric 0) n) (let turn = mul_comm links 0 in omega arith) (count_none LaneChannel (IsLaneChannel fabric 0) (λ channel has. absurd (let low = has.low in omega arith)))
  lane_count (suc lanes) links is =
      let sum : links * lanes + links ≡ links * suc lanes = (let a = mul_comm links lanes in let b = mul_comm links (suc lanes) in omega arith) in
      subst (λ (n : ℕ). IsCountOf (IsLaneChannel fabric (suc lanes)) n) sum
      (count_sum LaneChannel (IsLaneChannel fabric lanes) (IsOn lanes) (IsLaneChannel fabric (suc lanes)) (links * lanes) links
      (λ channel has. record { to = has.to; entry = has.entry; leads = has.leads; low = (let low = has.low in omega arith) })
      (λ channel has. record { to = has.0.to; entry = has.0.entry; leads = has.0.leads; low = (let low = has.1 in omega arith) })
      (λ channel has. elim (cases_eq channel.lane lanes) [
        | inl last ↦ inr (link_is (suc lanes) channel has, last)
        | inr before ↦ inl (record { to = has.to; entry = has.entry; leads = has.leads; low = (let low = has.low in omega arith) })
      ])
      (λ channel has other. absurd (let low = has.low in let last = other.1 in omega arith)) (lane_count lanes links is) (on_count lanes links is))
