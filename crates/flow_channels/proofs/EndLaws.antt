-- Each turn takes one from the moves that may be left.
use Rattle.std.proofs.Common.{◌≡◌, ◌∙◌, ap, subst, sym, ℕ, zero, suc, ◌+◌, ◌*◌, ◌<◌, ◌≤◌, List, [], ◌∷◌, Option, Some, None, arith, length, get_or, inl, inr}
use Rattle.std.specs.Prelude.{unwrap_or, slice_get}
use Rattle.dep_check.specs.declared.channel.Channel.{Channel}
use Rattle.dep_check.specs.Channels.{IsChannel, LeadsTo}
use Rattle.common_graph.specs.Cycles.{AreRanks}
use Rattle.dep_check.specs.Tables.{IsSpot, place_of, rank_at}
use Rattle.dep_check.proofs.SpotLemmas.{spot_true}
use Rattle.flow_channels.specs.declared.went.Went.{Went}
use Rattle.flow_channels.specs.Layout.{LayoutOf, spot, IsWired}
use Rattle.flow_channels.specs.Flows.{FlowOf, waiting_at, leaves, goes, all_starting}
use Rattle.flow_channels.specs.Moves.{Move, CanArrive, CanGo, IsPossible, IsTurn, after, Turns}
use Rattle.flow_channels.specs.Moves.Move.{Arrives, Goes}
use Rattle.flow_channels.specs.Runs.{greatest, moves_left}
use Rattle.flow_channels.specs.Sound.{IsSound}
use Rattle.flow_channels.proofs.SoundLaws.{near, turn_sound}
use Rattle.flow_channels.proofs.WeightLaws.{weight, one_more, arrive_weight, go_weight}

-- where a list of ranks has one
pub has_low : (ranks : List (Option ℕ)) (k n : ℕ) → get_or ranks k None ≡ Some n → k < length ranks
has_low [] k n e = absurd (cc)
has_low (rank ∷ ranks) zero n e = omega arith
has_low (rank ∷ ranks) (suc k) n e = let rest = has_low ranks k n e in omega arith

pub weight_most : (ranks : List (Option ℕ)) (k : ℕ) → k < length ranks → weight ranks k ≤ greatest ranks + 1
weight_most [] k low = absurd (omega arith)
weight_most (rank ∷ ranks) zero low = omega arith
weight_most (rank ∷ ranks) (suc k) low = let rest = weight_most ranks k (omega arith) in omega arith

module _ (layout : LayoutOf) (ranks : List (Option ℕ)) (wired : IsWired layout) (ranked : AreRanks (IsChannel layout.far) (LeadsTo layout.far layout.rows) (rank_at ranks)) (known : List ℕ) where
  -- the rank of a channel stands in the list
  pub record Ranked (c : Channel) : Type 0 where
    pub rank : ℕ
    pub low : place_of c < length ranks
    pub is : weight ranks (place_of c) ≡ suc rank
    pub at : rank_at ranks c ≡ Some rank

  ranked_at : (c : Channel) (rank : ℕ) → IsSpot c → rank_at ranks c ≡ Some rank → Ranked c
  ranked_at c rank spot e =
      let test = spot_true c spot in
      let here : get_or ranks (place_of c) None ≡ Some rank = rw test at e in
      record { rank = rank; low = has_low ranks (place_of c) rank here; is = ap (λ (o : Option ℕ). suc (unwrap_or o 0)) here; at = e }

  pub weight_is : (c : Channel) (rank : ℕ) → IsSpot c → rank_at ranks c ≡ Some rank → weight ranks (place_of c) ≡ suc rank
  weight_is c rank spot e =
      let test = spot_true c spot in
      let here : get_or ranks (place_of c) None ≡ Some rank = rw test at e in
      ap (λ (o : Option ℕ). suc (unwrap_or o 0)) here

  pub rank_of : (c end : Channel) → layout.far c ≡ Some end → Ranked c
  rank_of c end far = let r = ranked.nodes c (end, far) in ranked_at c r.0 (near layout wired known c end far) r.1

  pub leads_less : (c d end far : Channel) → layout.far c ≡ Some end → LeadsTo layout.far layout.rows c d → layout.far d ≡ Some far → weight ranks (place_of d) + 1 ≤ weight ranks (place_of c)
  leads_less c d end far e leads e' =
      let own = ranked.nodes c (end, e) in
      let above = own.2.above d leads in
      let x = weight_is c own.0 (near layout wired known c end e) own.1 in
      let y = weight_is d above.0 (near layout wired known d far e') above.1 in
      let less = above.2 in
      omega arith

  has : (c end : Channel) → layout.far c ≡ Some end → place_of c < length ranks
  has c end far = (rank_of c end far).low

  arrive_less : (flow : FlowOf) (c : Channel) → IsSound layout known flow → CanArrive layout flow c → moves_left ranks (leaves layout c flow) + 1 ≤ moves_left ranks flow
  arrive_less flow c sound can =
      let less = arrive_weight layout ranks wired known has flow c sound can in
      let sum = less.0 in
      let same = ap (λ (n : ℕ). n * (greatest ranks + 2)) less.1 in
      omega arith

  go_less : (flow : FlowOf) (at i port : ℕ) → IsSound layout known flow → CanGo layout flow at i port → moves_left ranks (goes layout at i port (slice_get (waiting_at flow at) i) flow) + 1 ≤ moves_left ranks flow
  go_less flow at i port sound can =
      let d = spot at port in
      let new = goes layout at i port (slice_get (waiting_at flow at) i) flow in
      elim (go_weight layout ranks wired known has flow at i port sound can) [
        | inl (more, fewer) ↦ (
            let most = weight_most ranks (place_of d) (rank_of d can.room.0 can.room.1).low in
            let down : all_starting flow.waiting ≡ suc (all_starting new.waiting) = omega arith in
            let e = ap (λ (n : ℕ). n * (greatest ranks + 2)) down ∙ one_more (all_starting new.waiting) (greatest ranks + 2) in
            omega arith)
        | inr (c, end, far, from, leads, to, moved, same) ↦ (
            let falls = leads_less c d end far from leads to in
            let e = ap (λ (n : ℕ). n * (greatest ranks + 2)) same in
            omega arith)
      ]

  move_less : (flow : FlowOf) (move : Move) → IsSound layout known flow → IsPossible layout flow move → moves_left ranks (after layout move flow) + 1 ≤ moves_left ranks flow
  move_less flow (Arrives c) sound can = arrive_less flow c sound can
  move_less flow (Goes at i port) sound can = go_less flow at i port sound can

  pub turn_less : (old new : FlowOf) (went : Went) → IsSound layout known old → IsTurn layout old went new → moves_left ranks new + 1 ≤ moves_left ranks old
  turn_less old new went sound turn = subst (λ (f : FlowOf). moves_left ranks f + 1 ≤ moves_left ranks old) (sym turn.after_is) (move_less old turn.move sound turn.next.possible)

  pub turns_less : (went : List Went) (old new : FlowOf) → IsSound layout known old → Turns layout old went new → length went + moves_left ranks new ≤ moves_left ranks old
  turns_less [] old new sound same = let e = ap (moves_left ranks) same in omega arith
  turns_less (one ∷ went) old new sound (next, turn, rest) =
      let first = turn_less old next one sound turn in
      let more = turns_less went next new (turn_sound layout wired known old next one sound turn) rest in
      omega arith
