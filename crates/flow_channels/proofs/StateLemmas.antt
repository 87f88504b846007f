-- Reads of a flow after writes.
use Rattle.std.proofs.Common.{◌≡◌, ◌≢◌, ◌∙◌, sym, ap, subst, ℕ, suc, ◌+◌, ◌-◌, ◌<◌, List, [], arith, length, get_or, inl, inr}
use Rattle.std.specs.Prelude.{All, Contains, ◌⊎◌, remove, take, drop}
use Rattle.std.proofs.lemmas.Bool.{cases_eq, cases_lt, cases_order}
use Rattle.std.proofs.lemmas.List.{get_or-set_same, get_or-set_other, get_or_default}
use Rattle.std.proofs.lemmas.List.Edits.{length-remove, get_or-remove_below, get_or-remove_above}
use Rattle.std.proofs.lemmas.List.Elements.{All-append, All-take, All-drop}
use Rattle.dep_check.specs.declared.channel.Channel.{Channel}
use Rattle.dep_check.specs.Tables.{IsSpot, place_of}
use Rattle.dep_check.proofs.SpotLemmas.{place_low, one_spot}
use Rattle.flow_channels.specs.Flows.{FlowOf, PacketOf, WaitOf, queue_at, waiting_at, with_queue, with_waiting}
use Rattle.flow_channels.specs.Sound.{WaitApart}

pub spot_cases : (c d : Channel) → IsSpot c → IsSpot d → (d ≡ c) ⊎ (d ≢ c)
spot_cases c d is is' = elim (cases_eq (place_of d) (place_of c)) [
  | inl same ↦ inl (one_spot d c is' is same)
  | inr other ↦ inr (λ (same : d ≡ c). other (ap place_of same))
]

pub queue_here : (flow : FlowOf) (c : Channel) (ps : List PacketOf) → length flow.queues ≡ 1651 → IsSpot c → queue_at (with_queue c ps flow) c ≡ ps
queue_here flow c ps size is = get_or-set_same flow.queues (place_of c) ps [] (let low = place_low c is in omega arith)

pub queue_there : (flow : FlowOf) (c d : Channel) (ps : List PacketOf) → IsSpot c → IsSpot d → d ≢ c → queue_at (with_queue c ps flow) d ≡ queue_at flow d
queue_there flow c d ps is is' other = get_or-set_other flow.queues (place_of c) (place_of d) ps [] (λ (same : place_of d ≡ place_of c). other (one_spot d c is' is same))

pub waiting_here : (flow : FlowOf) (at : ℕ) (ws : List WaitOf) → length flow.waiting ≡ 127 → at < 127 → waiting_at (with_waiting at ws flow) at ≡ ws
waiting_here flow at ws size low = get_or-set_same flow.waiting at ws [] (omega arith)

pub waiting_there : (flow : FlowOf) (at b : ℕ) (ws : List WaitOf) → b ≢ at → waiting_at (with_waiting at ws flow) b ≡ waiting_at flow b
waiting_there flow at b ws other = get_or-set_other flow.waiting at b ws [] other

-- what holds of each list holds after a write
pub queue_each : (Q : Channel → List PacketOf → Type 0) (flow : FlowOf) (c : Channel) (ps : List PacketOf) → length flow.queues ≡ 1651 → IsSpot c → Q c ps → ((d : Channel) → IsSpot d → d ≢ c → Q d (queue_at flow d)) → (d : Channel) → IsSpot d → Q d (queue_at (with_queue c ps flow) d)
queue_each Q flow c ps size is here there d is' = elim (spot_cases c d is is') [
  | inl same ↦ subst (λ (e : Channel). Q e (queue_at (with_queue c ps flow) e)) (sym same) (subst (λ (qs : List PacketOf). Q c qs) (sym (queue_here flow c ps size is)) here)
  | inr other ↦ subst (λ (qs : List PacketOf). Q d qs) (sym (queue_there flow c d ps is is' other)) (there d is' other)
]

pub waiting_each : (Q : ℕ → List WaitOf → Type 0) (flow : FlowOf) (at : ℕ) (ws : List WaitOf) → length flow.waiting ≡ 127 → at < 127 → Q at ws → ((b : ℕ) → b ≢ at → Q b (waiting_at flow b)) → (b : ℕ) → Q b (waiting_at (with_waiting at ws flow) b)
waiting_each Q flow at ws size low here there b = elim (cases_eq b at) [
  | inl same ↦ subst (λ (e : ℕ). Q e (waiting_at (with_waiting at ws flow) e)) (sym same) (subst (λ (vs : List WaitOf). Q at vs) (sym (waiting_here flow at ws size low)) here)
  | inr other ↦ subst (λ (vs : List WaitOf). Q b vs) (sym (waiting_there flow at b ws other)) (there b other)
]

-- one of a list is taken out
pub all_remove : (P : WaitOf → Type 0) (ws : List WaitOf) (i : ℕ) → All P ws → All P (remove ws i)
all_remove P ws i all = All-append P (take i ws) (drop (suc i) ws) (All-take P i ws all) (All-drop P (suc i) ws all)

pub contains_remove : (ws : List WaitOf) (i : ℕ) (w v : WaitOf) → i < length ws → get_or ws i w ≡ w → Contains ws v → (v ≡ w) ⊎ Contains (remove ws i) v
contains_remove ws i w v low is (j, below, has) =
    let count = length-remove ws i low in
    elim (cases_order j i) [
      | inl same ↦ inl (sym has ∙ get_or_default ws j v w below ∙ ap (λ (k : ℕ). get_or ws k w) same ∙ is)
      | inr other ↦ elim other [
        | inl less ↦ inr (j, omega arith, get_or-remove_below ws i v j less low ∙ has)
        | inr more ↦ inr (j - 1, omega arith, get_or-remove_above ws i v (j - 1) (omega arith) low ∙ ap (λ (k : ℕ). get_or ws k v) (one_less j i more) ∙ has)
      ]
    ]
  where
    one_less : (n m : ℕ) → m < n → n - 1 + 1 ≡ n
    one_less n m less = omega arith

pub apart_remove : (ws : List WaitOf) (i : ℕ) (w : WaitOf) → i < length ws → get_or ws i w ≡ w → WaitApart ws → All (λ v. v.packet.packet ≢ w.packet.packet) (remove ws i)
apart_remove ws i w low is apart = λ k d below same.
    let count = length-remove ws i low in
    let here : get_or ws i d ≡ w = get_or_default ws i d w low ∙ is in
    elim (cases_lt k i) [
      | inl less ↦ apart k i d less low (ap (λ (v : WaitOf). v.packet.packet) (sym (get_or-remove_below ws i d k less low)) ∙ same ∙ ap (λ (v : WaitOf). v.packet.packet) (sym here))
      | inr more ↦ apart i (k + 1) d (omega arith) (omega arith) (ap (λ (v : WaitOf). v.packet.packet) here ∙ sym same ∙ ap (λ (v : WaitOf). v.packet.packet) (get_or-remove_above ws i d k more low))
    ]
