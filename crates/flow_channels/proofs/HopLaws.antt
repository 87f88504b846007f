-- A packet goes out no more often than the ranks allow.
use Rattle.std.proofs.Common.{◌≡◌, ◌≢◌, ◌∙◌, sym, ap, subst, refl, ℕ, suc, ◌+◌, ◌-◌, ◌<◌, ◌≤◌, List, [], ◌∷◌, ◌++◌, Option, Some, None, true, false, arith, length, inl, inr, ◌==◌}
use Rattle.std.specs.Prelude.{All, remove, drop, slice_get, if◌then◌else◌}
use Rattle.std.proofs.Math.ListN.{length-set}
use Rattle.std.proofs.lemmas.Bool.{cases_eq, cases_lt}
use Rattle.std.proofs.lemmas.Bool.Decides.{nat_tests}
use Rattle.std.proofs.lemmas.Option.{same_Some}
use Rattle.std.proofs.lemmas.List.Elements.{All-push, All-drop, All-cons, All-nil, All-head}
use Rattle.dep_check.specs.declared.channel.Channel.{Channel}
use Rattle.dep_check.specs.Channels.{IsChannel, LeadsTo}
use Rattle.common_graph.specs.Cycles.{AreRanks}
use Rattle.dep_check.specs.Tables.{IsSpot, place_of, rank_at}
use Rattle.dep_check.proofs.SpotLemmas.{option_cases}
use Rattle.flow_channels.specs.declared.went.Went.{Went}
use Rattle.flow_channels.specs.declared.went.Went.TheVariants.{Arrived, Out}
use Rattle.flow_channels.specs.Layout.{LayoutOf, spot, IsWired}
use Rattle.flow_channels.specs.Flows.{FlowOf, PacketOf, WaitOf, queue_at, waiting_at, with_queue, with_waiting, first_asks, leaves, leaves_by, comes_into, goes}
use Rattle.flow_channels.specs.Moves.{Move, CanArrive, CanGo, IsPossible, after, went_by, Turns}
use Rattle.flow_channels.specs.Moves.Move.{Arrives, Goes}
use Rattle.flow_channels.specs.Runs.{greatest, hops_of}
use Rattle.flow_channels.specs.Sound.{IsSound, WaitsThere}
use Rattle.flow_channels.proofs.ExitLemmas.{list_cases, exit_has}
use Rattle.flow_channels.proofs.StateLemmas.{spot_cases, queue_each, waiting_each, all_remove}
use Rattle.flow_channels.proofs.SoundLaws.{Gone, near, there, not_start, first_asks_is, queue_kept, got, brought, starts_there, left_by, turn_sound, within}
use Rattle.flow_channels.proofs.EndLaws.{weight_most, weight_is, rank_of, leads_less}

module _ (layout : LayoutOf) (ranks : List (Option ℕ)) (wired : IsWired layout) (ranked : AreRanks (IsChannel layout.far) (LeadsTo layout.far layout.rows) (rank_at ranks)) (known : List ℕ) (k : ℕ) where
  -- a queue has no packet with this number, and none starts
  abbrev pub Lacks : List PacketOf → Type 0
  Lacks ps = All (λ p. p.packet ≢ k) ps

  abbrev pub Starts : List WaitOf → Type 0
  Starts ws = All (λ v. v.entry ≡ 0 → v.packet.packet ≢ k) ws

  -- asking brings no packet
  lacks_first : (c end d : Channel) (flow : FlowOf) → layout.far c ≡ Some end → Lacks (queue_at flow d) → Lacks (queue_at (first_asks layout c flow) d)
  lacks_first c end d flow far lacks = subst (λ (ps : List PacketOf). Lacks ps) (sym (queue_kept layout wired known c end d flow far)) lacks

  starts_first : (c end : Channel) (flow : FlowOf) → layout.far c ≡ Some end → length flow.waiting ≡ 127 → ((b : ℕ) → Starts (waiting_at flow b)) → (b : ℕ) → Starts (waiting_at (first_asks layout c flow) b)
  starts_first c end flow far size each b = elim (first_asks_is layout wired known c end flow far) [
    | inl same ↦ subst (λ (f : FlowOf). Starts (waiting_at f b)) (sym same) (each b)
    | inr (w, entry, is) ↦ subst (λ (f : FlowOf). Starts (waiting_at f b)) (sym is)
        (waiting_each (λ b vs. Starts vs) flow end.at (waiting_at flow end.at ++ (w ∷ [])) size (there layout wired known c end far).at
        (All-push (λ v. v.entry ≡ 0 → v.packet.packet ≢ k) (waiting_at flow end.at) w (each end.at) (λ first same. not_start layout wired known end c end.at (wired.back c end far) (ap (λ (q : ℕ). spot end.at q) (sym entry ∙ first))))
        (λ b other. each b) b)
  ]

  lacks_leaves : (c end d : Channel) (flow : FlowOf) → layout.far c ≡ Some end → length flow.queues ≡ 1651 → IsSpot d → Lacks (queue_at flow d) → Lacks (queue_at (leaves layout c flow) d)
  lacks_leaves c end d flow far size is lacks =
      let two = with_queue c (drop 1 (queue_at flow c)) flow in
      lacks_first c end d two far (queue_each (λ x qs. Lacks (queue_at flow x) → Lacks qs) flow c (drop 1 (queue_at flow c)) size (near layout wired known c end far) (λ all. All-drop (λ p. p.packet ≢ k) 1 (queue_at flow c) all) (λ x is' other all. all) d is lacks)

  -- a packet that comes in is another one, or it comes in elsewhere
  lacks_comes : (d e x : Channel) (p : PacketOf) (flow : FlowOf) → layout.far d ≡ Some e → length flow.queues ≡ 1651 → IsSpot x → (d ≡ x → p.packet ≢ k) → Lacks (queue_at flow x) → Lacks (queue_at (comes_into layout d p flow) x)
  lacks_comes d e x p flow far size is other lacks = elim (list_cases (queue_at flow d)) [
    | inl none ↦ (
        let same : comes_into layout d p flow ≡ first_asks layout d (with_queue d (p ∷ []) flow) = rw none refl in
        subst (λ (f : FlowOf). Lacks (queue_at f x)) (sym same) (lacks_first d e x (with_queue d (p ∷ []) flow) far
        (queue_each (λ y qs. y ≡ x → Lacks (queue_at flow y) → Lacks qs) flow d (p ∷ []) size (near layout wired known d e far) (λ at all. All-cons (λ q. q.packet ≢ k) p [] (other at) (All-nil (λ q. q.packet ≢ k))) (λ y is' apart at all. all) x is refl lacks)))
    | inr (y, ys, some) ↦ (
        let count : length (queue_at flow d) ≡ suc (length ys) = ap length some in
        let test : (length (queue_at flow d) == 0) ≡ false = (grind (arith, nat_tests)) in
        let same : comes_into layout d p flow ≡ with_queue d (queue_at flow d ++ (p ∷ [])) flow = rw test refl in
        subst (λ (f : FlowOf). Lacks (queue_at f x)) (sym same)
        (queue_each (λ y qs. y ≡ x → Lacks (queue_at flow y) → Lacks qs) flow d (queue_at flow d ++ (p ∷ [])) size (near layout wired known d e far) (λ at all. All-push (λ q. q.packet ≢ k) (queue_at flow d) p all (other at)) (λ y is' apart at all. all) x is refl lacks))
  ]

  starts_comes : (d e : Channel) (p : PacketOf) (flow : FlowOf) → layout.far d ≡ Some e → length flow.waiting ≡ 127 → ((b : ℕ) → Starts (waiting_at flow b)) → (b : ℕ) → Starts (waiting_at (comes_into layout d p flow) b)
  starts_comes d e p flow far size each b = elim (list_cases (queue_at flow d)) [
    | inl none ↦ (
        let same : comes_into layout d p flow ≡ first_asks layout d (with_queue d (p ∷ []) flow) = rw none refl in
        subst (λ (f : FlowOf). Starts (waiting_at f b)) (sym same) (starts_first d e (with_queue d (p ∷ []) flow) far size each b))
    | inr (y, ys, some) ↦ (
        let count : length (queue_at flow d) ≡ suc (length ys) = ap length some in
        let test : (length (queue_at flow d) == 0) ≡ false = (grind (arith, nat_tests)) in
        let same : comes_into layout d p flow ≡ with_queue d (queue_at flow d ++ (p ∷ [])) flow = rw test refl in
        subst (λ (f : FlowOf). Starts (waiting_at f b)) (sym same) (each b))
  ]

  -- at most n hops are left
  pub record Few (n : ℕ) (flow : FlowOf) : Type 0 where
    pub queues : (c : Channel) (rank : ℕ) → IsSpot c → rank_at ranks c ≡ Some rank → n < rank → Lacks (queue_at flow c)
    pub starts : n ≤ greatest ranks → (b : ℕ) → Starts (waiting_at flow b)

  arrive_few : (n : ℕ) (flow : FlowOf) (c : Channel) → IsSound layout known flow → CanArrive layout flow c → Few n flow → Few n (leaves layout c flow)
  arrive_few n flow c sound (packet, entry, first, far) few = record {
    queues = λ d rank is at less. lacks_leaves c (spot packet.to entry) d flow far sound.queues is (few.queues d rank is at less);
    starts = λ low b. starts_first c (spot packet.to entry) (with_queue c (drop 1 (queue_at flow c)) flow) far sound.waiting (few.starts low) b;
  }

  -- what a hop leaves of them
  pub record Step (n hop : ℕ) (flow : FlowOf) : Type 0 where
    pub left : ℕ
    pub few : Few left flow
    pub sum : hop + left ≤ n

  abbrev pub hop_of : ℕ → ℕ
  hop_of packet = if packet == k then 1 else 0

  leaves_few : (n at i : ℕ) (w : WaitOf) (flow : FlowOf) → IsSound layout known flow → i < length (waiting_at flow at) → Few n flow → Few n (leaves_by layout (layout.far (spot at w.entry)) (with_waiting at (remove (waiting_at flow at) i) flow))
  leaves_few n at i w flow sound below few =
      let one = with_waiting at (remove (waiting_at flow at) i) flow in
      let inside = within layout wired known flow.waiting at i below in
      let size : length one.waiting ≡ 127 = length-set flow.waiting at (remove (waiting_at flow at) i) ∙ sound.waiting in
      let low : at < 127 = (let all = sound.waiting in omega arith) in
      let starts : n ≤ greatest ranks → (b : ℕ) → Starts (waiting_at one b) = (λ most b. waiting_each (λ b vs. Starts vs) flow at (remove (waiting_at flow at) i) sound.waiting low (all_remove (λ v. v.entry ≡ 0 → v.packet.packet ≢ k) (waiting_at flow at) i (few.starts most at)) (λ b other. few.starts most b) b) in
      elim (option_cases (layout.far (spot at w.entry))) [
        | inl none ↦ subst (λ (o : Option Channel). Few n (leaves_by layout o one)) (sym none) (record { queues = few.queues; starts = starts })
        | inr (c, by) ↦ subst (λ (o : Option Channel). Few n (leaves_by layout o one)) (sym by) (
            let back = wired.back (spot at w.entry) c by in
            record {
              queues = λ d rank is e less. lacks_leaves c (spot at w.entry) d one back sound.queues is (few.queues d rank is e less);
              starts = λ most b. starts_first c (spot at w.entry) (with_queue c (drop 1 (queue_at one c)) one) back size (starts most) b;
            })
      ]

  go_few : (n : ℕ) (flow : FlowOf) (at i port : ℕ) → IsSound layout known flow → (can : CanGo layout flow at i port) → Few n flow → Step n (hop_of can.wait.packet.packet) (goes layout at i port (slice_get (waiting_at flow at) i) flow)
  go_few n flow at i port sound can few =
      let w = can.wait in
      let g = got layout wired known (waiting_at flow at) i w can.there in
      let two = leaves_by layout (layout.far (spot at w.entry)) (with_waiting at (remove (waiting_at flow at) i) flow) in
      let left = left_by layout wired known flow at i w sound g.0 g.1 in
      let d = spot at port in
      let e = can.room.0 in
      let far = can.room.1 in
      let waits : WaitsThere layout flow at w = subst (λ (v : WaitOf). WaitsThere layout flow at v) g.1 (sound.waits at i w g.0) in
      let own = ranked.nodes d (e, far) in
      let is_d = near layout wired known d e far in
      let own_weight = weight_is layout ranks wired ranked known d own.0 is_d own.1 in
      let total : Step n (hop_of w.packet.packet) (comes_into layout d w.packet two) = elim (cases_eq w.packet.packet k) [
        | inr other ↦ (
            let test : (w.packet.packet == k) ≡ false = (grind (arith, nat_tests)) in
            let before = leaves_few n at i w flow sound g.0 few in
            let hop : hop_of w.packet.packet ≡ 0 = rw test refl in
            record {
              left = n;
              few = record {
                queues = λ c rank is at' less. lacks_comes d e c w.packet two far left.sound.queues is (λ same. other) (before.queues c rank is at' less);
                starts = λ most b. starts_comes d e w.packet two far left.sound.waiting (before.starts most) b;
              };
              sum = omega arith;
            })
        | inl same ↦ (
            let test : (w.packet.packet == k) ≡ true = (grind (arith, nat_tests)) in
            let hop : hop_of w.packet.packet ≡ 1 = rw test refl in
            let gone : Gone layout wired known k two = subst (λ (j : ℕ). Gone layout wired known j two) same left.gone in
            let falls : own.0 < n = elim (option_cases (layout.far (spot at w.entry))) [
              | inl none ↦ (
                  let first = starts_there layout wired known flow at w none waits in
                  elim (cases_lt (greatest ranks) n) [
                    | inl less ↦ (let r = rank_of layout ranks wired ranked known d e far in let most = weight_most ranks (place_of d) r.low in omega arith)
                    | inr most ↦ absurd (subst (λ (v : WaitOf). v.entry ≡ 0 → v.packet.packet ≢ k) g.1 (few.starts most at i w g.0) first same)
                  ])
              | inr (c, by) ↦ (
                  let back = wired.back (spot at w.entry) c by in
                  let is_c = near layout wired known c (spot at w.entry) back in
                  let before = ranked.nodes c (spot at w.entry, back) in
                  let weight_c = weight_is layout ranks wired ranked known c before.0 is_c before.1 in
                  let leads : LeadsTo layout.far layout.rows c d = record { entry = w.entry; arrives = back; to = w.packet.to; exit = exit_has layout (spot at w.entry) w.packet.to port can.named; link = (e, far) } in
                  let less = leads_less layout ranks wired ranked known c d (spot at w.entry) e back leads far in
                  elim (cases_lt n before.0) [
                    | inl more ↦ absurd (
                        let first = brought layout wired known flow at w c by waits in
                        let lacks : Lacks (w.packet ∷ first.0) = subst (λ (ps : List PacketOf). Lacks ps) first.1 (few.queues c before.0 is_c before.1 more) in
                        All-head (λ p. p.packet ≢ k) w.packet first.0 lacks same)
                    | inr most ↦ omega arith
                  ])
            ] in
            record {
              left = n - 1;
              few = record {
                queues = λ c rank is at' less. elim (spot_cases d c is_d is) [
                  | inl here ↦ absurd (
                      let r : rank ≡ own.0 = same_Some rank own.0 (sym at' ∙ ap (rank_at ranks) here ∙ own.1) in
                      omega arith)
                  | inr apart ↦ lacks_comes d e c w.packet two far left.sound.queues is (λ one. absurd (apart (sym one))) (gone.queues c is)
                ];
                starts = λ most b. starts_comes d e w.packet two far left.sound.waiting gone.starts b;
              };
              sum = omega arith;
            })
      ] in
      subst (λ (o : Option WaitOf). Step n (hop_of w.packet.packet) (goes layout at i port o flow)) (sym can.there) total

  pub hop_by : Went → ℕ
  hop_by (Arrived packet at) = 0
  hop_by (Out packet at exit) = hop_of packet

  pub hops_first : (one : Went) (went : List Went) → hops_of k (one ∷ went) ≡ hop_by one + hops_of k went
  unfolding hop_by
  hops_first (Arrived packet at) went = omega arith
  hops_first (Out packet at exit) went = omega arith

  pub move_few : (n : ℕ) (flow : FlowOf) (move : Move) (one : Went) → IsSound layout known flow → IsPossible layout flow move → went_by flow move ≡ Some one → Few n flow → Step n (hop_by one) (after layout move flow)
  unfolding hop_by
  move_few n flow (Arrives c) one sound can went few =
      let is : Arrived can.0.packet can.0.to ≡ one = same_Some (Arrived can.0.packet can.0.to) one (sym (rw can.2 refl) ∙ went) in
      subst (λ (o : Went). Step n (hop_by o) (leaves layout c flow)) is (record { left = n; few = arrive_few n flow c sound can few; sum = omega arith })
  move_few n flow (Goes at i port) one sound can went few =
      let is : Out can.wait.packet.packet at port ≡ one = same_Some (Out can.wait.packet.packet at port) one (sym (rw can.there refl) ∙ went) in
      subst (λ (o : Went). Step n (hop_by o) (goes layout at i port (slice_get (waiting_at flow at) i) flow)) is (go_few n flow at i port sound can few)

  hops_few : (went : List Went) (n : ℕ) (old new : FlowOf) → IsSound layout known old → Few n old → Turns layout old went new → hops_of k went ≤ n
  hops_few [] n old new sound few same = omega arith
  hops_few (one ∷ went) n old new sound few (next, turn, rest) =
      let step = move_few n old turn.move one sound turn.next.possible turn.went_is few in
      let here : Few step.left next = subst (λ (f : FlowOf). Few step.left f) (sym turn.after_is) step.few in
      let more = hops_few went step.left next new (turn_sound layout wired known old next one sound turn) here rest in
      let first = hops_first one went in
      let sum = step.sum in
      omega arith

  -- at first there are at most one more than the greatest rank
  pub all_few : (flow : FlowOf) → Few (greatest ranks + 1) flow
  all_few flow = record {
    queues = λ c rank is at less. absurd (
        let far = is_channel c rank at in
        let r = rank_of layout ranks wired ranked known c far.0 far.1 in
        let most = weight_most ranks (place_of c) r.low in
        let own = weight_is layout ranks wired ranked known c rank is at in
        omega arith);
    starts = λ low b. absurd (omega arith);
  }
    where
      is_channel : (c : Channel) (rank : ℕ) → rank_at ranks c ≡ Some rank → IsChannel layout.far c
      is_channel c rank has = elim (option_cases (layout.far c)) [
        | inl none ↦ absurd (let gone : rank_at ranks c ≡ None = ranked.others c (λ (far : IsChannel layout.far c). absurd (let e = far.1 in cc)) in cc)
        | inr some ↦ some
      ]

  pub few_hops : (went : List Went) (old new : FlowOf) → IsSound layout known old → Turns layout old went new → hops_of k went ≤ greatest ranks + 1
  few_hops went old new sound turns = hops_few went (greatest ranks + 1) old new sound (all_few old) turns
