-- What comes about is sound.
use Rattle.std.proofs.Common.{◌≡◌, ◌≢◌, ◌∙◌, sym, ap, subst, refl, ℕ, zero, suc, ◌<◌, ◌≤◌, List, [], ◌∷◌, ◌++◌, Option, Some, None, true, false, arith, length, get_or, inl, inr, ◌==◌}
use Rattle.std.specs.Prelude.{All, Contains, ◌⊎◌, remove, slice_get, drop, replicate, if◌then◌else◌}
use Rattle.std.proofs.Math.ListN.{length-set, length-drop, length-append}
use Rattle.std.proofs.lemmas.Bool.{cases_eq}
use Rattle.std.proofs.lemmas.Bool.Decides.{nat_tests}
use Rattle.std.proofs.lemmas.Option.{same_Some}
use Rattle.std.proofs.lemmas.List.{length-replicate}
use Rattle.std.proofs.lemmas.List.Elements.{All-push, All-drop, All-head, All-weaker, All-nil, Contains-append_left, Contains-append_right}
use Rattle.std.proofs.lemmas.List.Quantifiers.{all_pairs_push, all_pairs_remove}
use Rattle.dep_check.specs.declared.channel.Channel.{Channel}
use Rattle.common_graph.specs.Cycles.{Walk}
use Rattle.dep_check.specs.Packets.{GoesOn}
use Rattle.dep_check.specs.Tables.{IsSpot, place_of}
use Rattle.dep_check.proofs.SpotLemmas.{option_cases}
use Rattle.flow_channels.specs.Layout.{LayoutOf, spot, IsWired}
use Rattle.flow_channels.specs.Flows.{FlowOf, PacketOf, WaitOf, first_of, queue_at, waiting_at, with_queue, with_waiting, asks, first_asks, leaves, leaves_by, comes_into, goes, enters, empty_flow}
use Rattle.flow_channels.specs.declared.went.Went.{Went}
use Rattle.flow_channels.specs.Moves.{Move, CanArrive, CanGo, IsPossible, IsTurn, after}
use Rattle.flow_channels.specs.Moves.Move.{Arrives, Goes}
use Rattle.flow_channels.specs.Runs.{Act, Comes, entered}
use Rattle.flow_channels.specs.Runs.Act.{Enter, Make}
use Rattle.flow_channels.specs.Sound.{IsSound, IsOnWay, IsFirst, IsBroughtBy, WaitsThere, FirstWaits, ComesBy, IsIn, IsInIfStarts, AreApart, WaitApart}
use Rattle.flow_channels.proofs.ExitLemmas.{list_cases, exit_has, first_in}
use Rattle.flow_channels.proofs.StateLemmas.{spot_cases, queue_here, queue_there, waiting_here, queue_each, waiting_each, all_remove, contains_remove, apart_remove}

module _ (layout : LayoutOf) (wired : IsWired layout) (known : List ℕ) where
  -- all but that first packets wait
  record Rest (place : ℕ → Channel) (flow : FlowOf) : Type 0 where
    queues : length flow.queues ≡ 1651
    waiting : length flow.waiting ≡ 127
    room : (channel : Channel) → IsSpot channel → length (queue_at flow channel) ≤ layout.most
    moving : (channel : Channel) → IsSpot channel → All (ComesBy layout channel) (queue_at flow channel)
    waits : (at : ℕ) → All (WaitsThere layout flow at) (waiting_at flow at)
    in_queue : (channel : Channel) → IsSpot channel → All (IsIn known place channel) (queue_at flow channel)
    starts : (at : ℕ) → All (IsInIfStarts known place at) (waiting_at flow at)
    once : (channel : Channel) → IsSpot channel → AreApart (queue_at flow channel)
    apart : (at : ℕ) → WaitApart (waiting_at flow at)

  abbrev Firsts : FlowOf → Type 0
  Firsts flow = (channel end : Channel) → layout.far channel ≡ Some end → FirstWaits flow end (queue_at flow channel)

  rest_of : (flow : FlowOf) → (sound : IsSound layout known flow) → Rest sound.place flow
  rest_of flow sound = record { queues = sound.queues; waiting = sound.waiting; room = sound.room; moving = sound.moving; waits = sound.waits; in_queue = sound.in_queue; starts = sound.starts; once = sound.once; apart = sound.apart }

  sound_of : (place : ℕ → Channel) (flow : FlowOf) → Rest place flow → Firsts flow → IsSound layout known flow
  sound_of place flow rest firsts = record { queues = rest.queues; waiting = rest.waiting; room = rest.room; moving = rest.moving; firsts = firsts; waits = rest.waits; place = place; in_queue = rest.in_queue; starts = rest.starts; once = rest.once; apart = rest.apart }

  -- both ends of a channel are spots
  pub near : (c end : Channel) → layout.far c ≡ Some end → IsSpot c
  near c end e = wired.near c end e

  pub there : (c end : Channel) → layout.far c ≡ Some end → IsSpot end
  there c end e = wired.near end c (wired.back c end e)

  pub not_start : (c end : Channel) (at : ℕ) → layout.far c ≡ Some end → c ≡ spot at 0 → ⊥
  not_start c end at e same = absurd (let none : layout.far c ≡ None = subst (λ (d : Channel). layout.far d ≡ None) (sym same) (wired.start at) in cc)

  -- who brought one that waits
  pub brought : (flow : FlowOf) (at : ℕ) (w : WaitOf) (c : Channel) → layout.far (spot at w.entry) ≡ Some c → WaitsThere layout flow at w → IsFirst flow c w.packet
  brought flow at w c e there = subst (λ (o : Option Channel). IsBroughtBy flow w o) e there.2

  pub starts_there : (flow : FlowOf) (at : ℕ) (w : WaitOf) → layout.far (spot at w.entry) ≡ None → WaitsThere layout flow at w → w.entry ≡ 0
  starts_there flow at w e there = subst (λ (o : Option Channel). IsBroughtBy flow w o) e there.2

  brings : (flow new : FlowOf) (w : WaitOf) (o : Option Channel) → ((c : Channel) → o ≡ Some c → IsFirst flow c w.packet → IsFirst new c w.packet) → IsBroughtBy flow w o → IsBroughtBy new w o
  brings flow new w None same by = by
  brings flow new w (Some c) same by = same c refl by

  still_there : (flow new : FlowOf) (at : ℕ) (w : WaitOf) → ((c : Channel) → layout.far (spot at w.entry) ≡ Some c → IsFirst flow c w.packet → IsFirst new c w.packet) → WaitsThere layout flow at w → WaitsThere layout new at w
  still_there flow new at w same there = (there.0, there.1, brings flow new w (layout.far (spot at w.entry)) same there.2)

  -- the first packet of a queue is in it
  in_place : (place : ℕ → Channel) (flow : FlowOf) (c : Channel) (packet : PacketOf) → Rest place flow → IsSpot c → IsFirst flow c packet → place packet.packet ≡ c
  in_place place flow c packet rest is (others, queue) =
      (All-head (IsIn known place c) packet others (subst (λ (ps : List PacketOf). All (IsIn known place c) ps) queue (rest.in_queue c is))).1

  -- one more asks
  asks_rest : (place : ℕ → Channel) (flow : FlowOf) (at : ℕ) (w : WaitOf) → at < 127 → Rest place flow → WaitsThere layout flow at w → IsInIfStarts known place at w → All (λ v. v.packet.packet ≢ w.packet.packet) (waiting_at flow at) → Rest place (asks at w flow)
  asks_rest place flow at w low rest there one new =
      let ws = waiting_at flow at ++ (w ∷ []) in
      let same : (b : ℕ) (v : WaitOf) → WaitsThere layout flow b v → WaitsThere layout (asks at w flow) b v = (λ b v is. still_there flow (asks at w flow) b v (λ c e first. first) is) in
      record {
        queues = rest.queues;
        waiting = length-set flow.waiting at ws ∙ rest.waiting;
        room = rest.room;
        moving = rest.moving;
        waits = waiting_each (λ b vs. All (WaitsThere layout (asks at w flow) b) vs) flow at ws rest.waiting low
            (All-weaker (WaitsThere layout flow at) (WaitsThere layout (asks at w flow) at) (same at) ws (All-push (WaitsThere layout flow at) (waiting_at flow at) w (rest.waits at) there))
            (λ b other. All-weaker (WaitsThere layout flow b) (WaitsThere layout (asks at w flow) b) (same b) (waiting_at flow b) (rest.waits b));
        in_queue = rest.in_queue;
        starts = waiting_each (λ b vs. All (IsInIfStarts known place b) vs) flow at ws rest.waiting low (All-push (IsInIfStarts known place at) (waiting_at flow at) w (rest.starts at) one) (λ b other. rest.starts b);
        once = rest.once;
        apart = waiting_each (λ b vs. WaitApart vs) flow at ws rest.waiting low (all_pairs_push (λ (a b : WaitOf). a.packet.packet ≢ b.packet.packet) (waiting_at flow at) w (rest.apart at) new) (λ b other. rest.apart b);
      }

  asks_firsts : (flow : FlowOf) (at : ℕ) (w : WaitOf) (end : Channel) (ps : List PacketOf) → length flow.waiting ≡ 127 → at < 127 → FirstWaits flow end ps → FirstWaits (asks at w flow) end ps
  asks_firsts flow at w end [] size low waits = waits
  asks_firsts flow at w end (p ∷ ps) size low waits = elim waits [
    | inl same ↦ inl same
    | inr has ↦ inr (
        let v : WaitOf = record { packet = p; entry = end.port } in
        waiting_each (λ b vs. Contains (waiting_at flow b) v → Contains vs v) flow at (waiting_at flow at ++ (w ∷ [])) size low
        (λ own. Contains-append_left (waiting_at flow at) (w ∷ []) v own) (λ b other own. own) end.at has)
  ]

  -- All is sound but that the first packet of c has yet to ask, and nobody waits whom c brought.
  record But (c : Channel) (place : ℕ → Channel) (flow : FlowOf) : Type 0 where
    rest : Rest place flow
    firsts : (d end : Channel) → d ≢ c → layout.far d ≡ Some end → FirstWaits flow end (queue_at flow d)
    none : (end : Channel) → layout.far c ≡ Some end → All (λ v. v.entry ≢ end.port) (waiting_at flow end.at)

  firsts_with : (flow : FlowOf) (c end : Channel) → layout.far c ≡ Some end → ((d e : Channel) → d ≢ c → layout.far d ≡ Some e → FirstWaits flow e (queue_at flow d)) → FirstWaits flow end (queue_at flow c) → Firsts flow
  firsts_with flow c end far others own d e far' = elim (spot_cases c d (near c end far) (near d e far')) [
    | inl same ↦ (
        let is : e ≡ end = same_Some e end (sym far' ∙ ap layout.far same ∙ far) in
        subst (λ (x : Channel). FirstWaits flow x (queue_at flow d)) (sym is) (subst (λ (x : Channel). FirstWaits flow end (queue_at flow x)) (sym same) own))
    | inr other ↦ others d e other far'
  ]

  -- then it asks
  it_asks : (c end : Channel) (place : ℕ → Channel) (flow : FlowOf) (p : PacketOf) (others : List PacketOf) → layout.far c ≡ Some end → But c place flow → queue_at flow c ≡ p ∷ others → end.at ≢ p.to → IsSound layout known (asks end.at (record { packet = p; entry = end.port }) flow)
  it_asks c end place flow p others far but queue before =
      let is = near c end far in
      let low = (there c end far).at in
      let w : WaitOf = record { packet = p; entry = end.port } in
      let back = wired.back c end far in
      let by = All-head (ComesBy layout c) p others (subst (λ (ps : List PacketOf). All (ComesBy layout c) ps) queue (but.rest.moving c is)) in
      let same_end : by.0 ≡ end = same_Some by.0 end (sym by.1 ∙ far) in
      let on : IsOnWay layout p.to end = subst (λ (e : Channel). IsOnWay layout p.to e) same_end by.2 in
      let mine = in_place place flow c p but.rest is (others, queue) in
      let waits : WaitsThere layout flow end.at w = (before, on, subst (λ (o : Option Channel). IsBroughtBy flow w o) (sym back) (others, queue)) in
      let one : IsInIfStarts known place end.at w = (λ (first : end.port ≡ 0). absurd (not_start end c end.at back (ap (λ (q : ℕ). spot end.at q) first))) in
      let new : All (λ v. v.packet.packet ≢ w.packet.packet) (waiting_at flow end.at) = (λ k d below same.
      other_packet place flow c end p (get_or (waiting_at flow end.at) k d) but.rest far mine (but.rest.waits end.at k d below) (but.rest.starts end.at k d below) (but.none end far k d below) same) in
      let rest = asks_rest place flow end.at w low but.rest waits one new in
      sound_of place (asks end.at w flow) rest (firsts_with (asks end.at w flow) c end far
      (λ d e other far'. asks_firsts flow end.at w e (queue_at flow d) but.rest.waiting low (but.firsts d e other far'))
      (subst (λ (ps : List PacketOf). FirstWaits (asks end.at w flow) end ps) (sym queue) (inr (
      subst (λ (ws : List WaitOf). Contains ws w) (sym (waiting_here flow end.at (waiting_at flow end.at ++ (w ∷ [])) but.rest.waiting low))
      (Contains-append_right (waiting_at flow end.at) (w ∷ []) w (zero, omega arith, refl))))))
    where
      other_packet : (place : ℕ → Channel) (flow : FlowOf) (c end : Channel) (p : PacketOf) (v : WaitOf) → Rest place flow → layout.far c ≡ Some end → place p.packet ≡ c → WaitsThere layout flow end.at v → IsInIfStarts known place end.at v → v.entry ≢ end.port → v.packet.packet ≡ p.packet → ⊥
      other_packet place flow c end p v rest far mine there one other same = elim (option_cases (layout.far (spot end.at v.entry))) [
        | inl none ↦ (
            let starts = starts_there flow end.at v none there in
            not_start c end end.at far (sym mine ∙ ap place (sym same) ∙ (one starts).1))
        | inr (d, some) ↦ (
            let first = brought flow end.at v d some there in
            let is : d ≡ c = sym (in_place place flow d v.packet rest (near d (spot end.at v.entry) (wired.back (spot end.at v.entry) d some)) first) ∙ ap place same ∙ mine in
            let back : layout.far c ≡ Some (spot end.at v.entry) = subst (λ (x : Channel). layout.far x ≡ Some (spot end.at v.entry)) is (wired.back (spot end.at v.entry) d some) in
            other (ap (λ (x : Channel). x.port) (same_Some (spot end.at v.entry) end (sym back ∙ far))))
      ]

  asks_sound : (c end : Channel) (place : ℕ → Channel) (flow : FlowOf) → layout.far c ≡ Some end → But c place flow → IsSound layout known (first_asks layout c flow)
  asks_sound c end place flow far but = elim (list_cases (queue_at flow c)) [
    | inl none ↦ (
        let first : first_of flow c ≡ None = rw none refl in
        let same : first_asks layout c flow ≡ flow = rw (far, first) refl in
        subst (λ (f : FlowOf). IsSound layout known f) (sym same) (sound_of place flow but.rest (firsts_with flow c end far but.firsts (subst (λ (ps : List PacketOf). FirstWaits flow end ps) (sym none) tt))))
    | inr (p, others, queue) ↦ (
        let first : first_of flow c ≡ Some p = rw queue refl in
        elim (cases_eq end.at p.to) [
          | inl same ↦ (
              let test : (end.at == p.to) ≡ true = (grind (arith, nat_tests)) in
              let is : first_asks layout c flow ≡ flow = rw (far, first, test) refl in
              subst (λ (f : FlowOf). IsSound layout known f) (sym is) (sound_of place flow but.rest (firsts_with flow c end far but.firsts (subst (λ (ps : List PacketOf). FirstWaits flow end ps) (sym queue) (inl same)))))
          | inr other ↦ (
              let test : (end.at == p.to) ≡ false = (grind (arith, nat_tests)) in
              let is : first_asks layout c flow ≡ asks end.at (record { packet = p; entry = end.port }) flow = rw (far, first, test) refl in
              subst (λ (f : FlowOf). IsSound layout known f) (sym is) (it_asks c end place flow p others far but queue other))
        ])
  ]

  same_firsts : (flow new : FlowOf) (end : Channel) (ps : List PacketOf) → ((at : ℕ) → waiting_at new at ≡ waiting_at flow at) → FirstWaits flow end ps → FirstWaits new end ps
  same_firsts flow new end [] same waits = waits
  same_firsts flow new end (p ∷ ps) same waits = elim waits [
    | inl is ↦ inl is
    | inr has ↦ inr (subst (λ (ws : List WaitOf). Contains ws (record { packet = p; entry = end.port })) (sym (same end.at)) has)
  ]

  pairs_drop : (ps : List PacketOf) → AreApart ps → AreApart (drop 1 ps)
  pairs_drop [] apart = apart
  pairs_drop (p ∷ ps) apart = λ i j d less low. apart (suc i) (suc j) d (omega arith) (omega arith)

  -- who was brought by another channel is still the first there
  kept_first : (c end : Channel) (flow : FlowOf) (ps : List PacketOf) (at : ℕ) (w : WaitOf) (d : Channel) → layout.far c ≡ Some end → layout.far (spot at w.entry) ≡ Some d → (layout.far c ≡ Some (spot at w.entry) → ⊥) → IsFirst flow d w.packet → IsFirst (with_queue c ps flow) d w.packet
  kept_first c end flow ps at w d far e never (others, queue) =
      let back = wired.back (spot at w.entry) d e in
      let is' = near d (spot at w.entry) back in
      elim (spot_cases c d (near c end far) is') [
        | inl same ↦ absurd (never (subst (λ (x : Channel). layout.far x ≡ Some (spot at w.entry)) same back))
        | inr other ↦ (others, queue_there flow c d ps (near c end far) is' other ∙ queue)
      ]

  -- the first packet of c is gone
  dropped : (c end : Channel) (place : ℕ → Channel) (flow : FlowOf) → layout.far c ≡ Some end → But c place flow → But c place (with_queue c (drop 1 (queue_at flow c)) flow)
  dropped c end place flow far but =
      let is = near c end far in
      let ps = drop 1 (queue_at flow c) in
      let new = with_queue c ps flow in
      let size = but.rest.queues in
      record {
        rest = record {
          queues = length-set flow.queues (place_of c) ps ∙ size;
          waiting = but.rest.waiting;
          room = queue_each (λ d qs. length qs ≤ layout.most) flow c ps size is (let all = but.rest.room c is in omega (arith, length-drop 1 (queue_at flow c))) (λ d is' other. but.rest.room d is');
          moving = queue_each (λ d qs. All (ComesBy layout d) qs) flow c ps size is (All-drop (ComesBy layout c) 1 (queue_at flow c) (but.rest.moving c is)) (λ d is' other. but.rest.moving d is');
          waits = λ at k v below. still_there flow new at (get_or (waiting_at flow at) k v)
              (λ d e first. kept_first c end flow ps at (get_or (waiting_at flow at) k v) d far e (λ back. but.none (spot at (get_or (waiting_at flow at) k v).entry) back k v below refl) first)
              (but.rest.waits at k v below);
          in_queue = queue_each (λ d qs. All (IsIn known place d) qs) flow c ps size is (All-drop (IsIn known place c) 1 (queue_at flow c) (but.rest.in_queue c is)) (λ d is' other. but.rest.in_queue d is');
          starts = but.rest.starts;
          once = queue_each (λ d qs. AreApart qs) flow c ps size is (pairs_drop (queue_at flow c) (but.rest.once c is)) (λ d is' other. but.rest.once d is');
          apart = but.rest.apart;
        };
        firsts = λ d e other far'. same_firsts flow new e (queue_at new d) (λ at. refl) (subst (λ (qs : List PacketOf). FirstWaits flow e qs) (sym (queue_there flow c d ps is (near d e far') other)) (but.firsts d e other far'));
        none = but.none;
      }

  pub within : (waiting : List (List WaitOf)) (at i : ℕ) → i < length (get_or waiting at []) → at < length waiting
  within [] at i low = absurd (omega arith)
  within (ws ∷ waiting) zero i low = omega arith
  within (ws ∷ waiting) (suc at) i low = let rest = within waiting at i low in omega arith

  -- one that waits is let go
  without_rest : (place : ℕ → Channel) (flow : FlowOf) (at i : ℕ) → Rest place flow → i < length (waiting_at flow at) → Rest place (with_waiting at (remove (waiting_at flow at) i) flow)
  without_rest place flow at i rest below =
      let low : at < 127 = (let size = rest.waiting in let inside = within flow.waiting at i below in omega arith) in
      let ws = remove (waiting_at flow at) i in
      let new = with_waiting at ws flow in
      let same : (b : ℕ) (v : WaitOf) → WaitsThere layout flow b v → WaitsThere layout new b v = (λ b v is. still_there flow new b v (λ c e first. first) is) in
      record {
        queues = rest.queues;
        waiting = length-set flow.waiting at ws ∙ rest.waiting;
        room = rest.room;
        moving = rest.moving;
        waits = waiting_each (λ b vs. All (WaitsThere layout new b) vs) flow at ws rest.waiting low
            (all_remove (WaitsThere layout new at) (waiting_at flow at) i (All-weaker (WaitsThere layout flow at) (WaitsThere layout new at) (same at) (waiting_at flow at) (rest.waits at)))
            (λ b other. All-weaker (WaitsThere layout flow b) (WaitsThere layout new b) (same b) (waiting_at flow b) (rest.waits b));
        in_queue = rest.in_queue;
        starts = waiting_each (λ b vs. All (IsInIfStarts known place b) vs) flow at ws rest.waiting low (all_remove (IsInIfStarts known place at) (waiting_at flow at) i (rest.starts at)) (λ b other. rest.starts b);
        once = rest.once;
        apart = waiting_each (λ b vs. WaitApart vs) flow at ws rest.waiting low (all_pairs_remove (λ (a b : WaitOf). a.packet.packet ≢ b.packet.packet) (waiting_at flow at) i below (rest.apart at)) (λ b other. rest.apart b);
      }

  -- first packets wait as before, but for the one that was let go
  without_firsts : (flow : FlowOf) (at i : ℕ) (w : WaitOf) (end : Channel) (ps : List PacketOf) → length flow.waiting ≡ 127 → i < length (waiting_at flow at) → get_or (waiting_at flow at) i w ≡ w → (w.entry ≡ end.port → end.at ≡ at → ⊥) → FirstWaits flow end ps → FirstWaits (with_waiting at (remove (waiting_at flow at) i) flow) end ps
  without_firsts flow at i w end [] size below is never waits = waits
  without_firsts flow at i w end (p ∷ ps) size below is never waits = elim waits [
    | inl same ↦ inl same
    | inr has ↦ (
        let v : WaitOf = record { packet = p; entry = end.port } in
        let low : at < 127 = (let inside = within flow.waiting at i below in omega arith) in
        inr (waiting_each (λ b vs. Contains (waiting_at flow b) v → (b ≡ at → v ≡ w → ⊥) → Contains vs v) flow at (remove (waiting_at flow at) i) size low
        (λ own other. elim (contains_remove (waiting_at flow at) i w v below is own) [
          | inl same ↦ absurd (other refl same)
          | inr still ↦ still
        ])
        (λ b apart own other. own) end.at has
        (λ (same : end.at ≡ at) (one : v ≡ w). never (ap (λ (u : WaitOf). u.entry) (sym one)) same)))
  ]

  other_firsts : (flow : FlowOf) (at i : ℕ) (w : WaitOf) (c : Channel) → IsSound layout known flow → i < length (waiting_at flow at) → get_or (waiting_at flow at) i w ≡ w → layout.far (spot at w.entry) ≡ Some c → (d e : Channel) → d ≢ c → layout.far d ≡ Some e → FirstWaits (with_waiting at (remove (waiting_at flow at) i) flow) e (queue_at flow d)
  other_firsts flow at i w c sound below is by d e other far' =
      without_firsts flow at i w e (queue_at flow d) sound.waiting below is (λ same at_same.
      let here : layout.far (spot at e.port) ≡ Some c = subst (λ (q : ℕ). layout.far (spot at q) ≡ Some c) same by in
      let there : layout.far e ≡ Some c = subst (λ (a : ℕ). layout.far (spot a e.port) ≡ Some c) (sym at_same) here in
      other (same_Some d c (sym (wired.back d e far') ∙ there))) (sound.firsts d e far')

  one_first : (flow : FlowOf) (c : Channel) (a b : PacketOf) → IsFirst flow c a → IsFirst flow c b → a ≡ b
  one_first flow c a b (xs, e) (ys, f) = head_is (sym e ∙ f)
    where
      head_is : a ∷ xs ≡ b ∷ ys → a ≡ b
      head_is e = cc

  let_go : (flow : FlowOf) (at i : ℕ) (w : WaitOf) (c : Channel) → (sound : IsSound layout known flow) → i < length (waiting_at flow at) → get_or (waiting_at flow at) i w ≡ w → layout.far (spot at w.entry) ≡ Some c → But c sound.place (with_waiting at (remove (waiting_at flow at) i) flow)
  let_go flow at i w c sound below is by =
      let rest = rest_of flow sound in
      let new = with_waiting at (remove (waiting_at flow at) i) flow in
      let back = wired.back (spot at w.entry) c by in
      let low : at < 127 = (near (spot at w.entry) c by).at in
      let own = brought flow at w c by (subst (λ (v : WaitOf). WaitsThere layout flow at v) is (sound.waits at i w below)) in
      let entries : All (λ v. v.entry ≢ w.entry) (remove (waiting_at flow at) i) = (λ k v inside same.
      let all = all_remove (WaitsThere layout flow at) (waiting_at flow at) i (sound.waits at) k v inside in
      let other = get_or (remove (waiting_at flow at) i) k v in
      let first = brought flow at other c (subst (λ (q : ℕ). layout.far (spot at q) ≡ Some c) (sym same) by) all in
      apart_remove (waiting_at flow at) i w below is (sound.apart at) k v inside (ap (λ (p : PacketOf). p.packet) (one_first flow c other.packet w.packet first own))) in
      record {
        rest = without_rest sound.place flow at i rest below;
        firsts = λ d e other far'. other_firsts flow at i w c sound below is by d e other far';
        none = λ end far. (
            let same : spot at w.entry ≡ end = same_Some (spot at w.entry) end (sym back ∙ far) in
            subst (λ (e : Channel). All (λ v. v.entry ≢ e.port) (waiting_at new e.at)) same
            (subst (λ (ws : List WaitOf). All (λ v. v.entry ≢ w.entry) ws) (sym (waiting_here flow at (remove (waiting_at flow at) i) sound.waiting low)) entries));
      }

  -- a packet is in no channel, and starts nowhere
  pub record Gone (packet : ℕ) (flow : FlowOf) : Type 0 where
    pub queues : (d : Channel) → IsSpot d → All (λ p. p.packet ≢ packet) (queue_at flow d)
    pub starts : (b : ℕ) → All (λ v. v.entry ≡ 0 → v.packet.packet ≢ packet) (waiting_at flow b)

  -- what asking makes of a flow
  pub first_asks_is : (c end : Channel) (flow : FlowOf) → layout.far c ≡ Some end → (first_asks layout c flow ≡ flow) ⊎ ((w : WaitOf) × (w.entry ≡ end.port) × (first_asks layout c flow ≡ asks end.at w flow))
  first_asks_is c end flow far = elim (option_cases (first_of flow c)) [
    | inl none ↦ inl (rw (far, none) refl)
    | inr (p, first) ↦ elim (cases_eq end.at p.to) [
      | inl same ↦ (let test : (end.at == p.to) ≡ true = (grind (arith, nat_tests)) in inl (rw (far, first, test) refl))
      | inr other ↦ (let test : (end.at == p.to) ≡ false = (grind (arith, nat_tests)) in inr (record { packet = p; entry = end.port }, refl, rw (far, first, test) refl))
    ]
  ]

  gone_asks : (packet : ℕ) (c end : Channel) (flow : FlowOf) → layout.far c ≡ Some end → length flow.waiting ≡ 127 → Gone packet flow → Gone packet (first_asks layout c flow)
  gone_asks packet c end flow far size gone = elim (first_asks_is c end flow far) [
    | inl same ↦ subst (λ (f : FlowOf). Gone packet f) (sym same) gone
    | inr (w, entry, is) ↦ subst (λ (f : FlowOf). Gone packet f) (sym is) (record {
      queues = gone.queues;
      starts = waiting_each (λ b vs. All (λ v. v.entry ≡ 0 → v.packet.packet ≢ packet) vs) flow end.at (waiting_at flow end.at ++ (w ∷ [])) size (there c end far).at
          (All-push (λ v. v.entry ≡ 0 → v.packet.packet ≢ packet) (waiting_at flow end.at) w (gone.starts end.at) (λ first same. not_start end c end.at (wired.back c end far) (ap (λ (q : ℕ). spot end.at q) (sym entry ∙ first))))
          (λ b other. gone.starts b);
    })
  ]

  pub queue_kept : (c end d : Channel) (flow : FlowOf) → layout.far c ≡ Some end → queue_at (first_asks layout c flow) d ≡ queue_at flow d
  queue_kept c end d flow far = elim (first_asks_is c end flow far) [
    | inl same ↦ ap (λ (f : FlowOf). queue_at f d) same
    | inr (w, entry, is) ↦ ap (λ (f : FlowOf). queue_at f d) is
  ]

  -- one that waits has left where it was
  pub record Left (w : WaitOf) (old flow : FlowOf) : Type 0 where
    pub sound : IsSound layout known flow
    pub gone : Gone w.packet.packet flow
    pub fewer : (d : Channel) → IsSpot d → length (queue_at flow d) ≤ length (queue_at old d)

  moved_from : (place : ℕ → Channel) (flow : FlowOf) (d : Channel) → Rest place flow → IsSpot d → (k : ℕ) (p : PacketOf) → k < length (queue_at flow d) → (at : ℕ) → d ≡ spot at 0 → ⊥
  moved_from place flow d rest is k p below at same = let by = rest.moving d is k p below in not_start d by.0 at by.1 same

  left_start : (flow : FlowOf) (at i : ℕ) (w : WaitOf) → (sound : IsSound layout known flow) → i < length (waiting_at flow at) → get_or (waiting_at flow at) i w ≡ w → layout.far (spot at w.entry) ≡ None → Left w flow (with_waiting at (remove (waiting_at flow at) i) flow)
  left_start flow at i w sound below is none =
      let rest = rest_of flow sound in
      let new = with_waiting at (remove (waiting_at flow at) i) flow in
      let low : at < 127 = (let size = rest.waiting in let inside = within flow.waiting at i below in omega arith) in
      let first = starts_there flow at w none (subst (λ (v : WaitOf). WaitsThere layout flow at v) is (sound.waits at i w below)) in
      let mine = (subst (λ (v : WaitOf). IsInIfStarts known sound.place at v) is (sound.starts at i w below) first).1 in
      record {
        sound = sound_of sound.place new (without_rest sound.place flow at i rest below) (λ d e far'.
            without_firsts flow at i w e (queue_at flow d) sound.waiting below is (λ same at_same.
            let here : layout.far (spot at e.port) ≡ None = subst (λ (q : ℕ). layout.far (spot at q) ≡ None) same none in
            let gone : layout.far e ≡ None = subst (λ (a : ℕ). layout.far (spot a e.port) ≡ None) (sym at_same) here in
            let back = wired.back d e far' in
            absurd (cc)) (sound.firsts d e far'));
        gone = record {
          queues = λ d is' k p inside same. moved_from sound.place flow d rest is' k p inside at (sym (rest.in_queue d is' k p inside).1 ∙ ap sound.place same ∙ mine);
          starts = waiting_each (λ b vs. All (λ v. v.entry ≡ 0 → v.packet.packet ≢ w.packet.packet) vs) flow at (remove (waiting_at flow at) i) sound.waiting low
              (λ k v inside entry. apart_remove (waiting_at flow at) i w below is (sound.apart at) k v inside)
              (λ b other k v inside entry same. other (ap (λ (x : Channel). x.at) (sym (rest.starts b k v inside entry).1 ∙ ap sound.place same ∙ mine)));
        };
        fewer = λ d is'. omega arith;
      }

  left_channel : (flow : FlowOf) (at i : ℕ) (w : WaitOf) (c : Channel) → (sound : IsSound layout known flow) → i < length (waiting_at flow at) → get_or (waiting_at flow at) i w ≡ w → layout.far (spot at w.entry) ≡ Some c → Left w flow (leaves layout c (with_waiting at (remove (waiting_at flow at) i) flow))
  left_channel flow at i w c sound below is by =
      let rest = rest_of flow sound in
      let end = spot at w.entry in
      let back = wired.back end c by in
      let is_c = near c end back in
      let low : at < 127 = (near end c by).at in
      let one = with_waiting at (remove (waiting_at flow at) i) flow in
      let two = with_queue c (drop 1 (queue_at one c)) one in
      let own = brought flow at w c by (subst (λ (v : WaitOf). WaitsThere layout flow at v) is (sound.waits at i w below)) in
      let mine = in_place sound.place flow c w.packet rest is_c own in
      let but = dropped c end sound.place one back (let_go flow at i w c sound below is by) in
      let gone : Gone w.packet.packet two = record {
        queues = queue_each (λ d qs. All (λ p. p.packet ≢ w.packet.packet) qs) one c (drop 1 (queue_at one c)) sound.queues is_c
            (later flow c w.packet own (sound.once c is_c))
            (λ d is' other k p inside same. other (sym (rest.in_queue d is' k p inside).1 ∙ ap sound.place same ∙ mine));
        starts = waiting_each (λ b vs. All (λ v. v.entry ≡ 0 → v.packet.packet ≢ w.packet.packet) vs) flow at (remove (waiting_at flow at) i) sound.waiting low
            (all_remove (λ v. v.entry ≡ 0 → v.packet.packet ≢ w.packet.packet) (waiting_at flow at) i (λ k v inside entry same. not_start c end at back (sym mine ∙ ap sound.place (sym same) ∙ (rest.starts at k v inside entry).1)))
            (λ b other k v inside entry same. not_start c end b back (sym mine ∙ ap sound.place (sym same) ∙ (rest.starts b k v inside entry).1));
      } in
      record {
        sound = asks_sound c end sound.place two back but;
        gone = gone_asks w.packet.packet c end two back but.rest.waiting gone;
        fewer = λ d is'. (
            let kept = ap length (queue_kept c end d two back) in
            let less : length (queue_at two d) ≤ length (queue_at flow d) = queue_each (λ x qs. length qs ≤ length (queue_at flow x)) one c (drop 1 (queue_at one c)) sound.queues is_c (omega (arith, length-drop 1 (queue_at one c))) (λ x is'' other. omega arith) d is' in
            omega arith);
      }
    where
      later : (flow : FlowOf) (c : Channel) (p : PacketOf) → IsFirst flow c p → AreApart (queue_at flow c) → All (λ q. q.packet ≢ p.packet) (drop 1 (queue_at flow c))
      later flow c p (others, queue) apart =
          let all : AreApart (p ∷ others) = subst (λ (qs : List PacketOf). AreApart qs) queue apart in
          subst (λ (qs : List PacketOf). All (λ q. q.packet ≢ p.packet) (drop 1 qs)) (sym queue) (λ k d below same. all zero (suc k) d (omega arith) (omega arith) (sym same))

  pub left_by : (flow : FlowOf) (at i : ℕ) (w : WaitOf) → (sound : IsSound layout known flow) → i < length (waiting_at flow at) → get_or (waiting_at flow at) i w ≡ w → Left w flow (leaves_by layout (layout.far (spot at w.entry)) (with_waiting at (remove (waiting_at flow at) i) flow))
  left_by flow at i w sound below is =
      let one = with_waiting at (remove (waiting_at flow at) i) flow in
      elim (option_cases (layout.far (spot at w.entry))) [
        | inl none ↦ subst (λ (o : Option Channel). Left w flow (leaves_by layout o one)) (sym none) (left_start flow at i w sound below is none)
        | inr (c, by) ↦ subst (λ (o : Option Channel). Left w flow (leaves_by layout o one)) (sym by) (left_channel flow at i w c sound below is by)
      ]

  -- a packet comes into a channel
  place_with : (ℕ → Channel) → ℕ → Channel → ℕ → Channel
  place_with place packet d j = if j == packet then d else place j

  module _ (d e : Channel) (p : PacketOf) (flow : FlowOf) (far : layout.far d ≡ Some e) (sound : IsSound layout known flow) (gone : Gone p.packet flow) (is_known : Contains known p.packet) (on : IsOnWay layout p.to e) (room : length (queue_at flow d) < layout.most) where
    is_d : IsSpot d
    is_d = near d e far

    new_place : ℕ → Channel
    unfolding place_with
    new_place = place_with sound.place p.packet d

    place_here : new_place p.packet ≡ d
    unfolding new_place place_with
    place_here = let test : (p.packet == p.packet) ≡ true = same_test p.packet in rw test refl
      where
        same_test : (n : ℕ) → (n == n) ≡ true
        same_test n = grind (arith, nat_tests)

    place_there : (j : ℕ) (c : Channel) → j ≢ p.packet → sound.place j ≡ c → new_place j ≡ c
    unfolding new_place place_with
    place_there j c other is = let test : (j == p.packet) ≡ false = (grind (arith, nat_tests)) in rw test is

    packets : List PacketOf
    packets = queue_at flow d ++ (p ∷ [])

    added : FlowOf
    unfolding packets
    added = with_queue d packets flow

    grown : (c : Channel) (w : WaitOf) (at : ℕ) → layout.far (spot at w.entry) ≡ Some c → IsFirst flow c w.packet → IsFirst (with_queue d (queue_at flow d ++ (p ∷ [])) flow) c w.packet
    grown c w at by (others, queue) =
        let is' = near c (spot at w.entry) (wired.back (spot at w.entry) c by) in
        elim (spot_cases d c is_d is') [
          | inl same ↦ (
            others ++ (p ∷ []),
            subst (λ (x : Channel). queue_at (with_queue d (queue_at flow d ++ (p ∷ [])) flow) x ≡ w.packet ∷ (others ++ (p ∷ []))) (sym same)
                (queue_here flow d (queue_at flow d ++ (p ∷ [])) sound.queues is_d ∙ ap (λ (qs : List PacketOf). qs ++ (p ∷ [])) (subst (λ (x : Channel). queue_at flow x ≡ w.packet ∷ others) same queue)),
          )
          | inr other ↦ (others, queue_there flow d c (queue_at flow d ++ (p ∷ [])) is_d is' other ∙ queue)
        ]

    added_rest : Rest new_place (with_queue d (queue_at flow d ++ (p ∷ [])) flow)
    added_rest =
        let qs = queue_at flow d ++ (p ∷ []) in
        let new = with_queue d qs flow in
        let keep : (c : Channel) → IsSpot c → All (IsIn known new_place c) (queue_at flow c) = (λ c is' k q below. (
          (sound.in_queue c is' k q below).0,
          place_there (get_or (queue_at flow c) k q).packet c (gone.queues c is' k q below) (sound.in_queue c is' k q below).1,
        )) in
        record {
          queues = length-set flow.queues (place_of d) qs ∙ sound.queues;
          waiting = sound.waiting;
          room = queue_each (λ c xs. length xs ≤ layout.most) flow d qs sound.queues is_d (omega (arith, length-append (queue_at flow d) (p ∷ []))) (λ c is' other. sound.room c is');
          moving = queue_each (λ c xs. All (ComesBy layout c) xs) flow d qs sound.queues is_d (All-push (ComesBy layout d) (queue_at flow d) p (sound.moving d is_d) (e, far, on)) (λ c is' other. sound.moving c is');
          waits = λ at k v below. still_there flow new at (get_or (waiting_at flow at) k v) (λ c by first. grown c (get_or (waiting_at flow at) k v) at by first) (sound.waits at k v below);
          in_queue = queue_each (λ c xs. All (IsIn known new_place c) xs) flow d qs sound.queues is_d (All-push (IsIn known new_place d) (queue_at flow d) p (keep d is_d) (is_known, place_here)) (λ c is' other. keep c is');
          starts = λ at k v below entry. (
            (sound.starts at k v below entry).0,
            place_there (get_or (waiting_at flow at) k v).packet.packet (spot at 0) (gone.starts at k v below entry) (sound.starts at k v below entry).1,
          );
          once = queue_each (λ c xs. AreApart xs) flow d qs sound.queues is_d (all_pairs_push (λ (a b : PacketOf). a.packet ≢ b.packet) (queue_at flow d) p (sound.once d is_d) (λ k q below. gone.queues d is_d k q below)) (λ c is' other. sound.once c is');
          apart = sound.apart;
        }

    others_wait : (c end : Channel) → c ≢ d → layout.far c ≡ Some end → FirstWaits (with_queue d (queue_at flow d ++ (p ∷ [])) flow) end (queue_at (with_queue d (queue_at flow d ++ (p ∷ [])) flow) c)
    others_wait c end other far' =
        let qs = queue_at flow d ++ (p ∷ []) in
        same_firsts flow (with_queue d qs flow) end (queue_at (with_queue d qs flow) c) (λ at. refl)
        (subst (λ (xs : List PacketOf). FirstWaits flow end xs) (sym (queue_there flow d c qs is_d (near c end far') other)) (sound.firsts c end far'))

    come_behind : (x : PacketOf) (xs : List PacketOf) → queue_at flow d ≡ x ∷ xs → IsSound layout known (with_queue d (queue_at flow d ++ (p ∷ [])) flow)
    come_behind x xs some =
        let qs = queue_at flow d ++ (p ∷ []) in
        let new = with_queue d qs flow in
        let all : queue_at new d ≡ x ∷ (xs ++ (p ∷ [])) = queue_here flow d qs sound.queues is_d ∙ ap (λ (ys : List PacketOf). ys ++ (p ∷ [])) some in
        let first : FirstWaits flow e (x ∷ xs) = subst (λ (ys : List PacketOf). FirstWaits flow e ys) some (sound.firsts d e far) in
        sound_of new_place new added_rest (firsts_with new d e far others_wait (subst (λ (ys : List PacketOf). FirstWaits new e ys) (sym all) (same_firsts flow new e (x ∷ (xs ++ (p ∷ []))) (λ at. refl) first)))

    come_first : queue_at flow d ≡ [] → IsSound layout known (first_asks layout d (with_queue d (queue_at flow d ++ (p ∷ [])) flow))
    come_first none =
        let new = with_queue d (queue_at flow d ++ (p ∷ [])) flow in
        asks_sound d e new_place new far (record {
          rest = added_rest;
          firsts = λ c end other far'. others_wait c end other far';
          none = λ end far' k v below same. (
              let w = get_or (waiting_at flow end.at) k v in
              let at_end : layout.far (spot end.at w.entry) ≡ Some d = subst (λ (q : ℕ). layout.far (spot end.at q) ≡ Some d) (sym same) (wired.back d end far') in
              let first = brought flow end.at w d at_end (sound.waits end.at k v below) in
              nothing first.0 w.packet (sym none ∙ first.1));
        })
      where
        nothing : (xs : List PacketOf) (x : PacketOf) → [] ≡ x ∷ xs → ⊥
        nothing xs x e = absurd (cc)

    come_sound : IsSound layout known (comes_into layout d p flow)
    come_sound = elim (list_cases (queue_at flow d)) [
      | inl none ↦ (
          let is : comes_into layout d p flow ≡ first_asks layout d (with_queue d (queue_at flow d ++ (p ∷ [])) flow) = rw none refl in
          subst (λ (f : FlowOf). IsSound layout known f) (sym is) (come_first none))
      | inr (x, xs, some) ↦ (
          let count : length (queue_at flow d) ≡ suc (length xs) = ap length some in
          let test : (length (queue_at flow d) == 0) ≡ false = (grind (arith, nat_tests)) in
          let is : comes_into layout d p flow ≡ with_queue d (queue_at flow d ++ (p ∷ [])) flow = rw test refl in
          subst (λ (f : FlowOf). IsSound layout known f) (sym is) (come_behind x xs some))
    ]

  pub got : (ws : List WaitOf) (i : ℕ) (w : WaitOf) → slice_get ws i ≡ Some w → (i < length ws) × (get_or ws i w ≡ w)
  got [] i w e = absurd (cc)
  got (x ∷ ws) zero w e = (omega arith, same_Some x w e)
  got (x ∷ ws) (suc i) w e = let rest = got ws i w e in (omega (arith, rest.0), rest.1)

  walk_end : (Step : Channel → Channel → Type 0) (n : ℕ) (a b c : Channel) → Walk Step n a b → Step b c → Walk Step (suc n) a c
  walk_end Step zero a b c same step = (c, subst (λ (x : Channel). Step x c) (sym same) step, refl)
  walk_end Step (suc n) a b c (d, first, rest) step = (d, first, walk_end Step n d b c rest step)

  -- who waits is known
  pub wait_known : (flow : FlowOf) (at : ℕ) (w : WaitOf) → (sound : IsSound layout known flow) → WaitsThere layout flow at w → IsInIfStarts known sound.place at w → Contains known w.packet.packet
  wait_known flow at w sound there one = elim (option_cases (layout.far (spot at w.entry))) [
    | inl none ↦ (one (starts_there flow at w none there)).0
    | inr (c, by) ↦ (
        let first = brought flow at w c by there in
        let is = near c (spot at w.entry) (wired.back (spot at w.entry) c by) in
        (All-head (IsIn known sound.place c) w.packet first.0 (subst (λ (ps : List PacketOf). All (IsIn known sound.place c) ps) first.1 (sound.in_queue c is))).0)
  ]

  -- a move leaves all sound
  pub go_sound : (flow : FlowOf) (at i port : ℕ) → IsSound layout known flow → CanGo layout flow at i port → IsSound layout known (goes layout at i port (slice_get (waiting_at flow at) i) flow)
  go_sound flow at i port sound can =
      let w = can.wait in
      let g = got (waiting_at flow at) i w can.there in
      let waits : WaitsThere layout flow at w = subst (λ (v : WaitOf). WaitsThere layout flow at v) g.1 (sound.waits at i w g.0) in
      let one : IsInIfStarts known sound.place at w = subst (λ (v : WaitOf). IsInIfStarts known sound.place at v) g.1 (sound.starts at i w g.0) in
      let left = left_by flow at i w sound g.0 g.1 in
      let d = spot at port in
      let end = can.room.0 in
      let step : GoesOn layout.far layout.rows w.packet.to (spot at w.entry) end = record { before = waits.0; exit = port; has = exit_has layout (spot at w.entry) w.packet.to port can.named; link = can.room.1 } in
      let on : IsOnWay layout w.packet.to end = record {
        from = waits.1.from;
        from_in = waits.1.from_in;
        to_in = waits.1.to_in;
        apart = waits.1.apart;
        steps = suc waits.1.steps;
        walk = walk_end (GoesOn layout.far layout.rows w.packet.to) waits.1.steps (spot waits.1.from 0) (spot at w.entry) end waits.1.walk step;
      } in
      let fewer = left.fewer d (near d end can.room.1) in
      let has_room = can.room.2 in
      let done = come_sound d end w.packet (leaves_by layout (layout.far (spot at w.entry)) (with_waiting at (remove (waiting_at flow at) i) flow)) can.room.1 left.sound left.gone (wait_known flow at w sound waits one) on (omega arith) in
      subst (λ (o : Option WaitOf). IsSound layout known (goes layout at i port o flow)) (sym can.there) done

  pub arrive_sound : (flow : FlowOf) (c : Channel) → IsSound layout known flow → CanArrive layout flow c → IsSound layout known (leaves layout c flow)
  arrive_sound flow c sound (packet, entry, first, far) =
      let end = spot packet.to entry in
      let own : IsFirst flow c packet = first_in (queue_at flow c) packet first in
      let but : But c sound.place flow = record {
        rest = rest_of flow sound;
        firsts = λ d e other far'. sound.firsts d e far';
        none = λ e far' k v below same. (
            let w = get_or (waiting_at flow e.at) k v in
            let by : layout.far (spot e.at w.entry) ≡ Some c = subst (λ (q : ℕ). layout.far (spot e.at q) ≡ Some c) (sym same) (wired.back c e far') in
            let waits = sound.waits e.at k v below in
            let is = one_first flow c w.packet packet (brought flow e.at w c by waits) own in
            let end_is : e ≡ end = same_Some e end (sym far' ∙ far) in
            waits.0 (ap (λ (x : Channel). x.at) end_is ∙ ap (λ (p : PacketOf). p.to) (sym is)));
      } in
      asks_sound c end sound.place (with_queue c (drop 1 (queue_at flow c)) flow) far (dropped c end sound.place flow far but)

  move_sound : (flow : FlowOf) (move : Move) → IsSound layout known flow → IsPossible layout flow move → IsSound layout known (after layout move flow)
  move_sound flow (Arrives c) sound can = arrive_sound flow c sound can
  move_sound flow (Goes at i port) sound can = go_sound flow at i port sound can

  pub turn_sound : (old new : FlowOf) (went : Went) → IsSound layout known old → IsTurn layout old went new → IsSound layout known new
  turn_sound old new went sound turn = subst (λ (f : FlowOf). IsSound layout known f) (sym turn.after_is) (move_sound old turn.move sound turn.next.possible)

module _ (layout : LayoutOf) (wired : IsWired layout) (known : List ℕ) (packet from to : ℕ) (flow : FlowOf) (sound : IsSound layout known flow) (new : Contains known packet → ⊥) (from_in : Contains layout.numbers from) (to_in : Contains layout.numbers to) (apart : from ≢ to) where
  abbrev all_known : List ℕ
  all_known = packet ∷ known

  abbrev place_now : ℕ → Channel
  place_now j = if j == packet then spot from 0 else sound.place j

  more_known : (x : ℕ) → Contains known x → Contains (packet ∷ known) x
  more_known x (k, low, is) = (suc k, omega arith, is)

  old_place : (j : ℕ) (c : Channel) → Contains known j → sound.place j ≡ c → place_now j ≡ c
  old_place j c has is =
      let other : j ≢ packet = (λ (same : j ≡ packet). new (subst (λ (x : ℕ). Contains known x) same has)) in
      let test : (j == packet) ≡ false = (grind (arith, nat_tests)) in
      rw test is

  own_place : place_now packet ≡ spot from 0
  own_place = let test : (packet == packet) ≡ true = (grind (arith, nat_tests)) in rw test refl

  entered_rest : Rest layout wired (packet ∷ known) place_now flow
  entered_rest = record {
    queues = sound.queues;
    waiting = sound.waiting;
    room = sound.room;
    moving = sound.moving;
    waits = sound.waits;
    in_queue = λ c is k p below. (let old = sound.in_queue c is k p below in (more_known (get_or (queue_at flow c) k p).packet old.0, old_place (get_or (queue_at flow c) k p).packet c old.0 old.1));
    starts = λ at k v below entry. (let old = sound.starts at k v below entry in (more_known (get_or (waiting_at flow at) k v).packet.packet old.0, old_place (get_or (waiting_at flow at) k v).packet.packet (spot at 0) old.0 old.1));
    once = sound.once;
    apart = sound.apart;
  }

  pub enter_sound : IsSound layout (packet ∷ known) (enters packet from to flow)
  enter_sound =
      let w : WaitOf = record { packet = record { packet = packet; to = to }; entry = 0 } in
      let low = wired.low from from_in in
      let on : IsOnWay layout to (spot from 0) = record { from = from; from_in = from_in; to_in = to_in; apart = apart; steps = 0; walk = refl } in
      let waits : WaitsThere layout flow from w = (apart, on, subst (λ (o : Option Channel). IsBroughtBy flow w o) (sym (wired.start from)) refl) in
      let one : IsInIfStarts (packet ∷ known) place_now from w = (λ entry. ((zero, omega arith, refl), own_place)) in
      let other : All (λ v. v.packet.packet ≢ packet) (waiting_at flow from) = (λ k v below same.
      new (subst (λ (x : ℕ). Contains known x) same (wait_known layout wired known flow from (get_or (waiting_at flow from) k v) sound (sound.waits from k v below) (sound.starts from k v below)))) in
      sound_of layout wired (packet ∷ known) place_now (enters packet from to flow)
      (asks_rest layout wired (packet ∷ known) place_now flow from w low entered_rest waits one other)
      (λ c end far. asks_firsts layout wired (packet ∷ known) flow from w end (queue_at flow c) sound.waiting low (sound.firsts c end far))

-- nothing is on its way at first
empty_list : {A : Type 0} (n k : ℕ) (nil : A) → get_or (replicate n nil) k nil ≡ nil
empty_list zero k nil = refl
empty_list (suc n) zero nil = refl
empty_list (suc n) (suc k) nil = empty_list n k nil

no_packets : (c : Channel) → queue_at empty_flow c ≡ []
no_packets c = empty_list 1651 (place_of c) []

no_waits : (at : ℕ) → waiting_at empty_flow at ≡ []
no_waits at = empty_list 127 at []

pub start_sound : (layout : LayoutOf) → IsSound layout [] empty_flow
start_sound layout = record {
  queues = length-replicate {A = List PacketOf} 1651 [];
  waiting = length-replicate {A = List WaitOf} 127 [];
  room = λ c is. subst (λ (ps : List PacketOf). length ps ≤ layout.most) (sym (no_packets c)) (omega arith);
  moving = λ c is. subst (λ (ps : List PacketOf). All (ComesBy layout c) ps) (sym (no_packets c)) (All-nil (ComesBy layout c));
  firsts = λ c end far. subst (λ (ps : List PacketOf). FirstWaits empty_flow end ps) (sym (no_packets c)) tt;
  waits = λ at. subst (λ (ws : List WaitOf). All (WaitsThere layout empty_flow at) ws) (sym (no_waits at)) (All-nil (WaitsThere layout empty_flow at));
  place = λ j. spot 0 0;
  in_queue = λ c is. subst (λ (ps : List PacketOf). All (IsIn [] (λ j. spot 0 0) c) ps) (sym (no_packets c)) (All-nil (IsIn [] (λ j. spot 0 0) c));
  starts = λ at. subst (λ (ws : List WaitOf). All (IsInIfStarts [] (λ j. spot 0 0) at) ws) (sym (no_waits at)) (All-nil (IsInIfStarts [] (λ j. spot 0 0) at));
  once = λ c is. subst (λ (ps : List PacketOf). AreApart ps) (sym (no_packets c)) (λ i j d less low. absurd (omega arith));
  apart = λ at. subst (λ (ws : List WaitOf). WaitApart ws) (sym (no_waits at)) (λ i j d less low. absurd (omega arith));
}

pub comes_sound : (layout : LayoutOf) (limit : ℕ) (acts : List Act) (flow : FlowOf) → IsWired layout → Comes layout limit acts flow → IsSound layout (entered acts) flow
comes_sound layout limit [] flow wired same = subst (λ (f : FlowOf). IsSound layout [] f) (sym same) (start_sound layout)
comes_sound layout limit (Enter packet from to ∷ acts) flow wired (old, comes, may, is) =
    let before = comes_sound layout limit acts old wired comes in
    subst (λ (f : FlowOf). IsSound layout (packet ∷ entered acts) f) (sym is) (enter_sound layout wired (entered acts) packet from to old before may.new may.from_in may.to_in may.apart)
comes_sound layout limit (Make move went ∷ acts) flow wired (old, comes, possible, went_is, is) =
    subst (λ (f : FlowOf). IsSound layout (entered acts) f) (sym is) (move_sound layout wired (entered acts) old move (comes_sound layout limit acts old wired comes) possible)
