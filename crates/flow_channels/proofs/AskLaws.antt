-- Who may ask: where a flow is sound once a packet has asked, it waited nowhere before, and has exits.
use Rattle.std.proofs.Common.{◌≡◌, ◌≢◌, ◌∙◌, sym, ap, subst, refl, ℕ, ◌<◌, ◌≤◌, List, [], ◌∷◌, ◌++◌, Some, arith, length, get_or, inl, inr}
use Rattle.std.specs.Prelude.{All, Contains, ◌⊎◌}
use Rattle.std.proofs.lemmas.Bool.{cases_eq}
use Rattle.std.proofs.lemmas.List.{get_or_append_left, get_or_push, length_push, length-set}
use Rattle.std.proofs.lemmas.List.Elements.{All-head, Contains-get_or}
use Rattle.std.proofs.lemmas.Option.{same_Some}
use Rattle.an_base.specs.Rows.{ArePorts}
use Rattle.dep_check.specs.declared.channel.Channel.{Channel}
use Rattle.dep_check.specs.Packets.{AllAreJoined}
use Rattle.dep_check.proofs.SpotLemmas.{option_cases}
use Rattle.flow_channels.specs.Layout.{LayoutOf, spot, exits_of, IsWired}
use Rattle.flow_channels.specs.Flows.{FlowOf, PacketOf, WaitOf, asks, waiting_at}
use Rattle.flow_channels.specs.Sound.{IsSound, IsIn, IsInIfStarts, WaitApart, WaitsThere}
use Rattle.flow_channels.proofs.ExitLemmas.{Exit, exit_has, has_way_on, no_gap}
use Rattle.flow_channels.proofs.FewLaws.{few_waiting}
use Rattle.flow_channels.proofs.SoundLaws.{brought, near, not_start, starts_there}
use Rattle.flow_channels.proofs.StateLemmas.{waiting_here, waiting_there}

module _ (layout : LayoutOf) (wired : IsWired layout) (joined : AllAreJoined layout.far layout.numbers layout.rows) (known : List ℕ) where
  -- one that waits at two switches waits at one
  record IsAt (sound_place : ℕ → Channel) (at : ℕ) (w : WaitOf) : Type 0 where
    channel : Channel
    place : sound_place w.packet.packet ≡ channel
    is : (channel ≡ spot at 0) ⊎ (layout.far channel ≡ Some (spot at w.entry))

  at_of : (flow : FlowOf) (at : ℕ) (w : WaitOf) → (sound : IsSound layout known flow) → WaitsThere layout flow at w → IsInIfStarts known sound.place at w → IsAt sound.place at w
  at_of flow at w sound there one = elim (option_cases (layout.far (spot at w.entry))) [
    | inl none ↦ record { channel = spot at 0; place = (one (starts_there layout wired known flow at w none there)).1; is = inl refl }
    | inr (c, by) ↦ (
        let first = brought layout wired known flow at w c by there in
        let back = wired.back (spot at w.entry) c by in
        let own = All-head (IsIn known sound.place c) w.packet first.0 (subst (λ (ps : List PacketOf). All (IsIn known sound.place c) ps) first.1 (sound.in_queue c (near layout wired known c (spot at w.entry) back))) in
        record { channel = c; place = own.1; is = inr back })
  ]

  one_switch : (c : Channel) (a b : ℕ) (v w : WaitOf) → (c ≡ spot a 0) ⊎ (layout.far c ≡ Some (spot a v.entry)) → (c ≡ spot b 0) ⊎ (layout.far c ≡ Some (spot b w.entry)) → a ≡ b
  one_switch c a b v w (inl e) (inl f) = ap (λ (s : Channel). s.at) (sym e ∙ f)
  one_switch c a b v w (inl e) (inr f) = absurd (not_start layout wired known c (spot b w.entry) a f e)
  one_switch c a b v w (inr e) (inl f) = absurd (not_start layout wired known c (spot a v.entry) b e f)
  one_switch c a b v w (inr e) (inr f) = ap (λ (s : Channel). s.at) (same_Some (spot a v.entry) (spot b w.entry) (sym e ∙ f))

  pub waits_once : (flow : FlowOf) (a b : ℕ) (v w : WaitOf) → (sound : IsSound layout known flow) → WaitsThere layout flow a v → IsInIfStarts known sound.place a v → WaitsThere layout flow b w → IsInIfStarts known sound.place b w → v.packet.packet ≡ w.packet.packet → a ≡ b
  waits_once flow a b v w sound there one there' one' same =
      let x = at_of flow a v sound there one in
      let y = at_of flow b w sound there' one' in
      let c : y.channel ≡ x.channel = sym y.place ∙ ap sound.place (sym same) ∙ x.place in
      one_switch x.channel a b v w x.is (subst (λ (d : Channel). (d ≡ spot b 0) ⊎ (layout.far d ≡ Some (spot b w.entry))) c y.is)

  module _ (flow : FlowOf) (at : ℕ) (w : WaitOf) (low : at < 127) (sound : IsSound layout known (asks at w flow)) where
    size : length flow.waiting ≡ 127
    size = sym (length-set flow.waiting at (waiting_at flow at ++ (w ∷ []))) ∙ sound.waiting

    pub asked_list : waiting_at (asks at w flow) at ≡ waiting_at flow at ++ (w ∷ [])
    asked_list = waiting_here flow at (waiting_at flow at ++ (w ∷ [])) size low

    pub room_left : length (waiting_at flow at) < length known
    room_left =
        let most = few_waiting layout known (asks at w flow) at wired sound in
        let n = ap (λ (ws : List WaitOf). length ws) asked_list ∙ length_push (waiting_at flow at) w in
        omega arith

    last_is : get_or (waiting_at (asks at w flow) at) (length (waiting_at flow at)) w ≡ w
    last_is = ap (λ (ws : List WaitOf). get_or ws (length (waiting_at flow at)) w) asked_list ∙ get_or_push (waiting_at flow at) w w (length (waiting_at flow at)) refl

    last_low : length (waiting_at flow at) < length (waiting_at (asks at w flow) at)
    last_low = let n = ap (λ (ws : List WaitOf). length ws) asked_list ∙ length_push (waiting_at flow at) w in omega arith

    pub it_waits : WaitsThere layout (asks at w flow) at w
    it_waits = subst (λ (v : WaitOf). WaitsThere layout (asks at w flow) at v) last_is (sound.waits at (length (waiting_at flow at)) w last_low)

    it_is_one : IsInIfStarts known sound.place at w
    it_is_one = subst (λ (v : WaitOf). IsInIfStarts known sound.place at v) last_is (sound.starts at (length (waiting_at flow at)) w last_low)

    pub way_on : Exit layout (spot at w.entry) w.packet.to
    way_on = has_way_on layout wired joined w.packet.to (spot at w.entry) it_waits.1 it_waits.0

    pub has_exits : 1 ≤ length (exits_of layout (spot at w.entry) w.packet.to)
    has_exits =
        let low' = way_on.named.1 in
        omega arith

    pub exits_are_ports : ArePorts (exits_of layout (spot at w.entry) w.packet.to)
    exits_are_ports k d below =
        let port = get_or (exits_of layout (spot at w.entry) w.packet.to) k d in
        let named : Contains (exits_of layout (spot at w.entry) w.packet.to) port = Contains-get_or (exits_of layout (spot at w.entry) w.packet.to) k d below in
        elim (option_cases (layout.far (spot at port))) [
          | inl none ↦ absurd (no_gap layout wired joined w.packet.to (spot at w.entry) it_waits.1 (record { before = it_waits.0; gap = inr (port, exit_has layout (spot at w.entry) w.packet.to port named, none) }))
          | inr (end, link) ↦ (
              let is = (wired.near (spot at port) end link).port in
              let some : port ≢ 0 = (λ (zero_is : port ≡ 0). not_start layout wired known (spot at port) end at link (ap (λ (p : ℕ). spot at p) zero_is)) in
              (omega arith, omega arith))
        ]

    not_here : All (λ v. v.packet.packet ≢ w.packet.packet) (waiting_at flow at)
    not_here k d below same =
        let ws = waiting_at flow at in
        let pairs : WaitApart (ws ++ (w ∷ [])) = subst (λ (vs : List WaitOf). WaitApart vs) asked_list (sound.apart at) in
        let n = length_push ws w in
        pairs k (length ws) d below (omega arith) (
        ap (λ (v : WaitOf). v.packet.packet) (get_or_append_left ws (w ∷ []) d k below)
        ∙ same
        ∙ ap (λ (v : WaitOf). v.packet.packet) (sym (get_or_push ws w d (length ws) refl)))

    not_there : (b : ℕ) → b ≢ at → All (λ v. v.packet.packet ≢ w.packet.packet) (waiting_at flow b)
    not_there b other k d below same =
        let list = waiting_there flow at b (waiting_at flow at ++ (w ∷ [])) other in
        let v = get_or (waiting_at flow b) k d in
        let there = subst (λ (vs : List WaitOf). All (WaitsThere layout (asks at w flow) b) vs) list (sound.waits b) k d below in
        let one = subst (λ (vs : List WaitOf). All (IsInIfStarts known sound.place b) vs) list (sound.starts b) k d below in
        other (waits_once (asks at w flow) b at v w sound there one it_waits it_is_one same)

    pub waits_nowhere : (b : ℕ) → All (λ v. v.packet.packet ≢ w.packet.packet) (waiting_at flow b)
    waits_nowhere b = elim (cases_eq b at) [
      | inl here ↦ subst (λ (x : ℕ). All (λ v. v.packet.packet ≢ w.packet.packet) (waiting_at flow x)) (sym here) not_here
      | inr other ↦ not_there b other
    ]
