-- The wires stay sound with whatever happens.

use Rattle.std.specs.Prelude.{◌≡◌, ◌⊎◌, ◌+◌, ◌*◌, ◌/◌, ◌%◌, ◌<◌, ◌≤◌, ℕ, not, nat_lt, length, cond, replicate, slice_set, take, drop, List, [], ◌∷◌, ◌++◌, All, IfSome, Option, Some, None, Bool, true, false, refl}
use Rattle.std.specs.List.{sum_by}
use Rattle.std.proofs.Common.{true≢false, sym, ◌∙◌, ap, subst, inl, inr, arith}
use Rattle.std.proofs.lemmas.Bool.{cond_both, cases_eq, cases_lt, and_parts, ltb-true, ltb-false}
use Rattle.std.proofs.lemmas.List.{get_or-set_other, get_or-set_same, get_or_past, length-set, length-replicate, set_past, get_or-replicate}
use Rattle.std.proofs.lemmas.List.Sums.{sum_by-set}
use Rattle.std.proofs.lemmas.List.Folds.{sum_by-replicate}
use Rattle.std.proofs.lemmas.List.FromFn.{length-map-range_with_len}
use Rattle.std.proofs.lemmas.List.Elements.{All-nil, All-push, All-take, All-drop, All-append, All-get_or}
use Rattle.an_base.specs.declared.frame.Frame.{Frame}
use Rattle.an_base.specs.declared.frame.Frame.TheVariants.{Carry, Ack, Probe, Reply}
use Rattle.net_graph.specs.declared.wiring.Far.{Far}
use Rattle.net_graph.specs.declared.wiring.Far.TheVariants.{Switch, HostAt}
use Rattle.net_graph.specs.Wires.{far_at, IsWithin}
use Rattle.net_graph.proofs.TableLemmas.{far_within}
use Rattle.net_script.specs.Scripts.{ScriptOf, IsScript}
use Rattle.frame_region.specs.Sizes.{blocks_of}
use Rattle.frame_codec.specs.Spelling.{spelling}
use Rattle.wire_set.specs.declared.side.Side.{Side}
use Rattle.wire_set.specs.Frames.{FramesOf, frames_at, frame, with_frames, append_to, put_frame, clear, move_first, move_second, occupied, blocks_in}
use Rattle.wire_set.proofs.FrameLemmas.{occupied_append, occupied_first, occupied_second}
use Rattle.wire_set.proofs.WireLemmas.{link_below, port_is, wired_side}
use Rattle.wire_set.proofs.WireLemmas.{far_within as far_place_within}
use Rattle.wire_set.proofs.AgreeLemmas.{side_agrees, frames_agree, fail_agrees, repair_agrees, start_agrees}
use Rattle.wire_set.specs.WireState.{WiresOf, is_link, wire_out, place, side_at, side_of, wire_at, with_side, less_to_lose, less_again, put_into, is_second, less_to_swap, held_from, taken_frame, is_copied, before_copy, take_from, far_place, release_from, with_up, link_set, wires_cleared, fail_at, repair_at, HaveSameFarEnds}
use Rattle.switch_core.specs.Steps.{Sent}
use Rattle.switch_core.specs.Bytes.{BytesOut, spelled_out, all_spelled}
use Rattle.net_state.specs.Effects.{put_out, all_put_out}
use Rattle.net_state.specs.Fits.{wires_at_first, IsWireOrHand, QueueFits, AreFramesSound, AreWiresSound}
use Rattle.net_state.proofs.QueueLemmas.{AreFarPorts, put_out_fars}
use Rattle.wire_set.proofs.FarLemmas.{fars_then}

-- The wiring at first: a link joins external ports of switches that are there
side_first : (script : ScriptOf) (at : ℕ) → at < 13 * length script.wires.switches → side_at (wires_at_first script) at ≡ side_of (far_at script.wires (at / 13) (at % 13))
side_first script at below =
    ap (side_at (wires_at_first script)) {x = at} {y = place (at / 13) (at % 13)} (omega arith) ∙ port_is script.wires script.limits.blocks (at / 13) (at % 13) (omega (arith, below)) (omega arith)

first_below : (script : ScriptOf) (at : ℕ) → is_link (side_at (wires_at_first script) at).far ≡ true → at < 13 * length script.wires.switches
first_below script at link = let is = link_below (wires_at_first script) at link in let size = length-map-range_with_len (wired_side script.wires) 0 (13 * length script.wires.switches) in omega (arith, is, size)

far_first : (script : ScriptOf) (at : ℕ) → is_link (side_at (wires_at_first script) at).far ≡ true → (side_at (wires_at_first script) at).far ≡ far_at script.wires (at / 13) (at % 13)
far_first script at link = ap (λ (x : Side). x.far) (side_first script at (first_below script at link))

pub first_ports : (script : ScriptOf) → IsScript script → AreFarPorts (wires_at_first script)
first_ports script kept at t p is =
    let far : far_at script.wires (at / 13) (at % 13) ≡ Some (Switch t p) = sym (far_first script at (ap is_link is)) ∙ is in
    let within = subst (λ (o : Option Far). IfSome o (IsWithin script.wires (at / 13) (at % 13))) far (far_within script.wires (at / 13) (at % 13) kept.wired) in
    (within.port_least, within.port_most)

-- it is at an external port of a switch that is there
pub link_ports : (script : ScriptOf) → IsScript script → (at : ℕ) → is_link (side_at (wires_at_first script) at).far ≡ true → (at / 13 < length script.wires.switches) × (1 ≤ at % 13) × (at % 13 ≤ 12)
link_ports script kept at link = by (far_at script.wires (at / 13) (at % 13)) refl where
  by : (o : Option Far) → far_at script.wires (at / 13) (at % 13) ≡ o → (at / 13 < length script.wires.switches) × (1 ≤ at % 13) × (at % 13 ≤ 12)
  by None is = absurd (true≢false (sym link ∙ ap is_link (far_first script at link ∙ is)))
  by (Some (HostAt n)) is = absurd (true≢false (sym link ∙ ap is_link (far_first script at link ∙ is)))
  by (Some (Switch t p)) is =
      let within = subst (λ (o : Option Far). IfSome o (IsWithin script.wires (at / 13) (at % 13))) is (far_within script.wires (at / 13) (at % 13) kept.wired) in
      (within.node_below, within.own_port_least, within.own_port_most)

pub record IsLinkAt (script : ScriptOf) (w : WiresOf) (at : ℕ) : Type 0 where
  pub here : at < 13 * length script.wires.switches
  pub there : far_place (side_at w at).far < 13 * length script.wires.switches
  pub link : is_link (side_at (wires_at_first script) at).far ≡ true
  pub linked : is_link (side_at (wires_at_first script) (far_place (side_at w at).far)).far ≡ true

pub link_is : (script : ScriptOf) → IsScript script → (w : WiresOf) (at : ℕ) → HaveSameFarEnds (wires_at_first script) w → is_link (side_at w at).far ≡ true → IsLinkAt script w at
link_is script kept w at same is =
    let link : is_link (side_at (wires_at_first script) at).far ≡ true = ap is_link (sym (same at)) ∙ is in
    let first = side_at (wires_at_first script) at in
    record {
      here = first_below script at link;
      there = subst (λ (o : Option Far). far_place o < 13 * length script.wires.switches) (sym (same at ∙ far_first script at link))
          (far_place_within script.wires (at / 13) (at % 13) (far_at script.wires (at / 13) (at % 13)) (far_within script.wires (at / 13) (at % 13) kept.wired) (ap is_link (sym (far_first script at link)) ∙ link));
      link = link;
      linked = ap (λ (o : Option Far). is_link (side_at (wires_at_first script) (far_place o)).far) (same at) ∙ (start_agrees script.wires script.limits.blocks kept.wired at link).link;
    }

-- a queue has other frames then
queue_with : (P : ℕ → List (List ℕ) → Type 0) (v : FramesOf) (a : ℕ) (xs : List (List ℕ)) → P a xs → ((q : ℕ) → P q (frames_at v q)) → (q : ℕ) → P q (frames_at (with_frames a xs v) q)
queue_with P v a xs new each q = by (cases_eq q a) (cases_lt a (length v.queues)) where
  by : (q ≡ a) ⊎ (q ≡ a → ⊥) → (a < length v.queues) ⊎ (length v.queues ≤ a) → P q (frames_at (with_frames a xs v) q)
  by (inl same) (inl below) =
      subst (P q) (sym (ap (λ k. frames_at (with_frames a xs v) k) same ∙ get_or-set_same v.queues a xs [] below)) (subst (λ (k : ℕ). P k xs) (sym same) new)
  by (inl same) (inr past) = let same_list : slice_set v.queues a xs ≡ v.queues = set_past v.queues a xs past in subst (λ (l : List (List (List ℕ))). P q (frames_at (record v { queues = l }) q)) (sym same_list) (each q)
  by (inr other) within = subst (P q) (sym (get_or-set_other v.queues a q xs [] other)) (each q)

-- frames that go to a place
put_frames : (script : ScriptOf) (q : ℕ) (bytes : List ℕ) (v : FramesOf) → 1 ≤ length bytes → q < 13 * length script.wires.switches → IsWireOrHand script q → blocks_of bytes ≤ v.free → AreFramesSound script v → AreFramesSound script (put_frame q bytes v)
put_frames script q bytes v some below wire room h =
    let size = h.queues in
    let is_below : q < length v.queues = omega (arith, below, size) in
    let more = occupied_append v q bytes is_below in
    let total = h.blocks in
    record {
      queues = length-set v.queues q (frames_at v q ++ bytes ∷ []) ∙ size;
      limit = h.limit;
      blocks = omega (arith, more, total, room);
      each = queue_with (QueueFits script) v q (frames_at v q ++ bytes ∷ []) (record { bytes = All-push (λ (x : List ℕ). 1 ≤ length x) (frames_at v q) bytes (h.each q).bytes some; linked = λ _. wire }) h.each;
    }

clear_frames : (script : ScriptOf) (q : ℕ) (v : FramesOf) → AreFramesSound script v → AreFramesSound script (clear q v)
clear_frames script q v h = record {
  queues = length-set v.queues q [] ∙ h.queues;
  limit = h.limit;
  blocks = by (cases_lt q (length v.queues));
  each = queue_with (QueueFits script) v q [] (record { bytes = All-nil (λ (x : List ℕ). 1 ≤ length x); linked = λ (none : 0 < 0). absurd (omega (arith, none)) }) h.each;
} where
  by : (q < length v.queues) ⊎ (length v.queues ≤ q) → (v.free + blocks_in (frames_at v q)) + occupied (with_frames q [] v) ≡ v.limit
  by (inl below) =
      let less : occupied (with_frames q [] v) + blocks_in (frames_at v q) ≡ occupied v + blocks_in [] = sum_by-set blocks_in v.queues q [] [] below in
      let total = h.blocks in
      omega (arith, less, total)
  by (inr past) =
      let same : occupied (with_frames q [] v) ≡ occupied v = ap (sum_by blocks_in) (set_past v.queues q [] past) in
      let none : blocks_in (frames_at v q) ≡ 0 = ap blocks_in (get_or_past v.queues q [] past) in
      let total = h.blocks in
      omega (arith, same, none, total)

moved_frames : (script : ScriptOf) (from to : ℕ) (rest : List (List ℕ)) (bytes : List ℕ) (v : FramesOf) → to < 13 * length script.wires.switches → IsWireOrHand script from → IsWireOrHand script to
    → All (λ x. 1 ≤ length x) rest → 1 ≤ length bytes → occupied (with_frames from rest v) + blocks_of bytes ≡ occupied v → AreFramesSound script v → AreFramesSound script (append_to to bytes (with_frames from rest v))
moved_frames script from to rest bytes v below wire hand others some less h =
    let u = with_frames from rest v in
    let size : length u.queues ≡ 13 * length script.wires.switches = length-set v.queues from rest ∙ h.queues in
    let is_below : to < length u.queues = omega (arith, below, size) in
    let more = occupied_append u to bytes is_below in
    let total = h.blocks in
    let each : (q : ℕ) → QueueFits script q (frames_at u q) = queue_with (QueueFits script) v from rest (record { bytes = others; linked = λ _. wire }) h.each in
    record {
      queues = length-set u.queues to (frames_at u to ++ bytes ∷ []) ∙ size;
      limit = h.limit;
      blocks = omega (arith, more, less, total);
      each = queue_with (QueueFits script) u to (frames_at u to ++ bytes ∷ []) (record { bytes = All-push (λ (x : List ℕ). 1 ≤ length x) (frames_at u to) bytes (each to).bytes some; linked = λ _. hand }) each;
    }

-- what is told of a port changes
side_sound : (script : ScriptOf) (w : WiresOf) (at : ℕ) (s : Side) → s.far ≡ (side_at w at).far → s.is_up ≡ (side_at w at).is_up → AreWiresSound script w → AreWiresSound script (with_side at s w)
side_sound script w at s far up h = record { sides = length-set w.sides at s ∙ h.sides; agree = side_agrees w at s far up h.agree; frames = h.frames }

pub told_sound : (script : ScriptOf) (w : WiresOf) (at lose again swap : ℕ) → AreWiresSound script w → AreWiresSound script (with_side at (record (side_at w at) { lose = lose; again = again; swap = swap }) w)
told_sound script w at lose again swap h = side_sound script w at (record (side_at w at) { lose = lose; again = again; swap = swap }) refl refl h

-- a frame is put on a wire
pub put_sound : (script : ScriptOf) (from wire : ℕ) (bytes : List ℕ) (w : WiresOf) → 1 ≤ length bytes → wire < 13 * length script.wires.switches → IsWireOrHand script wire → AreWiresSound script w → AreWiresSound script (put_into from wire bytes w)
put_sound script from wire bytes w some below is_wire h =
    cond_both (not (side_at w from).is_up) w told (AreWiresSound script) (λ _. h)
    (λ _. cond_both (nat_lt 0 (side_at w wire).lose) (with_side wire (less_to_lose (side_at w wire)) w) kept (AreWiresSound script) (λ _. side_sound script w wire (less_to_lose (side_at w wire)) refl refl h)
    (λ _. cond_both (nat_lt w.frames.free (blocks_of bytes)) w (record w { frames = put_frame wire bytes w.frames }) (AreWiresSound script) (λ _. h)
    (λ fits. record { sides = h.sides; agree = frames_agree w (put_frame wire bytes w.frames) h.agree; frames = put_frames script wire bytes w.frames some below is_wire (ltb-false w.frames.free (blocks_of bytes) fits) h.frames })))
  where
    kept : WiresOf
    kept = cond (nat_lt w.frames.free (blocks_of bytes)) w (record w { frames = put_frame wire bytes w.frames })

    told : WiresOf
    told = cond (nat_lt 0 (side_at w wire).lose) (with_side wire (less_to_lose (side_at w wire)) w) kept

-- a frame is taken in hand
taken_some : (script : ScriptOf) (wire : ℕ) (w : WiresOf) → 0 < length (wire_at w wire) → AreWiresSound script w → 1 ≤ length (taken_frame wire w)
taken_some script wire w some h =
    cond_both (is_second wire w) (frame w.frames wire 1) (frame w.frames wire 0) (λ (x : List ℕ). 1 ≤ length x)
    (λ second. All-get_or (λ (x : List ℕ). 1 ≤ length x) (wire_at w wire) 1 [] (ltb-true 1 (length (wire_at w wire)) (and_parts (nat_lt 0 (side_at w wire).swap) (nat_lt 1 (length (wire_at w wire))) second).1) (h.frames.each wire).bytes)
    (λ _. All-get_or (λ (x : List ℕ). 1 ≤ length x) (wire_at w wire) 0 [] some (h.frames.each wire).bytes)

held_sound : (script : ScriptOf) (wire hand : ℕ) (w : WiresOf) → wire < 13 * length script.wires.switches → hand < 13 * length script.wires.switches → IsWireOrHand script wire → IsWireOrHand script hand → 0 < length (wire_at w wire)
    → AreWiresSound script w → AreWiresSound script (held_from wire hand w)
held_sound script wire hand w wire_below hand_below is_wire is_hand some h =
    cond_both (is_second wire w) (record (with_side wire (less_to_swap (side_at w wire)) w) { frames = move_second wire hand w.frames }) (record w { frames = move_first wire hand w.frames }) (AreWiresSound script)
    (λ second.
    let two : 1 < length (wire_at w wire) = ltb-true 1 (length (wire_at w wire)) (and_parts (nat_lt 0 (side_at w wire).swap) (nat_lt 1 (length (wire_at w wire))) second).1 in
    let u = with_side wire (less_to_swap (side_at w wire)) w in
    let told = side_sound script w wire (less_to_swap (side_at w wire)) refl refl h in
    record {
      sides = told.sides;
      agree = frames_agree u (move_second wire hand w.frames) told.agree;
      frames = moved_frames script wire hand (take 1 (wire_at w wire) ++ drop 2 (wire_at w wire)) (frame w.frames wire 1) w.frames hand_below is_wire is_hand
          (All-append HasBytes (take 1 (wire_at w wire)) (drop 2 (wire_at w wire)) (All-take HasBytes 1 (wire_at w wire) all) (All-drop HasBytes 2 (wire_at w wire) all)) (All-get_or HasBytes (wire_at w wire) 1 [] two all)
          (occupied_second w.frames wire (wire_in wire_below) (omega (arith, two))) h.frames;
    })
    (λ _. record {
      sides = h.sides;
      agree = frames_agree w (move_first wire hand w.frames) h.agree;
      frames = moved_frames script wire hand (drop 1 (wire_at w wire)) (frame w.frames wire 0) w.frames hand_below is_wire is_hand (All-drop HasBytes 1 (wire_at w wire) all) (All-get_or HasBytes (wire_at w wire) 0 [] some all)
          (occupied_first w.frames wire (wire_in wire_below) (omega (arith, some))) h.frames;
    })
  where
    HasBytes : List ℕ → Type 0
    HasBytes x = 1 ≤ length x

    all : All HasBytes (wire_at w wire)
    all = (h.frames.each wire).bytes

    wire_in : wire < 13 * length script.wires.switches → wire < length w.frames.queues
    wire_in below = let size = h.frames.queues in omega (arith, below, size)

pub take_sound : (script : ScriptOf) → IsScript script → (wire hand : ℕ) (w : WiresOf) → HaveSameFarEnds (wires_at_first script) w → is_link (side_at w wire).far ≡ true → hand < 13 * length script.wires.switches → hand % 13 ≡ 0 → 0 < length (wire_at w wire)
    → AreWiresSound script w → AreWiresSound script (take_from wire hand w)
take_sound script kept wire hand w same link below is_hand some h =
    let is = link_is script kept w wire same link in
    let held = held_sound script wire hand w is.here below (inl is.link) (inr is_hand) some h in
    let u = held_from wire hand w in
    let bytes = taken_frame wire w in
    cond_both (is_copied wire u) (put_into (far_place (side_at u wire).far) wire bytes (before_copy wire u)) u (AreWiresSound script)
    (λ _. put_sound script (far_place (side_at u wire).far) wire bytes (before_copy wire u) (taken_some script wire w some h) is.here (inl is.link) (side_sound script u wire (less_again (side_at u wire)) refl refl held))
    (λ _. held)

pub release_sound : (script : ScriptOf) (hand : ℕ) (w : WiresOf) → AreWiresSound script w → AreWiresSound script (release_from hand w)
release_sound script hand w h = record { sides = h.sides; agree = frames_agree w (clear hand w.frames) h.agree; frames = clear_frames script hand w.frames h.frames }

-- a link goes down or up
link_sides : (up : Bool) (far : Option Far) (at : ℕ) (w : WiresOf) → length (link_set up far at w).sides ≡ length w.sides
link_sides up None at w = length-set w.sides at (record (side_at w at) { is_up = up })
link_sides up (Some (HostAt h)) at w = length-set w.sides at (record (side_at w at) { is_up = up })
link_sides up (Some (Switch t p)) at w = length-set (with_up up at w).sides (place t p) (record (side_at (with_up up at w) (place t p)) { is_up = up }) ∙ length-set w.sides at (record (side_at w at) { is_up = up })

link_frames : (script : ScriptOf) (up : Bool) (far : Option Far) (at : ℕ) (w : WiresOf) → AreFramesSound script w.frames → AreFramesSound script (link_set up far at w).frames
link_frames script up None at w h = h
link_frames script up (Some (HostAt n)) at w h = h
link_frames script up (Some (Switch t p)) at w h = h

cleared_frames : (script : ScriptOf) (far : Option Far) (at : ℕ) (w : WiresOf) → AreFramesSound script w.frames → AreFramesSound script (wires_cleared far at w).frames
cleared_frames script None at w h = h
cleared_frames script (Some (HostAt n)) at w h = h
cleared_frames script (Some (Switch t p)) at w h = clear_frames script (place t p) (clear at w.frames) (clear_frames script at w.frames h)

cleared_sides : (far : Option Far) (at : ℕ) (w : WiresOf) → length (wires_cleared far at w).sides ≡ length w.sides
cleared_sides None at w = refl
cleared_sides (Some (HostAt n)) at w = refl
cleared_sides (Some (Switch t p)) at w = refl

pub fail_sound : (script : ScriptOf) (at : ℕ) (w : WiresOf) → AreWiresSound script w → AreWiresSound script (fail_at at w)
fail_sound script at w h =
    let far = (side_at w at).far in
    record {
      sides = cleared_sides far at (link_set false far at w) ∙ link_sides false far at w ∙ h.sides;
      agree = fail_agrees w at h.agree;
      frames = cleared_frames script far at (link_set false far at w) (link_frames script false far at w h.frames);
    }

pub repair_sound : (script : ScriptOf) (at : ℕ) (w : WiresOf) → AreWiresSound script w → AreWiresSound script (repair_at at w)
repair_sound script at w h =
    let far = (side_at w at).far in
    record { sides = link_sides true far at w ∙ h.sides; agree = repair_agrees w at h.agree; frames = link_frames script true far at w h.frames }

-- frames that a switch sends
pub spelling_some : (f : Frame) → 1 ≤ length (spelling f)
spelling_some (Carry f) = omega arith
spelling_some (Ack epoch from to n) = omega arith
spelling_some (Probe from nonce) = omega arith
spelling_some (Reply from to nonce) = omega arith

pub put_out_sound : (script : ScriptOf) → IsScript script → (t : ℕ) (x : BytesOut) (w : WiresOf) → 1 ≤ length x.bytes → HaveSameFarEnds (wires_at_first script) w → AreWiresSound script w → AreWiresSound script (put_out t x w)
put_out_sound script kept t x w some same h =
    cond_both (is_link (side_at w (place t x.port)).far) (put_into (place t x.port) (wire_out w t x.port) x.bytes w) w (AreWiresSound script)
    (λ link. let is = link_is script kept w (place t x.port) same link in put_sound script (place t x.port) (wire_out w t x.port) x.bytes w some is.there (inl is.linked) h)
    (λ _. h)

pub all_put_out_sound : (script : ScriptOf) → IsScript script → (t : ℕ) (xs : List Sent) (w : WiresOf) → HaveSameFarEnds (wires_at_first script) w → AreWiresSound script w → AreWiresSound script (all_put_out t (all_spelled xs) w)
all_put_out_sound script kept t [] w same h = h
all_put_out_sound script kept t (x ∷ xs) w same h =
    all_put_out_sound script kept t xs (put_out t (spelled_out x) w) (fars_then (wires_at_first script) w (put_out t (spelled_out x) w) same (put_out_fars t (spelled_out x) w))
    (put_out_sound script kept t (spelled_out x) w (spelling_some x.frame) same h)

-- at first
pub first_empty : (script : ScriptOf) (q : ℕ) → frames_at (wires_at_first script).frames q ≡ []
first_empty script q = by (cases_lt q (13 * length script.wires.switches)) where
  by : (q < 13 * length script.wires.switches) ⊎ (13 * length script.wires.switches ≤ q) → frames_at (wires_at_first script).frames q ≡ []
  by (inl below) = get_or-replicate (13 * length script.wires.switches) q [] [] below
  by (inr past) = get_or_past (replicate {A = List (List ℕ)} (13 * length script.wires.switches) []) q [] (let size = length-replicate {A = List (List ℕ)} (13 * length script.wires.switches) [] in omega (arith, past, size))

pub first_wires : (script : ScriptOf) → IsScript script → AreWiresSound script (wires_at_first script)
first_wires script kept =
    let n = 13 * length script.wires.switches in
    record {
      sides = length-map-range_with_len (wired_side script.wires) 0 n;
      agree = start_agrees script.wires script.limits.blocks kept.wired;
      frames = record {
        queues = length-replicate {A = List (List ℕ)} n [];
        limit = refl;
        blocks = let none : sum_by blocks_in (replicate {A = List (List ℕ)} n []) ≡ n * 0 = sum_by-replicate blocks_in n [] in omega (arith, none);
        each = λ q. record { bytes = subst (All (λ x. 1 ≤ length x)) (sym (first_empty script q)) (All-nil (λ (x : List ℕ). 1 ≤ length x)); linked = λ (some : 0 < length (frames_at (wires_at_first script).frames q)). absurd (omega (arith, some, ap (length {A = List ℕ}) (first_empty script q))) };
      };
    }
