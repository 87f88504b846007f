-- What changes on one wire leaves the others, and each hand, as they were.

use Rattle.std.specs.Prelude.{◌≡◌, ◌≢◌, ◌+◌, ◌*◌, ◌≤◌, ℕ, not, nat_lt, cond, List, [], ◌∷◌, ◌++◌, take, drop, Option, Some, None, Bool, true, false, refl}
use Rattle.std.proofs.Common.{true≢false, sym, ◌∙◌, arith}
use Rattle.std.proofs.lemmas.List.{get_or-set_other}
use Rattle.frame_region.specs.Sizes.{blocks_of}
use Rattle.net_graph.specs.declared.wiring.Far.{Far}
use Rattle.net_graph.specs.declared.wiring.Far.TheVariants.{Switch, HostAt}
use Rattle.wire_set.specs.Frames.{FramesOf, frames_at, frame, with_frames, append_to, put_frame, clear, move_first, move_second}
use Rattle.switch_core.specs.Bytes.{BytesOut}
use Rattle.net_state.specs.Effects.{put_out, all_put_out}
use Rattle.wire_set.specs.WireState.{WiresOf, is_link, wire_out, place, side_at, wire_at, with_side, less_to_lose, put_into, is_second, less_to_swap, held_from, taken_frame, is_copied, before_copy, copied_from, take_from, far_place, release_from, link_set, wires_cleared, fail_at, repair_at, HaveSameFarEnds}
use Rattle.wire_set.proofs.FarLemmas.{fars_then, put_fars}

-- a queue has other frames: the others have theirs
frames_other : (v : FramesOf) (a q : ℕ) (xs : List (List ℕ)) → q ≢ a → frames_at (with_frames a xs v) q ≡ frames_at v q
frames_other v a q xs other = get_or-set_other v.queues a q xs [] other

-- what holds of both holds of one of them
pub if_both : (b : Bool) (P : WiresOf → Type 0) (x y : WiresOf) → P x → P y → P (cond b x y)
if_both true P x y px py = px
if_both false P x y px py = py

-- a queue is as it was
abbrev pub Keeps : ℕ → WiresOf → WiresOf → Type 0
Keeps q w u = wire_at u q ≡ wire_at w q

pub put_elsewhere : (from wire q : ℕ) (bytes : List ℕ) (w : WiresOf) → q ≢ wire → Keeps q w (put_into from wire bytes w)
put_elsewhere from wire q bytes w other =
    if_both (not (side_at w from).is_up) (Keeps q w) w _ refl
    (if_both (nat_lt 0 (side_at w wire).lose) (Keeps q w) (with_side wire (less_to_lose (side_at w wire)) w) _ refl
    (if_both (nat_lt w.frames.free (blocks_of bytes)) (Keeps q w) w (record w { frames = put_frame wire bytes w.frames }) refl
    (frames_other w.frames wire q _ other)))

append_elsewhere : (v : FramesOf) (hand q : ℕ) (bytes : List ℕ) → q ≢ hand → frames_at (append_to hand bytes v) q ≡ frames_at v q
append_elsewhere v hand q bytes other = frames_other v hand q _ other

held_elsewhere : (wire hand q : ℕ) (w : WiresOf) → q ≢ wire → q ≢ hand → Keeps q w (held_from wire hand w)
held_elsewhere wire hand q w other others =
    if_both (is_second wire w) (Keeps q w) (record (with_side wire (less_to_swap (side_at w wire)) w) { frames = move_second wire hand w.frames }) (record w { frames = move_first wire hand w.frames })
    (append_elsewhere (with_frames wire (take 1 (frames_at w.frames wire) ++ drop 2 (frames_at w.frames wire)) w.frames) hand q (frame w.frames wire 1) others ∙ frames_other w.frames wire q _ other)
    (append_elsewhere (with_frames wire (drop 1 (frames_at w.frames wire)) w.frames) hand q (frame w.frames wire 0) others ∙ frames_other w.frames wire q _ other)

pub copied_elsewhere : (wire q : ℕ) (bytes : List ℕ) (w : WiresOf) → q ≢ wire → Keeps q w (copied_from wire bytes w)
copied_elsewhere wire q bytes w other =
    if_both (is_copied wire w) (Keeps q w) (put_into (far_place (side_at w wire).far) wire bytes (before_copy wire w)) w
    (put_elsewhere (far_place (side_at w wire).far) wire q bytes (before_copy wire w) other) refl

pub take_elsewhere : (wire hand q : ℕ) (w : WiresOf) → q ≢ wire → q ≢ hand → Keeps q w (take_from wire hand w)
take_elsewhere wire hand q w other others =
    copied_elsewhere wire q (taken_frame wire w) (held_from wire hand w) other ∙ held_elsewhere wire hand q w other others

pub release_elsewhere : (hand q : ℕ) (w : WiresOf) → q ≢ hand → Keeps q w (release_from hand w)
release_elsewhere hand q w other = frames_other w.frames hand q [] other

link_keeps : (up : Bool) (far : Option Far) (at q : ℕ) (w : WiresOf) → Keeps q w (link_set up far at w)
link_keeps up None at q w = refl
link_keeps up (Some (HostAt h)) at q w = refl
link_keeps up (Some (Switch t p)) at q w = refl

pub repair_keeps : (at q : ℕ) (w : WiresOf) → Keeps q w (repair_at at w)
repair_keeps at q w = link_keeps true (side_at w at).far at q w

cleared_elsewhere : (far : Option Far) (at q : ℕ) (w : WiresOf) → q ≢ at → q ≢ far_place far → Keeps q w (wires_cleared far at w)
cleared_elsewhere None at q w other others = refl
cleared_elsewhere (Some (HostAt h)) at q w other others = refl
cleared_elsewhere (Some (Switch t p)) at q w other others = frames_other (clear at w.frames) (place t p) q [] others ∙ frames_other w.frames at q [] other

pub fail_elsewhere : (at q : ℕ) (w : WiresOf) → q ≢ at → q ≢ far_place (side_at w at).far → Keeps q w (fail_at at w)
fail_elsewhere at q w other others = cleared_elsewhere (side_at w at).far at q (link_set false (side_at w at).far at w) other others ∙ link_keeps false (side_at w at).far at q w

-- an external port's wire is no hand, and hands differ
pub port_is_no_hand : (s t p : ℕ) → 1 ≤ p → p ≤ 12 → place s 0 ≢ place t p
port_is_no_hand s t p least most = λ (e : 13 * s + 0 ≡ 13 * t + p). omega arith

pub hands_differ : (s t : ℕ) → s ≢ t → place s 0 ≢ place t 0
hands_differ s t other = λ (e : 13 * s + 0 ≡ 13 * t + 0). let same : s ≡ t = omega arith in other same

-- the far port of each link is an external one
abbrev pub AreFarPorts : WiresOf → Type 0
AreFarPorts w = (at t p : ℕ) → (side_at w at).far ≡ Some (Switch t p) → (1 ≤ p) × (p ≤ 12)

pub far_ports_stay : (w u : WiresOf) → HaveSameFarEnds w u → AreFarPorts w → AreFarPorts u
far_ports_stay w u same ports at t p is = ports at t p (sym (same at) ∙ is)

-- so no wire is a hand
pub wire_is_no_hand : (w : WiresOf) (at s : ℕ) → AreFarPorts w → is_link (side_at w at).far ≡ true → place s 0 ≢ far_place (side_at w at).far
wire_is_no_hand w at s ports link = by_far (side_at w at).far refl link where
  by_far : (far : Option Far) → (side_at w at).far ≡ far → is_link far ≡ true → place s 0 ≢ far_place far
  by_far None is linked = absurd (true≢false (sym linked))
  by_far (Some (HostAt h)) is linked = absurd (true≢false (sym linked))
  by_far (Some (Switch t p)) is linked = port_is_no_hand s t p (ports at t p is).0 (ports at t p is).1

if_known : (b : Bool) (P : WiresOf → Type 0) (x y : WiresOf) → (b ≡ true → P x) → P y → P (cond b x y)
if_known true P x y px py = px refl
if_known false P x y px py = py

-- frames that go out leave each hand alone
pub put_out_elsewhere : (s t : ℕ) (x : BytesOut) (w : WiresOf) → AreFarPorts w → Keeps (place s 0) w (put_out t x w)
put_out_elsewhere s t x w ports =
    if_known (is_link (side_at w (place t x.port)).far) (Keeps (place s 0) w) (put_into (place t x.port) (wire_out w t x.port) x.bytes w) w
    (λ link. put_elsewhere (place t x.port) (wire_out w t x.port) (place s 0) x.bytes w (wire_is_no_hand w (place t x.port) s ports link)) refl

pub put_out_fars : (t : ℕ) (x : BytesOut) (w : WiresOf) → HaveSameFarEnds w (put_out t x w)
put_out_fars t x w = if_both (is_link (side_at w (place t x.port)).far) (HaveSameFarEnds w) (put_into (place t x.port) (wire_out w t x.port) x.bytes w) w (put_fars w (place t x.port) (wire_out w t x.port) x.bytes) (λ b. refl)

pub all_put_out_elsewhere : (s t : ℕ) (xs : List BytesOut) (w : WiresOf) → AreFarPorts w → Keeps (place s 0) w (all_put_out t xs w)
all_put_out_elsewhere s t [] w ports = refl
all_put_out_elsewhere s t (x ∷ xs) w ports =
    all_put_out_elsewhere s t xs (put_out t x w) (far_ports_stay w (put_out t x w) (put_out_fars t x w) ports) ∙ put_out_elsewhere s t x w ports

pub all_put_out_fars : (t : ℕ) (xs : List BytesOut) (w : WiresOf) → HaveSameFarEnds w (all_put_out t xs w)
all_put_out_fars t [] w = λ b. refl
all_put_out_fars t (x ∷ xs) w = fars_then w (put_out t x w) (all_put_out t xs (put_out t x w)) (put_out_fars t x w) (all_put_out_fars t xs (put_out t x w))
