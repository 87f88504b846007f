-- What is so of all byte strings on wires and in hands stays so.

use Rattle.std.specs.Prelude.{◌≡◌, ◌⊎◌, ◌<◌, ◌≤◌, ℕ, not, nat_lt, length, cond, List, [], ◌∷◌, ◌++◌, take, drop, slice_index_or, slice_set, Option, Some, None, Bool, true, false, refl}
use Rattle.std.proofs.Common.{sym, ◌∙◌, ap, subst, inl, inr, arith}
use Rattle.std.proofs.lemmas.Bool.{cond_both, cases_eq, cases_lt}
use Rattle.std.proofs.lemmas.List.{get_or-set_other, get_or-set_same, get_or_past, length-set}
use Rattle.frame_region.specs.Sizes.{blocks_of}
use Rattle.net_graph.specs.declared.wiring.Far.{Far}
use Rattle.net_graph.specs.declared.wiring.Far.TheVariants.{Switch, HostAt}
use Rattle.wire_set.specs.Frames.{FramesOf, frames_at, frame, with_frames, append_to, put_frame, clear, move_first, move_second}
use Rattle.wire_set.specs.WireState.{WiresOf, place, side_at, with_side, wire_out, is_link, less_to_lose, put_into, is_second, less_to_swap, held_from, taken_frame, is_copied, before_copy, copied_from, take_from, far_place, link_set, wires_cleared, fail_at, repair_at, HaveSameFarEnds}
use Rattle.switch_core.specs.Bytes.{BytesOut}
use Rattle.net_state.specs.declared.hand.Hand.{Hand}
use Rattle.net_state.specs.declared.hand.Hand.TheVariants as hand
use Rattle.net_state.specs.Effects.{put_out, all_put_out, released}
use Rattle.wire_set.proofs.FarLemmas.{fars_then}
use Rattle.net_state.proofs.QueueLemmas.{if_both, put_out_fars}
use Rattle.net_game.proofs.EachLemmas.{Each, each_append, each_take, each_drop, each_index, each_map}

-- all byte strings on wires and in hands, each with its queue
abbrev pub InFrames : (ℕ → List ℕ → Type 0) → FramesOf → Type 0
InFrames P v = (q : ℕ) → Each (P q) (frames_at v q)

abbrev pub InQueues : (ℕ → List ℕ → Type 0) → WiresOf → Type 0
InQueues P w = InFrames P w.frames

-- and whatever the queue
abbrev pub OnWires : (List ℕ → Type 0) → WiresOf → Type 0
OnWires P w = InQueues (λ q. P) w

pub with_each : (P : ℕ → List ℕ → Type 0) (v : FramesOf) (a : ℕ) (xs : List (List ℕ)) → InFrames P v → Each (P a) xs → InFrames P (with_frames a xs v)
with_each P v a xs all new q = by (cases_eq q a) (cases_lt q (length v.queues))
  where
    by : (q ≡ a) ⊎ (q ≡ a → ⊥) → (q < length v.queues) ⊎ (length v.queues ≤ q) → Each (P q) (frames_at (with_frames a xs v) q)
    by (inl is) (inl low) = subst (Each (P q)) (sym (ap (λ n. slice_index_or (slice_set v.queues n xs) q []) (sym is) ∙ get_or-set_same v.queues q xs [] low)) (subst (λ (n : ℕ). Each (P n) xs) (sym is) new)
    by (inl is) (inr past) = subst (Each (P q)) (sym (get_or_past (slice_set v.queues a xs) q [] (omega (arith, past, length-set v.queues a xs)))) tt
    by (inr other) low = subst (Each (P q)) (sym (get_or-set_other v.queues a q xs [] other)) (all q)

append_each : (P : ℕ → List ℕ → Type 0) (v : FramesOf) (a : ℕ) (bytes : List ℕ) → InFrames P v → P a bytes → InFrames P (append_to a bytes v)
append_each P v a bytes all new = with_each P v a (frames_at v a ++ bytes ∷ []) all (each_append (P a) (frames_at v a) (bytes ∷ []) (all a) (new, tt))

pub put_queue : (P : ℕ → List ℕ → Type 0) (from wire : ℕ) (bytes : List ℕ) (w : WiresOf) → InQueues P w → P wire bytes → InQueues P (put_into from wire bytes w)
put_queue P from wire bytes w all new =
    if_both (not (side_at w from).is_up) (InQueues P) w _ all
    (if_both (nat_lt 0 (side_at w wire).lose) (InQueues P) (with_side wire (less_to_lose (side_at w wire)) w) _ all
    (if_both (nat_lt w.frames.free (blocks_of bytes)) (InQueues P) w (record w { frames = put_frame wire bytes w.frames }) all
    (append_each P w.frames wire bytes all new)))

pub put_each : (P : List ℕ → Type 0) (from wire : ℕ) (bytes : List ℕ) (w : WiresOf) → OnWires P w → P bytes → OnWires P (put_into from wire bytes w)
put_each P = put_queue (λ q. P)

frame_each : (P : ℕ → List ℕ → Type 0) (v : FramesOf) (q k : ℕ) → P q [] → InFrames P v → P q (frame v q k)
frame_each P v q k none all = each_index (P q) (frames_at v q) k [] none (all q)

-- the frame that is taken goes from the wire into a hand
held_queue : (P : ℕ → List ℕ → Type 0) (wire hand : ℕ) (w : WiresOf) → P wire [] → ((bytes : List ℕ) → P wire bytes → P hand bytes) → InQueues P w → InQueues P (held_from wire hand w)
held_queue P wire hand w none goes all =
    if_both (is_second wire w) (InQueues P) (record (with_side wire (less_to_swap (side_at w wire)) w) { frames = move_second wire hand w.frames }) (record w { frames = move_first wire hand w.frames })
    (append_each P (with_frames wire (take 1 (frames_at w.frames wire) ++ drop 2 (frames_at w.frames wire)) w.frames) hand (frame w.frames wire 1)
    (with_each P w.frames wire (take 1 (frames_at w.frames wire) ++ drop 2 (frames_at w.frames wire)) all
    (each_append (P wire) (take 1 (frames_at w.frames wire)) (drop 2 (frames_at w.frames wire)) (each_take (P wire) 1 (frames_at w.frames wire) (all wire)) (each_drop (P wire) 2 (frames_at w.frames wire) (all wire))))
    (goes (frame w.frames wire 1) (frame_each P w.frames wire 1 none all)))
    (append_each P (with_frames wire (drop 1 (frames_at w.frames wire)) w.frames) hand (frame w.frames wire 0)
    (with_each P w.frames wire (drop 1 (frames_at w.frames wire)) all (each_drop (P wire) 1 (frames_at w.frames wire) (all wire)))
    (goes (frame w.frames wire 0) (frame_each P w.frames wire 0 none all)))

taken_queue : (P : ℕ → List ℕ → Type 0) (wire : ℕ) (w : WiresOf) → P wire [] → InQueues P w → P wire (taken_frame wire w)
taken_queue P wire w none all = by (is_second wire w) (frame_each P w.frames wire 1 none all) (frame_each P w.frames wire 0 none all)
  where
    by : (b : Bool) → P wire (frame w.frames wire 1) → P wire (frame w.frames wire 0) → P wire (cond b (frame w.frames wire 1) (frame w.frames wire 0))
    by true x y = x
    by false x y = y

copied_queue : (P : ℕ → List ℕ → Type 0) (wire : ℕ) (bytes : List ℕ) (w : WiresOf) → InQueues P w → P wire bytes → InQueues P (copied_from wire bytes w)
copied_queue P wire bytes w all new =
    if_both (is_copied wire w) (InQueues P) (put_into (far_place (side_at w wire).far) wire bytes (before_copy wire w)) w
    (put_queue P (far_place (side_at w wire).far) wire bytes (before_copy wire w) all new) all

pub take_queue : (P : ℕ → List ℕ → Type 0) (wire hand : ℕ) (w : WiresOf) → P wire [] → ((bytes : List ℕ) → P wire bytes → P hand bytes) → InQueues P w → InQueues P (take_from wire hand w)
take_queue P wire hand w none goes all = copied_queue P wire (taken_frame wire w) (held_from wire hand w) (held_queue P wire hand w none goes all) (taken_queue P wire w none all)

pub take_each : (P : List ℕ → Type 0) (wire hand : ℕ) (w : WiresOf) → P [] → OnWires P w → OnWires P (take_from wire hand w)
take_each P wire hand w none = take_queue (λ q. P) wire hand w none (λ bytes is. is)

pub released_queue : (P : ℕ → List ℕ → Type 0) (h : Hand) (s : ℕ) (w : WiresOf) → InQueues P w → InQueues P (released h s w)
released_queue P hand.Empty s w all = all
released_queue P (hand.Clock now samples) s w all = all
released_queue P (hand.Frame port) s w all = with_each P w.frames (place s 0) [] all tt

pub released_each : (P : List ℕ → Type 0) (h : Hand) (s : ℕ) (w : WiresOf) → OnWires P w → OnWires P (released h s w)
released_each P = released_queue (λ q. P)

-- what goes out by a port goes on the wire into its far end
abbrev pub GoesTo : (ℕ → List ℕ → Type 0) → WiresOf → ℕ → BytesOut → Type 0
GoesTo P first s x = is_link (side_at first (place s x.port)).far ≡ true → P (far_place (side_at first (place s x.port)).far) x.bytes

pub all_out_queue : (P : ℕ → List ℕ → Type 0) (first : WiresOf) (s : ℕ) (xs : List BytesOut) (w : WiresOf) → HaveSameFarEnds first w → InQueues P w → Each (GoesTo P first s) xs → InQueues P (all_put_out s xs w)
all_out_queue P first s [] w same all new = all
all_out_queue P first s (x ∷ xs) w same all new =
    all_out_queue P first s xs (put_out s x w) (fars_then first w (put_out s x w) same (put_out_fars s x w))
    (cond_both (is_link (side_at w (place s x.port)).far) (put_into (place s x.port) (wire_out w s x.port) x.bytes w) w (InQueues P)
    (λ link. put_queue P (place s x.port) (wire_out w s x.port) x.bytes w all (subst (λ (far : Option Far). P (far_place far) x.bytes) (sym (same (place s x.port))) (new.0 (ap is_link (sym (same (place s x.port))) ∙ link))))
    (λ _. all))
    new.1

pub all_out_each : (P : List ℕ → Type 0) (s : ℕ) (xs : List BytesOut) (w : WiresOf) → OnWires P w → Each (λ x. P x.bytes) xs → OnWires P (all_put_out s xs w)
all_out_each P s xs w all new = all_out_queue (λ q. P) w s xs w (λ at. refl) all (each_map (λ x. P x.bytes) (GoesTo (λ q. P) w s) xs (λ x is _. is) new)

link_queue : (P : ℕ → List ℕ → Type 0) (up : Bool) (far : Option Far) (at : ℕ) (w : WiresOf) → InQueues P w → InQueues P (link_set up far at w)
link_queue P up None at w all = all
link_queue P up (Some (HostAt h)) at w all = all
link_queue P up (Some (Switch t q)) at w all = all

pub repair_queue : (P : ℕ → List ℕ → Type 0) (at : ℕ) (w : WiresOf) → InQueues P w → InQueues P (repair_at at w)
repair_queue P at w all = link_queue P true (side_at w at).far at w all

pub repair_each : (P : List ℕ → Type 0) (at : ℕ) (w : WiresOf) → OnWires P w → OnWires P (repair_at at w)
repair_each P = repair_queue (λ q. P)

cleared_queue : (P : ℕ → List ℕ → Type 0) (far : Option Far) (at : ℕ) (w : WiresOf) → InQueues P w → InQueues P (wires_cleared far at w)
cleared_queue P None at w all = all
cleared_queue P (Some (HostAt h)) at w all = all
cleared_queue P (Some (Switch t q)) at w all = with_each P (clear at w.frames) (place t q) [] (with_each P w.frames at [] all tt) tt

pub fail_queue : (P : ℕ → List ℕ → Type 0) (at : ℕ) (w : WiresOf) → InQueues P w → InQueues P (fail_at at w)
fail_queue P at w all = cleared_queue P (side_at w at).far at (link_set false (side_at w at).far at w) (link_queue P false (side_at w at).far at w all)

pub fail_each : (P : List ℕ → Type 0) (at : ℕ) (w : WiresOf) → OnWires P w → OnWires P (fail_at at w)
fail_each P = fail_queue (λ q. P)
