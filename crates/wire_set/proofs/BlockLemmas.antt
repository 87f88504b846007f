-- Free blocks and those that frames occupy stay all that there are.
use Rattle.std.proofs.Common.{◌≡◌, ◌∙◌, refl, ap, ℕ, ◌+◌, ◌<◌, ◌≤◌, ◌⊎◌, inl, inr, zero, suc, List, [], ◌++◌, length, take, drop, Option, Some, None, Bool, true, false, not, cond, nat_lt, arith, replicate}
use Rattle.std.specs.List.{sum_by}
use Rattle.std.proofs.lemmas.Bool.{cond_both, cases_lt, ltb-false, ltb-true, and_parts}
use Rattle.std.proofs.lemmas.List.{get_or_past, length-set, set_past}
use Rattle.std.proofs.lemmas.List.Sums.{sum_by-set}
use Rattle.net_graph.specs.declared.wiring.Far.{Far}
use Rattle.net_graph.specs.declared.wiring.Far.TheVariants.{Switch, HostAt}
use Rattle.frame_region.specs.Sizes.{blocks_of}
use Rattle.wire_set.specs.Frames.{FramesOf, frames_at, frame, blocks_in, occupied, with_frames, append_to, put_frame, clear, move_first, move_second, BlocksAddUp}
use Rattle.wire_set.specs.WireState.{WiresOf, place, side_at, wire_at, with_side, far_place, put_into, less_to_lose, is_second, less_to_swap, held_from, taken_frame, is_copied, before_copy, take_from, link_set, wires_cleared, fail_at, repair_at}
use Rattle.wire_set.proofs.FrameLemmas.{occupied_append, occupied_first, occupied_second}

pub put_adds : (frames : FramesOf) (q : ℕ) (bytes : List ℕ) → q < length frames.queues → blocks_of bytes ≤ frames.free → BlocksAddUp frames → BlocksAddUp (put_frame q bytes frames)
put_adds frames q bytes below room up = let more = occupied_append frames q bytes below in omega (arith, more, up, room)

pub clear_adds : (frames : FramesOf) (q : ℕ) → BlocksAddUp frames → BlocksAddUp (clear q frames)
clear_adds frames q up = by (cases_lt q (length frames.queues))
  where
    by : (q < length frames.queues) ⊎ (length frames.queues ≤ q) → BlocksAddUp (clear q frames)
    by (inl below) = let less : occupied (with_frames q [] frames) + blocks_in (frames_at frames q) ≡ occupied frames + blocks_in [] = sum_by-set blocks_in frames.queues q [] [] below in omega (arith, less, up)
    by (inr past) =
        let same : occupied (with_frames q [] frames) ≡ occupied frames = ap (sum_by blocks_in) (set_past frames.queues q [] past) in
        let none : blocks_in (frames_at frames q) ≡ 0 = ap blocks_in (get_or_past frames.queues q [] past) in
        omega (arith, same, none, up)

moved_adds : (frames : FramesOf) (from to : ℕ) (rest : List (List ℕ)) (bytes : List ℕ) → to < length frames.queues → occupied (with_frames from rest frames) + blocks_of bytes ≡ occupied frames → BlocksAddUp frames
    → BlocksAddUp (append_to to bytes (with_frames from rest frames))
moved_adds frames from to rest bytes below less up =
    let more = occupied_append (with_frames from rest frames) to bytes (omega (arith, below, length-set frames.queues from rest)) in omega (arith, more, less, up)

pub into_adds : (wires : WiresOf) (from wire : ℕ) (bytes : List ℕ) → wire < length wires.frames.queues → BlocksAddUp wires.frames → BlocksAddUp (put_into from wire bytes wires).frames
into_adds wires from wire bytes below up =
    cond_both (not (side_at wires from).is_up) wires told AddUp (λ _. up)
    (λ _. cond_both (nat_lt 0 (side_at wires wire).lose) (with_side wire (less_to_lose (side_at wires wire)) wires) kept AddUp (λ _. up)
    (λ _. cond_both (nat_lt wires.frames.free (blocks_of bytes)) wires (record wires { frames = put_frame wire bytes wires.frames }) AddUp (λ _. up)
    (λ fits. put_adds wires.frames wire bytes below (ltb-false wires.frames.free (blocks_of bytes) fits) up)))
  where
    AddUp : WiresOf → Type 0
    AddUp w = BlocksAddUp w.frames

    kept : WiresOf
    kept = cond (nat_lt wires.frames.free (blocks_of bytes)) wires (record wires { frames = put_frame wire bytes wires.frames })

    told : WiresOf
    told = cond (nat_lt 0 (side_at wires wire).lose) (with_side wire (less_to_lose (side_at wires wire)) wires) kept

-- as many queues as before, and the blocks add up
record Held (old new : WiresOf) : Type 0 where
  queues : length new.frames.queues ≡ length old.frames.queues
  up : BlocksAddUp new.frames

moved_queues : (frames : FramesOf) (from to : ℕ) (rest : List (List ℕ)) (bytes : List ℕ) → length (append_to to bytes (with_frames from rest frames)).queues ≡ length frames.queues
moved_queues frames from to rest bytes =
    length-set (with_frames from rest frames).queues to _ ∙ length-set frames.queues from rest

held_adds : (wires : WiresOf) (wire hand : ℕ) → wire < length wires.frames.queues → hand < length wires.frames.queues → 1 ≤ length (wire_at wires wire) → BlocksAddUp wires.frames → Held wires (held_from wire hand wires)
held_adds wires wire hand below hand_below some up =
    cond_both (is_second wire wires) (record (with_side wire (less_to_swap (side_at wires wire)) wires) { frames = move_second wire hand wires.frames }) (record wires { frames = move_first wire hand wires.frames })
    (Held wires)
    (λ second. let two : 1 < length (wire_at wires wire) = ltb-true 1 (length (wire_at wires wire)) (and_parts (nat_lt 0 (side_at wires wire).swap) (nat_lt 1 (length (wire_at wires wire))) second).1 in record {
      queues = moved_queues wires.frames wire hand (take 1 (wire_at wires wire) ++ drop 2 (wire_at wires wire)) (frame wires.frames wire 1);
      up = moved_adds wires.frames wire hand (take 1 (wire_at wires wire) ++ drop 2 (wire_at wires wire)) (frame wires.frames wire 1) hand_below (occupied_second wires.frames wire below two) up;
    })
    (λ _. record {
      queues = moved_queues wires.frames wire hand (drop 1 (wire_at wires wire)) (frame wires.frames wire 0);
      up = moved_adds wires.frames wire hand (drop 1 (wire_at wires wire)) (frame wires.frames wire 0) hand_below (occupied_first wires.frames wire below some) up;
    })

pub take_adds : (wires : WiresOf) (wire hand : ℕ) → wire < length wires.frames.queues → hand < length wires.frames.queues → 1 ≤ length (wire_at wires wire) → BlocksAddUp wires.frames → BlocksAddUp (take_from wire hand wires).frames
take_adds wires wire hand below hand_below some up =
    let held = held_from wire hand wires in
    let is = held_adds wires wire hand below hand_below some up in
    let bytes = taken_frame wire wires in
    let from = far_place (side_at held wire).far in
    cond_both (is_copied wire held) (put_into from wire bytes (before_copy wire held)) held (λ (w : WiresOf). BlocksAddUp w.frames)
    (λ _. into_adds (before_copy wire held) from wire bytes (let same = is.queues in omega (arith, below, same)) is.up) (λ _. is.up)

link_adds : (wires : WiresOf) (up : Bool) (far : Option Far) (at : ℕ) → (link_set up far at wires).frames ≡ wires.frames
link_adds wires up None at = refl
link_adds wires up (Some (HostAt h)) at = refl
link_adds wires up (Some (Switch t q)) at = refl

cleared_adds : (wires : WiresOf) (far : Option Far) (at : ℕ) → BlocksAddUp wires.frames → BlocksAddUp (wires_cleared far at wires).frames
cleared_adds wires None at up = up
cleared_adds wires (Some (HostAt h)) at up = up
cleared_adds wires (Some (Switch t q)) at up = clear_adds (clear at wires.frames) (place t q) (clear_adds wires.frames at up)

pub fail_adds : (wires : WiresOf) (at : ℕ) → BlocksAddUp wires.frames → BlocksAddUp (fail_at at wires).frames
fail_adds wires at up =
    let far = (side_at wires at).far in
    cleared_adds (link_set false far at wires) far at (set_adds (link_adds wires false far at))
  where
    set_adds : {frames : FramesOf} → frames ≡ wires.frames → BlocksAddUp frames
    set_adds same = let free = ap (λ (f : FramesOf). f.free) same in let taken = ap occupied same in let limit = ap (λ (f : FramesOf). f.limit) same in omega (arith, up, free, taken, limit)

pub repair_adds : (wires : WiresOf) (at : ℕ) → BlocksAddUp wires.frames → BlocksAddUp (repair_at at wires).frames
repair_adds wires at up =
    let same = link_adds wires true (side_at wires at).far at in
    let free = ap (λ (f : FramesOf). f.free) same in
    let taken = ap occupied same in
    let limit = ap (λ (f : FramesOf). f.limit) same in
    omega (arith, up, free, taken, limit)

-- empty queues occupy nothing
pub none_occupied : (count : ℕ) → sum_by blocks_in (replicate count []) ≡ 0
none_occupied zero = refl
none_occupied (suc count) = none_occupied count
