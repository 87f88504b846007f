-- No call changes what is at the far side of a port.
use Rattle.std.proofs.Common.{◌∙◌, refl, ℕ, List, Option, Some, None, Bool, false, not, cond, nat_lt}
use Rattle.std.proofs.lemmas.Bool.{cond_both}
use Rattle.net_graph.specs.declared.wiring.Far.{Far}
use Rattle.net_graph.specs.declared.wiring.Far.TheVariants.{Switch, HostAt}
use Rattle.frame_region.specs.Sizes.{blocks_of}
use Rattle.wire_set.specs.Frames.{put_frame, move_first, move_second}
use Rattle.wire_set.specs.WireState.{WiresOf, place, side_at, with_side, far_place, put_into, less_to_lose, is_second, less_to_swap, held_from, taken_frame, is_copied, before_copy, less_again, copied_from, take_from, with_up, link_set, wires_cleared, fail_at, HaveSameFarEnds}
use Rattle.wire_set.proofs.AgreeLemmas.{side_same, up_far}

pub fars_then : (one two three : WiresOf) → HaveSameFarEnds one two → HaveSameFarEnds two three → HaveSameFarEnds one three
fars_then one two three first later at = later at ∙ first at

pub put_fars : (wires : WiresOf) (from wire : ℕ) (bytes : List ℕ) → HaveSameFarEnds wires (put_into from wire bytes wires)
put_fars wires from wire bytes =
    cond_both (not (side_at wires from).is_up) wires told (HaveSameFarEnds wires) (λ _ at. refl)
    (λ _. cond_both (nat_lt 0 (side_at wires wire).lose) (with_side wire (less_to_lose (side_at wires wire)) wires) kept (HaveSameFarEnds wires) (λ _. (side_same wires wire (less_to_lose (side_at wires wire)) refl refl).far)
    (λ _. cond_both (nat_lt wires.frames.free (blocks_of bytes)) wires (record wires { frames = put_frame wire bytes wires.frames }) (HaveSameFarEnds wires) (λ _ at. refl) (λ _ at. refl)))
  where
    kept : WiresOf
    kept = cond (nat_lt wires.frames.free (blocks_of bytes)) wires (record wires { frames = put_frame wire bytes wires.frames })

    told : WiresOf
    told = cond (nat_lt 0 (side_at wires wire).lose) (with_side wire (less_to_lose (side_at wires wire)) wires) kept

held_fars : (wires : WiresOf) (wire hand : ℕ) → HaveSameFarEnds wires (held_from wire hand wires)
held_fars wires wire hand =
    cond_both (is_second wire wires) (record (with_side wire (less_to_swap (side_at wires wire)) wires) { frames = move_second wire hand wires.frames }) (record wires { frames = move_first wire hand wires.frames })
    (HaveSameFarEnds wires) (λ _. (side_same wires wire (less_to_swap (side_at wires wire)) refl refl).far) (λ _ at. refl)

copied_fars : (wires : WiresOf) (wire : ℕ) (bytes : List ℕ) → HaveSameFarEnds wires (copied_from wire bytes wires)
copied_fars wires wire bytes =
    let before = before_copy wire wires in
    let from = far_place (side_at wires wire).far in
    cond_both (is_copied wire wires) (put_into from wire bytes before) wires (HaveSameFarEnds wires)
    (λ _. fars_then wires before (put_into from wire bytes before) (side_same wires wire (less_again (side_at wires wire)) refl refl).far (put_fars before from wire bytes)) (λ _ at. refl)

pub take_fars : (wires : WiresOf) (wire hand : ℕ) → HaveSameFarEnds wires (take_from wire hand wires)
take_fars wires wire hand =
    let held = held_from wire hand wires in
    fars_then wires held (copied_from wire (taken_frame wire wires) held) (held_fars wires wire hand) (copied_fars held wire (taken_frame wire wires))

pub link_fars : (wires : WiresOf) (up : Bool) (far : Option Far) (at : ℕ) → HaveSameFarEnds wires (link_set up far at wires)
link_fars wires up None at = up_far wires up at
link_fars wires up (Some (HostAt h)) at = up_far wires up at
link_fars wires up (Some (Switch t q)) at =
    fars_then wires (with_up up at wires) (with_up up (place t q) (with_up up at wires)) (up_far wires up at) (up_far (with_up up at wires) up (place t q))

cleared_fars : (wires : WiresOf) (far : Option Far) (at : ℕ) → HaveSameFarEnds wires (wires_cleared far at wires)
cleared_fars wires None at b = refl
cleared_fars wires (Some (HostAt h)) at b = refl
cleared_fars wires (Some (Switch t q)) at b = refl

pub fail_fars : (wires : WiresOf) (at : ℕ) → HaveSameFarEnds wires (fail_at at wires)
fail_fars wires at =
    let far = (side_at wires at).far in
    let down = link_set false far at wires in
    fars_then wires down (wires_cleared far at down) (link_fars wires false far at) (cleared_fars down far at)

-- what was told of a wire
pub told_fars : (wires : WiresOf) (wire lose again swap : ℕ) → HaveSameFarEnds wires (with_side wire (record (side_at wires wire) { lose = lose; again = again; swap = swap }) wires)
told_fars wires wire lose again swap = (side_same wires wire (record (side_at wires wire) { lose = lose; again = again; swap = swap }) refl refl).far
