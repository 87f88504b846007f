-- The state of the wires, the effect of each call on it, and the result of putting or taking a frame.
use Rattle.std.specs.Prelude.{◌≡◌, ℕ, ◌+◌, ◌-◌, ◌*◌, ◌/◌, ◌%◌, ◌^◌, ◌<◌, min, List, [], length, map}
use Rattle.std.specs.Prelude.{replicate}
use Rattle.std.specs.Prelude.{slice_index_or, slice_set, Option, Some, None, is_some, Bool, true, false, not}
use Rattle.std.specs.Prelude.{◌&&◌, nat_lt, if◌then◌else◌}
use Rattle.std.specs.List.{range_with_len}
use Rattle.net_graph.specs.declared.wiring.Far.{Far}
use Rattle.net_graph.specs.declared.wiring.Far.TheVariants.{Switch, HostAt}
use Rattle.net_graph.specs.Wires.{Wires, far_at}
use Rattle.frame_region.specs.Sizes.{blocks_of}
use Rattle.wire_set.specs.declared.side.Side.{Side}
use Rattle.wire_set.specs.declared.side.Loss.TheVariants.{Down, Told, NoRoom}
use Rattle.wire_set.specs.declared.side.Put.{Put}
use Rattle.wire_set.specs.declared.side.Put.TheVariants.{Kept, Lost}
use Rattle.wire_set.specs.declared.side.Taken.{Taken}
use Rattle.wire_set.specs.Frames.{FramesOf, frames_at, frame, put_frame, clear, move_first, move_second}

-- the state of the wires: for each port of each switch its side of a link, with the counts of the wire into it, and
-- the frames on that wire; port 0, which has no link, has the frame that the switch holds
pub record WiresOf : Type 0 where
  pub sides : List Side
  pub frames : FramesOf

-- the index of a port, 0 to 12, of a switch
abbrev pub place : ℕ → ℕ → ℕ
place switch port = 13 * switch + port

-- a port without a link
abbrev pub unused : Side
unused = record { far = None; is_up = false; lose = 0; again = 0; swap = 0 }

-- the side at index `at`
abbrev pub side_at : WiresOf → ℕ → Side
side_at wires at = slice_index_or wires.sides at unused

-- the frames on the wire into the port at index `at`
abbrev pub wire_at : WiresOf → ℕ → List (List ℕ)
wire_at wires at = frames_at wires.frames at

-- the frame that a switch holds, if it holds one
abbrev pub hand_of : WiresOf → ℕ → List (List ℕ)
hand_of wires switch = wire_at wires (place switch 0)

-- whether there is a link of two switch ports
abbrev pub is_link : Option Far → Bool
is_link None = false
is_link (Some (Switch switch port)) = true
is_link (Some (HostAt host)) = false

-- whether the port at index `at` has a link of two switch ports, and the wire into it a frame
abbrev pub has_frame_on : WiresOf → ℕ → Bool
has_frame_on wires at = is_link (side_at wires at).far && nat_lt 0 (length (wire_at wires at))

-- the index of the port at the other end of a link
abbrev pub far_place : Option Far → ℕ
far_place None = 0
far_place (Some (Switch switch port)) = place switch port
far_place (Some (HostAt host)) = 0

-- the port has a link of two switch ports
abbrev pub HasLink : WiresOf → ℕ → ℕ → Type 0
HasLink wires switch port = (port < 13) × (is_link (side_at wires (place switch port)).far ≡ true)

-- the port has a link or a host
abbrev pub IsUsed : WiresOf → ℕ → ℕ → Type 0
IsUsed wires switch port = (port < 13) × (is_some (side_at wires (place switch port)).far ≡ true)

-- the index of the wire out of a switch at a port: that of the far port
abbrev pub wire_out : WiresOf → ℕ → ℕ → ℕ
wire_out wires switch port = far_place (side_at wires (place switch port)).far

-- the wires with another side at index `at`
abbrev pub with_side : ℕ → Side → WiresOf → WiresOf
with_side at side wires = record wires { sides = slice_set wires.sides at side }

-- the side of a port at the start: its link, if it has one, is up
abbrev pub side_of : Option Far → Side
side_of far = record { far = far; is_up = is_some far; lose = 0; again = 0; swap = 0 }

-- the wires at the start: all links are up, and the wires are empty
abbrev pub start : Wires → ℕ → WiresOf
start wiring blocks = record {
  sides =
      map (λ at. side_of (far_at wiring (at / 13) (at % 13)))
      (range_with_len 0 (13 * length wiring.switches));
  frames = record { queues = replicate (13 * length wiring.switches) []; free = blocks; limit = blocks };
}

-- the side with one loss less to come
abbrev pub less_to_lose : Side → Side
less_to_lose side = record side { lose = side.lose - 1 }

-- the wires after a frame is put on a wire from the port at its other end: it is lost if the link is down, otherwise
-- if a loss is still to come, otherwise if too few blocks are free
abbrev pub put_into : ℕ → ℕ → List ℕ → WiresOf → WiresOf
put_into from wire bytes wires =
    if not (side_at wires from).is_up then wires
    else if nat_lt 0 (side_at wires wire).lose then with_side wire (less_to_lose (side_at wires wire)) wires
    else if nat_lt wires.frames.free (blocks_of bytes) then wires
    else record wires { frames = put_frame wire bytes wires.frames }

-- the result of putting a frame on a wire: the first reason for a loss, or it is kept
abbrev pub what_becomes : ℕ → ℕ → List ℕ → WiresOf → Put
what_becomes from wire bytes wires =
    if not (side_at wires from).is_up then Lost Down
    else if nat_lt 0 (side_at wires wire).lose then Lost Told
    else if nat_lt wires.frames.free (blocks_of bytes) then Lost (NoRoom (blocks_of bytes) wires.frames.free)
    else Kept

-- whether the second frame is taken: an exchange is still to come, and there are two frames
abbrev pub is_second : ℕ → WiresOf → Bool
is_second wire wires = nat_lt 0 (side_at wires wire).swap && nat_lt 1 (length (wire_at wires wire))

-- the frame that is taken: the second one or the first
abbrev pub taken_frame : ℕ → WiresOf → List ℕ
taken_frame wire wires = if is_second wire wires then frame wires.frames wire 1 else frame wires.frames wire 0

-- the side with one exchange less to come
abbrev pub less_to_swap : Side → Side
less_to_swap side = record side { swap = side.swap - 1 }

-- the wires after a frame is taken from a wire, and the switch holds it
abbrev pub held_from : ℕ → ℕ → WiresOf → WiresOf
held_from wire hand wires =
    if is_second wire wires
    then record (with_side wire (less_to_swap (side_at wires wire)) wires) {
      frames = move_second wire hand wires.frames;
    }
    else record wires { frames = move_first wire hand wires.frames }

-- the side with one copy less to come
abbrev pub less_again : Side → Side
less_again side = record side { again = side.again - 1 }

-- whether a copy of the frame that is taken is still to come
abbrev pub is_copied : ℕ → WiresOf → Bool
is_copied wire wires = nat_lt 0 (side_at wires wire).again

-- the wires that the copy is put into, with one copy less to come
abbrev pub before_copy : ℕ → WiresOf → WiresOf
before_copy wire wires = with_side wire (less_again (side_at wires wire)) wires

-- the wires after a copy of the frame is put at the end of the wire, if a copy is still to come
abbrev pub copied_from : ℕ → List ℕ → WiresOf → WiresOf
copied_from wire bytes wires =
    if is_copied wire wires
    then put_into (far_place (side_at wires wire).far) wire bytes (before_copy wire wires)
    else wires

-- the result for the copy, if there is one
abbrev pub what_copy_becomes : ℕ → List ℕ → WiresOf → Option Put
what_copy_becomes wire bytes wires =
    if is_copied wire wires
    then Some (what_becomes (far_place (side_at wires wire).far) wire bytes (before_copy wire wires))
    else None

-- the wires after a frame is taken from a wire and held, and then copied if a copy is still to come
abbrev pub take_from : ℕ → ℕ → WiresOf → WiresOf
take_from wire hand wires = copied_from wire (taken_frame wire wires) (held_from wire hand wires)

-- the result of taking a frame from a wire
abbrev pub how_taken : ℕ → ℕ → WiresOf → Taken
how_taken wire hand wires = record {
  second = is_second wire wires;
  copied = what_copy_becomes wire (taken_frame wire wires) (held_from wire hand wires);
}

-- the wires after the frame that a switch holds is dropped
abbrev pub release_from : ℕ → WiresOf → WiresOf
release_from hand wires = record wires { frames = clear hand wires.frames }

-- the wires with one side of a link up or down
abbrev pub with_up : Bool → ℕ → WiresOf → WiresOf
with_up up at wires = with_side at (record (side_at wires at) { is_up = up }) wires

-- the wires with a link up or down at both its ends
abbrev pub link_set : Bool → Option Far → ℕ → WiresOf → WiresOf
link_set up None at wires = with_up up at wires
link_set up (Some (HostAt host)) at wires = with_up up at wires
link_set up (Some (Switch switch port)) at wires = with_up up (place switch port) (with_up up at wires)

-- the wires without the frames on both wires of a link
abbrev pub wires_cleared : Option Far → ℕ → WiresOf → WiresOf
wires_cleared None at wires = wires
wires_cleared (Some (HostAt host)) at wires = wires
wires_cleared (Some (Switch switch port)) at wires =
    record wires { frames = clear (place switch port) (clear at wires.frames) }

-- the number of frames on both wires of a link
abbrev pub on_both : Option Far → ℕ → WiresOf → ℕ
on_both None at wires = 0
on_both (Some (HostAt host)) at wires = 0
on_both (Some (Switch switch port)) at wires =
    length (wire_at wires at) + length (wire_at wires (place switch port))

-- the wires after the link of a port goes down, and the frames of both its wires are dropped
abbrev pub fail_at : ℕ → WiresOf → WiresOf
fail_at at wires = wires_cleared (side_at wires at).far at (link_set false (side_at wires at).far at wires)

-- the wires after the link of a port goes up
abbrev pub repair_at : ℕ → WiresOf → WiresOf
repair_at at wires = link_set true (side_at wires at).far at wires

-- the number of frames that are dropped if the link of a port goes down
abbrev pub dropped_at : ℕ → WiresOf → ℕ
dropped_at at wires = on_both (side_at wires at).far at wires

-- a count increased by `more`, up to 2^32 - 1
abbrev pub more_told : ℕ → ℕ → ℕ
more_told count more = min (count + more) (2 ^ 32 - 1)

-- the wires with `more` losses added to those still to come on a wire
abbrev pub lose_on : ℕ → ℕ → WiresOf → WiresOf
lose_on wire more wires =
    with_side wire (record (side_at wires wire) { lose = more_told (side_at wires wire).lose more }) wires

-- the wires with `more` copies added to those still to come on a wire
abbrev pub again_on : ℕ → ℕ → WiresOf → WiresOf
again_on wire more wires =
    with_side wire (record (side_at wires wire) { again = more_told (side_at wires wire).again more }) wires

-- the wires with `more` exchanges added to those still to come on a wire
abbrev pub swap_on : ℕ → ℕ → WiresOf → WiresOf
swap_on wire more wires =
    with_side wire (record (side_at wires wire) { swap = more_told (side_at wires wire).swap more }) wires

-- the far ends of links are among the ports, and each port has its wire
pub record IsSound (wires : WiresOf) : Type 0 where
  pub size : length wires.sides ≡ length wires.frames.queues
  pub far :
      (at : ℕ) → is_link (side_at wires at).far ≡ true → far_place (side_at wires at).far < length wires.sides

-- the port at index `other` has a link to that at index `at`, and their links are both up or both down
pub record AreOne (wires : WiresOf) (at other : ℕ) : Type 0 where
  pub link : is_link (side_at wires other).far ≡ true
  pub back : far_place (side_at wires other).far ≡ at
  pub up : (side_at wires other).is_up ≡ (side_at wires at).is_up

-- the two ends of each link agree
abbrev pub LinksAgree : WiresOf → Type 0
LinksAgree wires =
    (at : ℕ) → is_link (side_at wires at).far ≡ true → AreOne wires at (far_place (side_at wires at).far)

-- every port has the same at its far side in both states
abbrev pub HaveSameFarEnds : WiresOf → WiresOf → Type 0
HaveSameFarEnds old new = (at : ℕ) → (side_at new at).far ≡ (side_at old at).far
