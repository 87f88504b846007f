-- Handling is its three parts in turn.

use Rattle.std.specs.Prelude.{◌≡◌, ◌<◌, ◌≤◌, ℕ, List, [], ◌∷◌, All, length, slice_index_or, slice_set, Bool, true}
use Rattle.std.proofs.Common.{◌∙◌, ap, arith, subst}
use Rattle.std.proofs.lemmas.List.{get_or-set_same, set-set}
use Rattle.std.proofs.lemmas.List.Elements.{All-head, All-tail}
use Rattle.an_base.specs.Ports.{NoteOf}
use Rattle.switch_core.specs.Bytes.{BytesOut}
use Rattle.net_state.specs.declared.hand.Hand.TheVariants as hand
use Rattle.net_state.specs.Fabric.{FabricOf, StationOf, station, vacant, count, is_full_at}
use Rattle.net_state.specs.Fits.{Fits}
use Rattle.net_state.specs.Effects.{after_handle, all_put_out, counted, emptied, put_out, released, showing, shows}
use Rattle.net_state.proofs.RoomLemmas.{full_set, full_is}
use Rattle.net_state.proofs.FitsLemmas.{station_below, emptied_fits, put_fits, shows_fits}

-- after frames were put out
abbrev pub putting : ℕ → List BytesOut → FabricOf → FabricOf
putting place frames fabric = record fabric { wires = all_put_out place frames fabric.wires }

pub handle_parts : (place : ℕ) (frames : List BytesOut) (note : NoteOf) (spent : Bool) (fabric : FabricOf) → place < length fabric.stations → shows place note spent (putting place frames (emptied place fabric)) ≡ after_handle place frames note spent fabric
handle_parts place frames note spent fabric below =
    let x = record (station fabric place) { hand = hand.Empty } in
    let y = record (showing note spent (station fabric place)) { hand = hand.Empty } in
    let here : slice_index_or (slice_set fabric.stations place x) place vacant ≡ x = get_or-set_same fabric.stations place x vacant below in
    let twice : slice_set (slice_set fabric.stations place x) place (showing note spent (slice_index_or (slice_set fabric.stations place x) place vacant)) ≡ slice_set fabric.stations place y =
    ap (λ (z : StationOf). slice_set (slice_set fabric.stations place x) place (showing note spent z)) here ∙ set-set fabric.stations place x y in
    ap (λ (stations : List StationOf). counted (record fabric { stations = stations; wires = all_put_out place frames (released (station fabric place).hand place fabric.wires) })) twice

-- frames go out in turn
all_put_fits : (f : FabricOf) (s : ℕ) (frames : List BytesOut) → Fits f → All (λ (out : BytesOut). 1 ≤ length out.bytes) frames → Fits (putting s frames f)
all_put_fits f s [] fits some = fits
all_put_fits f s (out ∷ more) fits some =
    all_put_fits (record f { wires = put_out s out f.wires }) s more (put_fits f s out fits (All-head (λ (one : BytesOut). 1 ≤ length one.bytes) out more some))
    (All-tail (λ (one : BytesOut). 1 ≤ length one.bytes) out more some)

-- A switch has handled what it had in hand
pub handle_fits : (f : FabricOf) (s : ℕ) (frames : List BytesOut) (note : NoteOf) (spent : Bool) → Fits f → s < count f → is_full_at f s ≡ true → All (λ (out : BytesOut). 1 ≤ length out.bytes) frames
    → Fits (after_handle s frames note spent f)
handle_fits f s frames note spent fits at full some =
    let x = record (station f s) { hand = hand.Empty } in
    let below = station_below f s fits at in
    let now = full_set f.stations s x below in
    let one = full_is (station f s).hand full in
    let room = fits.room in
    subst Fits (handle_parts s frames note spent f below)
    (shows_fits (putting s frames (emptied s f)) s note spent (all_put_fits (emptied s f) s frames (emptied_fits f s fits at full) some) at (omega (arith, now, one, room)))
