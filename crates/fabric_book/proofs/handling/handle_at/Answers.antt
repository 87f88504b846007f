-- What was in hand is handled, and the book takes what came of it.

use Rattle.std.proofs.Common.{◌≡◌, ◌∙◌, ◌++◌, ◌<◌, List, ap, subst, sym}
use Rattle.std.proofs.lemmas.Result.{on_ok_weaker}
use Rattle.std.specs.List.{flat_map}
use Rattle.std.specs.Prelude.{Option, option_to_list}
use Rattle.net_state.specs.declared.line.Line.{Line}
use Rattle.switch_core.specs.Bytes.{OutOf}
use Rattle.net_state.specs.Fabric.{FabricOf, StationOf, count, is_empty, station}
use Rattle.net_state.specs.Fits.{IsHandPort}
use Rattle.net_world.specs.Histories.{HistoryOf, fabric_of, world_of}
use Rattle.fabric_book.specs.Nets.{IsSwitchKept}
use Rattle.fabric_book.proofs.HandLemmas.{done_is, hand_below, hand_filled, hand_full, hand_port, hand_within, hand_working, hand_works, handled_told, stands_is}
use Rattle.fabric_book.proofs.OwnLemmas.{handle_own}
use Rattle.fabric_book.proofs.PutLemmas.{filled}
use Rattle.fabric_book.proofs.WorldFacts.{place_sound}
use Rattle.fabric_book.proofs.handling.handle_at.Goals as goal

pub station-station-requires : goal.station-station-requires
station-station-requires c =
    let h = c.args.book.now in
    subst (λ (f : FabricOf). c.args.s < count f) (sym c.fabric.ensures) (hand_below h.script c.requires.script h.events c.args.s c.requires.lawful)

pub handle-requires-clause-full : goal.handle-requires-clause-full
handle-requires-clause-full c =
    let h = c.args.book.now in
    let at : c.station-station.result.now ≡ station (fabric_of h) c.args.s = c.station-station.ensures ∙ ap (λ (f : FabricOf). station f c.args.s) c.fabric.ensures in
    ap is_empty (c.hand-hand.ensures ∙ ap (λ (x : StationOf). x.hand) at) ∙ hand_filled h.script c.requires.script h.events c.args.s c.requires.lawful

pub handle-requires-clause-port : goal.handle-requires-clause-port
handle-requires-clause-port c =
    let h = c.args.book.now in
    let at : c.station-station.result.now ≡ station (fabric_of h) c.args.s = c.station-station.ensures ∙ ap (λ (f : FabricOf). station f c.args.s) c.fabric.ensures in
    subst IsHandPort (sym (c.hand-hand.ensures ∙ ap (λ (x : StationOf). x.hand) at)) (hand_port h.script c.requires.script h.events c.args.s c.requires.lawful)

pub handle-requires-clause-works : goal.handle-requires-clause-works
handle-requires-clause-works c =
    let h = c.args.book.now in
    hand_works h.script c.requires.script h.events c.args.s c.requires.lawful c.args.switch.now c.args.bytes.now c.requires.kept

pub handle-requires-clause-working : goal.handle-requires-clause-working
handle-requires-clause-working c =
    let h = c.args.book.now in
    hand_working h.script c.requires.script h.events c.args.s c.requires.lawful c.args.switch.now c.args.bytes.now c.requires.kept

pub handle-requires-2-clause-within : goal.handle-requires-2-clause-within
handle-requires-2-clause-within c =
    let h = c.args.book.now in
    hand_within h.script c.requires.script h.events c.args.s c.requires.lawful

pub handle-requires-2-clause-done : goal.handle-requires-2-clause-done
handle-requires-2-clause-done c =
    let h = c.args.book.now in
    let x = (world_of h).switches c.args.s in
    let at : c.station-station.result.now ≡ station (fabric_of h) c.args.s = c.station-station.ensures ∙ ap (λ (f : FabricOf). station f c.args.s) c.fabric.ensures in
    let hand : c.hand-hand.result ≡ (station (fabric_of h) c.args.s).hand = c.hand-hand.ensures ∙ ap (λ (y : StationOf). y.hand) at in
    let is = c.in_ok-handle.ensures.handled x c.requires.kept.stands in
    let shown = c.write_note.ensures ∙ c.note.ensures ∙ ap (λ (y : StationOf). y.note) at ∙ (place_sound h.script c.requires.script h.events c.args.s (hand_within h.script c.requires.script h.events c.args.s c.requires.lawful)).note in
    done_is (world_of h) c.args.s c.hand-hand.result c.args.bytes.now hand c.requires.kept.frame c.as_slice-frames.result.now c.handle.new.note c.is_spent.result (hand_full h.script c.requires.script h.events c.args.s c.requires.lawful)
    (c.as_slice-frames.ensures.all ∙ ap (λ (o : OutOf). o.frames) c.out.view_is ∙ is.frames) (c.in_ok-handle.ensures.note x c.requires.kept.stands shown) (c.is_spent.ensures.stands _ is.stands)

pub returns-clause-kept : goal.returns-clause-kept
returns-clause-kept c =
    let h = c.args.book.now in
    let s = c.args.s in
    let at : c.station-station.result.now ≡ station (fabric_of h) c.args.s = c.station-station.ensures ∙ ap (λ (f : FabricOf). station f c.args.s) c.fabric.ensures in
    let hand : c.hand-hand.result ≡ (station (fabric_of h) c.args.s).hand = c.hand-hand.ensures ∙ ap (λ (y : StationOf). y.hand) at in
    let is = c.in_ok-handle.ensures.handled ((world_of h).switches s) c.requires.kept.stands in
    let after : IsSwitchKept (world_of c.handle-2.new.self) c.args.s c.handle.new.switch c.args.bytes.now =
    subst (λ (g : HistoryOf). IsSwitchKept (world_of g) s c.handle.new.switch c.args.bytes.now) (sym c.handle-2.ensures.handled)
    (handle_own h.script c.requires.script h.events s (hand_within h.script c.requires.script h.events s c.requires.lawful) c.requires.lawful c.args.switch.now c.handle.new.switch c.args.bytes.now c.args.bytes.now c.requires.kept c.handle.ensures.start c.handle.ensures.works
    (stands_is (world_of h) s c.hand-hand.result c.args.bytes.now hand c.requires.kept.frame c.handle.new.switch is.stands)) in
    on_ok_weaker c.push_all.result (λ _. after) c.push_all.ensures

pub returns-clause-told : goal.returns-clause-told
returns-clause-told c =
    let h = c.args.book.now in
    let s = c.args.s in
    let x = (world_of h).switches c.args.s in
    let frames = c.as_slice-frames.result.now in
    let at : c.station-station.result.now ≡ station (fabric_of h) c.args.s = c.station-station.ensures ∙ ap (λ (f : FabricOf). station f c.args.s) c.fabric.ensures in
    let hand : c.hand-hand.result ≡ (station (fabric_of h) c.args.s).hand = c.hand-hand.ensures ∙ ap (λ (y : StationOf). y.hand) at in
    let is = c.in_ok-handle.ensures.handled x c.requires.kept.stands in
    let long = c.handle-2.ensures.room ∙ c.as_mut_slice.ensures.len in
    let items : c.deref.result.now ≡ c.handle-2.new.puts = c.deref.ensures.value ∙ filled _ c.handle-2.new.puts _ long in
    let shown = c.write_note.ensures ∙ c.note.ensures ∙ ap (λ (y : StationOf). y.note) at ∙ (place_sound h.script c.requires.script h.events s (hand_within h.script c.requires.script h.events s c.requires.lawful)).note in
    on_ok_weaker c.push_all.result
    (λ (told : c.push_all.new.self ≡ c.handle.new.lines ++ flat_map option_to_list c.deref.result.now).
    handled_told (world_of h) s c.hand-hand.result c.args.bytes.now hand c.requires.kept.frame frames c.handle-2.new.puts c.args.lines.now c.handle.new.lines c.push_all.new.self
    (c.as_slice-frames.ensures.all ∙ ap (λ (o : OutOf). o.frames) c.out.view_is ∙ is.frames) c.handle-2.ensures.told (c.in_ok-handle.ensures.told x c.requires.kept.stands shown)
    (told ∙ ap (λ (puts : List (Option Line)). c.handle.new.lines ++ flat_map option_to_list puts) items))
    c.push_all.ensures
