use Rattle.std.specs.Prelude.{◌≡◌, ℕ, cond, true}
use Rattle.std.proofs.Common.{sym, ◌∙◌, ap, subst}
use Rattle.wire_set.specs.WireState.{WiresOf, is_link, place, put_into, side_at, wire_out}
use Rattle.switch_core.specs.Bytes.{BytesOut}
use Rattle.net_state.specs.Effects.{put_out}
use Rattle.net_state.specs.Fabric.{FabricOf}
use Rattle.net_state.specs.Fits.{Fits}
use Rattle.net_state.specs.Kept.{fabric_of_all}
use Rattle.net_state.proofs.StepLemmas.{frame_some, frame_most}
use Rattle.net_state.proofs.FitsLemmas.{put_fits}
use Rattle.net_state.proofs.fabric.Fabric.put.Goals as goal

pub put-requires-clause-most : goal.put-requires-clause-most
put-requires-clause-most c = rw (c.bytes.ensures) (frame_most c.args.frame.now c.requires.frame)

-- out of a port with a link the frame is put
put_is : (w : WiresOf) (s : ℕ) (x : BytesOut) → is_link (side_at w (place s x.port)).far ≡ true → put_out s x w ≡ put_into (place s x.port) (wire_out w s x.port) x.bytes w
put_is w s x link = ap (λ b. cond b (put_into (place s x.port) (wire_out w s x.port) x.bytes w) w) link

put_there : (f : FabricOf) (s : ℕ) (x : BytesOut) → is_link (side_at f.wires (place s x.port)).far ≡ true → Fits (record f { wires = put_out s x f.wires })
    → Fits (record f { wires = put_into (place s x.port) (wire_out f.wires s x.port) x.bytes f.wires })
put_there f s x link fits = subst (λ (w : WiresOf). Fits (record f { wires = w })) (put_is f.wires s x link) fits

pub invariant_of-self : goal.invariant_of-self
invariant_of-self c =
    let f = fabric_of_all c.self.inside.plan c.self.inside.wires c.self.inside.stations c.self.inside.traffic c.self.inside.sent c.self.inside.past in
    let far : is_link c.side.result.far ≡ true = sym c.is_link.ensures ∙ c.if-not-is_link.false in
    let link : is_link (side_at c.self.inside.wires (place c.args.s c.args.frame.now.port)).far ≡ true = rw (c.side.ensures, c.port.ensures) at far in
    let fits = put_there f c.args.s c.args.frame.now link (put_fits f c.args.s c.args.frame.now c.self.invariant.fits (frame_some c.args.frame.now c.requires.frame)) in
    rw (c.put.ensures.put, c.bytes.ensures, c.port.ensures) (record { fits = fits; most = c.self.invariant.most })
