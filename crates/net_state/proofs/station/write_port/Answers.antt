-- The life is the same, and so all ports are shown with the view of this one in its place.

use Rattle.std.proofs.Common.{◌≡◌, ◌∙◌, ◌-◌, List, ap, ap₂, length, slice_get, slice_set, sym}
use Rattle.an_base.specs.Ports.{NoteOf, PortViewOf}
use Rattle.an_base.specs.Values.{LifeId}
use Rattle.net_state.proofs.PortLemmas.{port_put}
use Rattle.net_state.proofs.station.write_port.Goals as goal

pub returns : goal.returns
returns c =
    let port = c.args.port in
    let old = c.args.to.now in
    let new = c.args.note.now in
    let before = ap (λ (n : NoteOf). length n.ports) (sym c.to.view_is) ∙ c.as_slice-before.ensures.twelve in
    let after = ap (λ (n : NoteOf). length n.ports) (sym c.note.view_is) ∙ c.as_slice-after.ensures.twelve in
    let number = c.as_u8-number.ensures in
    let view = c.get.ensures ∙ ap (λ k. slice_get c.note.inside.ports (k - 1)) number ∙ ap (λ (n : NoteOf). slice_get n.ports (port - 1)) c.note.view_is in
    let life : c.to.inside.life ≡ c.note.inside.life = ap (λ (n : NoteOf). n.life) c.to.view_is ∙ sym c.requires.only.life ∙ sym (ap (λ (n : NoteOf). n.life) c.note.view_is) in
    let ports : c.set.new.self ≡ c.note.inside.ports =
    c.set.ensures ∙ ap (λ k. slice_set c.to.inside.ports (k - 1) c.get.result) number ∙ ap (λ (n : NoteOf). slice_set n.ports (port - 1) c.get.result) c.to.view_is
    ∙ port_put port old.ports new.ports c.get.result c.requires.least c.requires.most before after c.requires.only.others view
    ∙ sym (ap (λ (n : NoteOf). n.ports) c.note.view_is) in
    ap₂ (λ (l : LifeId) (vs : List PortViewOf). record { life = l; epoch = c.note.inside.epoch; ports = vs; load_due = c.note.inside.load_due; unacked = c.note.inside.unacked }) life ports ∙ c.note.view_is
