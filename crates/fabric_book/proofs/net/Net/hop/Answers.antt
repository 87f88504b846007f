-- A packet made a hop.

use Rattle.std.proofs.Common.{◌≡◌, ◌∙◌, ◌++◌, ◌∷◌, [], List, ap, refl}
use Rattle.std.proofs.lemmas.Result.{on_ok_weaker}
use Rattle.an_base.specs.declared.event.Event.TheVariants.{Move}
use Rattle.net_world.specs.Histories.{HistoryOf, world_of}
use Rattle.net_world.specs.Lines.{lines_of}
use Rattle.net_state.specs.declared.line.Line.{Line}
use Rattle.fabric_book.proofs.NetLemmas.{book_at, may_at, net_as, net_driven}
use Rattle.fabric_book.proofs.net.Net.hop.Goals as goal

pub invariant_of-self : goal.invariant_of-self
invariant_of-self c =
    let n = c.self.inside in
    net_as _ _ _ _ _ _ _ _ _ (net_driven n.book (Move c.args.packet) n.lost n.powers.items n.switches.items n.bytes.items c.self.invariant (may_at n.book n.lost c.args.self.now c.self.view_is (Move c.args.packet) c.requires.lawful) refl)
    c.hop.ensures.moved refl refl refl

pub returns-clause-told : goal.returns-clause-told
returns-clause-told c =
    let n = c.self.inside in
    let told = c.hop.ensures.told ∙ ap (λ (h : HistoryOf). lines_of (world_of h) (Move c.args.packet)) (book_at n.book n.lost c.args.self.now c.self.view_is) in
    on_ok_weaker c.push.result
    (λ (pushed : c.push.new.self ≡ c.args.lines.now ++ c.hop.result ∷ []). pushed ∙ ap (λ (xs : List Line). c.args.lines.now ++ xs) told)
    c.push.ensures.ok
