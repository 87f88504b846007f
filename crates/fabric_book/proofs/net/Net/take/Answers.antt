-- A switch took a frame, whose bytes are in its buffer.

use Rattle.std.proofs.Common.{◌≡◌, ◌∙◌, ◌++◌, List, ap, arith, refl, slice_set}
use Rattle.std.specs.Prelude.{option_to_list}
use Rattle.std.proofs.lemmas.Result.{on_ok_weaker}
use Rattle.an_base.specs.declared.event.Event.TheVariants.{Take}
use Rattle.net_state.specs.Fabric.{held_bytes}
use Rattle.net_world.specs.Histories.{HistoryOf, fabric_of, world_of}
use Rattle.net_world.specs.Lines.{lines_of}
use Rattle.net_state.specs.declared.line.Line.{Line}
use Rattle.fabric_book.proofs.NetLemmas.{book_at, here_at, may_at, net_as, net_below, net_filled}
use Rattle.fabric_book.proofs.OwnLemmas.{take_own}
use Rattle.fabric_book.proofs.net.Net.take.Goals as goal

pub index_mut-requires : goal.index_mut-requires
index_mut-requires c =
    let n = c.self.inside in
    let below = net_below n.book (Take c.args.s c.args.port) c.args.s c.self.invariant.script refl (may_at n.book n.lost c.args.self.now c.self.view_is (Take c.args.s c.args.port) c.requires.lawful) in
    let much = c.self.invariant.buffer_count in
    omega (arith, c.from.ensures, below, much, n.bytes.ok.0)

pub take_at-requires : goal.take_at-requires
take_at-requires c = let n = c.self.inside in may_at n.book n.lost c.args.self.now c.self.view_is (Take c.args.s c.args.port) c.requires.lawful

pub invariant_of-self : goal.invariant_of-self
invariant_of-self c =
    let n = c.self.inside in
    let lawful = may_at n.book n.lost c.args.self.now c.self.view_is (Take c.args.s c.args.port) c.requires.lawful in
    let below = net_below n.book (Take c.args.s c.args.port) c.args.s c.self.invariant.script refl lawful in
    let bytes = c.take_at.new.out in
    net_as _ _ _ _ _ _ _ _ _ (net_filled n.book (Take c.args.s c.args.port) n.lost n.powers.items n.switches.items n.bytes.items c.self.invariant (here_at n.book n.lost c.args.self.now c.self.view_is c.requires.here) lawful c.args.s bytes below refl
    (λ switch buffer is. take_own n.book.script c.self.invariant.script n.book.events c.args.s c.args.port below lawful switch buffer bytes is
    (c.take_at.ensures.bytes ∙ ap (λ (h : HistoryOf). held_bytes (fabric_of h) c.args.s) c.take_at.ensures.taken)))
    c.take_at.ensures.taken refl refl (ap (λ k. slice_set n.bytes.items k bytes) c.from.ensures)

pub returns-clause-told : goal.returns-clause-told
returns-clause-told c =
    let n = c.self.inside in
    let told = c.take_at.ensures.told ∙ ap (λ (h : HistoryOf). lines_of (world_of h) (Take c.args.s c.args.port)) (book_at n.book n.lost c.args.self.now c.self.view_is) in
    on_ok_weaker c.push_some.result
    (λ (pushed : c.push_some.new.self ≡ c.args.lines.now ++ option_to_list c.take_at.result). pushed ∙ ap (λ (xs : List Line). c.args.lines.now ++ xs) told)
    c.push_some.ensures
