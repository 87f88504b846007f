use Rattle.std.proofs.Common.{◌∙◌, sym, ap, List}
use Rattle.std.specs.Prelude.{is_some}
use Rattle.std.specs.List.{list_any}
use Rattle.std.specs.Ordering.{is_eq}
use Rattle.an_base.specs.Values.{LifeId, EntryOf}
use Rattle.an_base.specs.Order.{life_cmp}
use Rattle.epoch_core.specs.Epoch.{is_named}
use Rattle.epoch_core.specs.StandsFor.{CoreOf}
use Rattle.epoch_core.proofs.SettleLemmas.{on_ok_with}
use Rattle.epoch_core.proofs.AcceptLemmas.{accepts-finished, accepts-unnamed, accepts-named}
use Rattle.epoch_core.proofs.epoch.Core.accept_topo.Goals as goal

pub returns-then-is_some : goal.returns-then-is_some
returns-then-is_some c = λ port.
    accepts-finished c.args.self.now port c.args.topo c.args.sends.now
    (ap (λ (o : CoreOf). is_some o.finish) (sym c.self.view_is) ∙ sym c.is_some.ensures ∙ c.if-is_some.true)

pub returns-then-not-is_among : goal.returns-then-not-is_among
returns-then-not-is_among c = λ port.
    accepts-unnamed c.args.self.now port c.args.topo c.args.sends.now
    (ap (λ (o : CoreOf). is_some o.finish) (sym c.self.view_is) ∙ sym c.is_some.ensures ∙ c.if-is_some.false)
    (ap (λ (o : CoreOf). is_named o.card.me c.args.topo) (sym c.self.view_is)
    ∙ ap (λ (me : LifeId). is_named me c.args.topo) (sym c.me.ensures)
    ∙ ap (λ (es : List EntryOf). list_any (λ e. is_eq (life_cmp e.life c.me.result)) es) (sym c.entries.ensures.entries)
    ∙ sym c.is_among.ensures ∙ c.if-not-is_among.true)

pub returns : goal.returns
returns c =
    on_ok_with c.finish_with.result c.finish_with.ensures.core c.finish_with.ensures.sends
    (λ is passes. λ port. accepts-named c.args.self.now c.finish_with.new.self port c.args.topo c.args.sends.now c.finish_with.new.sends
    (ap (λ (o : CoreOf). is_some o.finish) (sym c.self.view_is) ∙ sym c.is_some.ensures ∙ c.if-is_some.false)
    (ap (λ (o : CoreOf). is_named o.card.me c.args.topo) (sym c.self.view_is)
    ∙ ap (λ (me : LifeId). is_named me c.args.topo) (sym c.me.ensures)
    ∙ ap (λ (es : List EntryOf). list_any (λ e. is_eq (life_cmp e.life c.me.result)) es) (sym c.entries.ensures.entries)
    ∙ sym c.is_among.ensures ∙ c.if-not-is_among.false)
    is passes)
