use Rattle.std.proofs.Common.{◌∙◌, ap, subst, List}
use Rattle.std.proofs.lemmas.Result.{on_ok_weaker}
use Rattle.std.specs.List.{list_all}
use Rattle.an_base.specs.Values.{PeerAt}
use Rattle.epoch_core.specs.Epoch.{is_settled}
use Rattle.epoch_core.specs.StandsFor.{CoreOf}
use Rattle.epoch_core.specs.Steps.{Settles}
use Rattle.epoch_core.proofs.SettleLemmas.{settles_as_root}
use Rattle.epoch_core.proofs.epoch.Core.settle.Goals as goal

pub returns-then-is_root : goal.returns-then-is_root
returns-then-is_root c =
    on_ok_weaker c.finish_as_root.result
    (λ f. subst (λ (o : CoreOf). Settles o c.finish_as_root.new.self c.args.sends.now c.finish_as_root.new.sends) c.self.view_is
    (settles_as_root (record { card = c.self.inside.card; epoch = c.self.inside.epoch; offers = c.self.inside.offers; ports = c.self.inside.ports; position = c.self.inside.position; version = c.self.inside.version; is_stable = c.self.inside.is_stable; finish = c.self.inside.finish }) c.are_settled-self-inside.result c.finish_as_root.new.self c.args.sends.now c.finish_as_root.new.sends
    (λ l h. c.are_settled-self-inside.ensures l h ∙ ap (λ (links : List PeerAt). list_all (is_settled c.self.inside.version l) links) c.links.ensures)
    c.if-not-self.false c.if-is_root.ensures f))
    c.finish_as_root.ensures
