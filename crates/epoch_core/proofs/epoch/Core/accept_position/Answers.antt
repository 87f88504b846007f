use Rattle.std.proofs.Common.{◌∙◌, ap, subst, ℕ, List, [], ◌∷◌, ◌++◌, Bool}
use Rattle.std.specs.Prelude.{◌==◌}
use Rattle.std.proofs.lemmas.Result.{on_ok_weaker}
use Rattle.an_base.specs.Values.{LifeId, PosOf, AnswerOf}
use Rattle.an_base.specs.declared.body.Body.TheVariants.{Pos, Answer}
use Rattle.tree_position.specs.declared.offers.Offer.{Offer}
use Rattle.tree_position.specs.Position.{OffersOf, noted}
use Rattle.epoch_core.specs.declared.epoch.Core.TheInside.{Inside}
use Rattle.epoch_core.specs.Log.{OnPort}
use Rattle.epoch_core.specs.StandsFor.{CoreOf, Accepts}
use Rattle.epoch_core.proofs.AcceptLemmas.{accepts_position}
use Rattle.epoch_core.proofs.epoch.Core.accept_position.Goals as goal

pub returns : goal.returns
returns c =
    let x : OnPort = record { port = c.args.port; body = Pos c.args.told } in
    let offer : LifeId → ℕ → Offer = λ root level. record { root = root; level = level } in
    let offers : Offer → OffersOf = λ o. record { me = c.self.inside.offers.me; links = c.self.inside.offers.links; offered = noted c.self.inside.offers.links c.self.inside.offers.offered c.args.port o } in
    let answer : ℕ → Bool → AnswerOf = λ v up. record { version = v; to_parent = up } in
    let answered : AnswerOf → List OnPort = λ a. c.reposition.new.sends ++ record { port = c.args.port; body = Answer a } ∷ [] in
    let noted_offer = c.note.ensures ∙ ap offers (ap (λ (told : PosOf). offer told.root told.level) c.told.view_is) in
    let up = ap (λ (o : Inside). c.args.port == o.position.port) c.self-inside.view_is ∙ ap (λ (o : CoreOf). c.args.port == o.position.port) c.self-2.view_is in
    let answers_it = c.in_ok-push.ensures.ok ∙ ap answered (c.new-answer.ensures ∙ ap (answer c.told-2.inside.version) up ∙ ap (λ (told : PosOf). answer told.version (c.args.port == c.reposition.new.self.position.port)) c.told-2.view_is) in
    on_ok_weaker c.settle.result
    (λ s. subst (λ (o : CoreOf). Accepts o c.settle.new.self x c.args.sends.now c.settle.new.sends) c.self.view_is
    (accepts_position (record { card = c.self.inside.card; epoch = c.self.inside.epoch; offers = c.self.inside.offers; ports = c.self.inside.ports; position = c.self.inside.position; version = c.self.inside.version; is_stable = c.self.inside.is_stable; finish = c.self.inside.finish }) c.note.new.self c.note_position.new.self c.reposition.new.self c.settle.new.self c.args.port c.args.told c.args.sends.now c.reposition.new.sends c.push.new.self c.settle.new.sends
    noted_offer c.note_position.ensures c.in_ok-reposition.ensures.core c.in_ok-reposition.ensures.sends answers_it s))
    c.settle.ensures
