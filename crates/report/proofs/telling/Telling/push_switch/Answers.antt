use Rattle.std.proofs.Common.{◌≡◌, ◌++◌, [], ◌∷◌, Option, OnOk, subst}
use Rattle.std.specs.Option.{option_map_or}
use Rattle.an_base.specs.Values.{LifeId}
use Rattle.row_text.specs.Names.{life_text}
use Rattle.report.specs.Events.{spaced}
use Rattle.report.proofs.telling.Telling.push_switch.Goals as goal

pub returns-in-None : goal.returns-in-None
returns-in-None c =
    let script = c.args.self.now.script.now in
    subst (λ (life : Option LifeId). OnOk c.push_word.result (c.push_word.new.text.items ≡ c.args.text.now.items ++ spaced (option_map_or (life_text script) life [] ∷ []))) c.in-None.ensures c.push_word.ensures

pub returns-in-Some : goal.returns-in-Some
returns-in-Some c =
    let script = c.args.self.now.script.now in
    subst (λ (life : Option LifeId). OnOk c.push_life_at.result (c.push_life_at.new.text.items ≡ c.args.text.now.items ++ spaced (option_map_or (life_text script) life [] ∷ []))) c.in-Some.ensures c.push_life_at.ensures
