use Rattle.std.proofs.Common.{◌≡◌, ◌∙◌, sym, refl, true, arith}
use Rattle.std.proofs.lemmas.Grind.{common_steps}
use Rattle.dep_check.specs.declared.channel.Channel.{Channel}
use Rattle.dep_check.specs.Tables.{has_at}
use Rattle.dep_check.proofs.StepLemmas.{before_found, if_spot}
use Rattle.dep_check.proofs.steps.Steps.before.Goals as goal

pub returns-clause-before : goal.returns-clause-before
returns-clause-before c = λ a.
    let s = c.args.self.now in
    let near : Channel = record { at = c.args.channel.at; port = c.args.entry } in
    let has : has_at s.exits.items near c.args.channel.port ≡ true = grind (arith, common_steps) in
    before_found s a c.args.channel near c.in_ok-_link._link c.far-2.result refl has (sym c.in_ok-_link.ensures.far) c.far-2.ensures.far

pub returns-clause-spot : goal.returns-clause-spot
returns-clause-spot c = if_spot c.far-2.result (λ b e. c.far-2.ensures.links.within (record { at = c.args.channel.at; port = c.args.entry }) b (sym c.far-2.ensures.far ∙ e))
