use Rattle.std.proofs.Common.{◌≡◌, ◌∙◌, sym, ap, ℕ, ◌-◌, arith, Option}
use Rattle.std.specs.Prelude.{find}
use Rattle.std.specs.List.{range_with_len}
use Rattle.std.specs.Option.{option_or}
use Rattle.std.proofs.lemmas.List.Folds.{find-append}
use Rattle.net_gen.specs.Generated.{has_free}
use Rattle.net_gen.proofs.script.first_with_free.Goals as goal

pub returns-in-Some-clause-found : goal.returns-in-Some-clause-found
returns-in-Some-clause-found c =
    let p = has_free c.args.script.now.wires.links in
    let first = range_with_len c.args.first (c.args.end - c.args.first) in
    let others = range_with_len 0 c.args.first in
    sym (find-append p first others ∙ ap (λ (o : Option ℕ). option_or o (find p others)) (sym c.in-Some.ensures.found))

pub returns-in-None-clause-found : goal.returns-in-None-clause-found
returns-in-None-clause-found c =
    let p = has_free c.args.script.now.wires.links in
    let first = range_with_len c.args.first (c.args.end - c.args.first) in
    let others = range_with_len 0 c.args.first in
    let all : c.args.first - 0 ≡ c.args.first = omega arith in
    c.free_among-in-None.ensures.found
    ∙ ap (λ (n : ℕ). find p (range_with_len 0 n)) all
    ∙ sym (find-append p first others ∙ ap (λ (o : Option ℕ). option_or o (find p others)) (sym c.in-None.ensures.found))
