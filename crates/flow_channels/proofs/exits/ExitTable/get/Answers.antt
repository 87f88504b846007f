use Rattle.std.proofs.Common.{◌≡◌, ◌∙◌, ◌+◌, ◌<◌, ap, sym, arith, get_or, length, ℕ, List}
use Rattle.std.proofs.lemmas.List.{get_or_default}
use Rattle.dep_check.specs.Tables.{place_of}
use Rattle.flow_channels.specs.Board.{exit_set}
use Rattle.flow_channels.proofs.ExitTableLemmas.{set_is, set_within}
use Rattle.flow_channels.proofs.exits.ExitTable.get.Goals as goal

pub returns : goal.returns
returns c =
    let starts = c.self.inside.starts.items in
    let sets = c.self.inside.sets.items in
    let came = c.args.came in
    let are = c.self.invariant in
    let place = c.place_of.ensures.place in
    let low : c.place_of.result < length starts = omega (arith, are.count, c.place_of.ensures.low) in
    let start : get_or starts (place_of came) 0 ≡ c.index.result.now = ap (λ (k : ℕ). get_or starts k 0) (sym place) ∙ get_or_default starts c.place_of.result 0 c.index.result.now low ∙ sym c.index.ensures in
    let room = set_within starts sets came are c.requires.spot in
    let to = c.requires.to in
    let to_is = c.from.ensures in
    let at : get_or starts (place_of came) 0 + c.args.to ≡ c.index.result.now + c.from.result = omega arith in
    let inside : c.index.result.now + c.from.result < length sets = omega arith in
    c.index-2.ensures
    ∙ sym (get_or_default sets (c.index.result.now + c.from.result) 0 c.index-2.result.now inside)
    ∙ ap (λ (k : ℕ). get_or sets k 0) (sym at)
    ∙ sym (set_is starts sets came c.args.to are c.requires.spot to)
    ∙ ap (λ (s : List ℕ). exit_set s came c.args.to) c.self.view_is
