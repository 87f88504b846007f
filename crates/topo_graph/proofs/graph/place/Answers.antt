use Rattle.std.proofs.lemmas.Fn.{always_returns_same}
use Rattle.std.proofs.Common.{rules}
use Rattle.an_base.specs.Order.{life_cmp}
use Rattle.topo_graph.proofs.PlaceLemmas.{search_found, search_lost}
use Rattle.topo_graph.proofs.graph.place.Goals as goal

pub returns-in-Ok : goal.returns-in-Ok
returns-in-Ok c =
    let found = c.in-Ok.ensures.position (λ e. life_cmp e.life c.args.life) (always_returns_same _ _ _ (λ a r g called. (search rules, search rules))) in
    search_found c.args.entries.now c.args.life c.in-Ok.x c.requires.rising c.in-Ok.ensures.bound found

pub returns-in-Err : goal.returns-in-Err
returns-in-Err c =
    let found = c.in-Err.ensures.position (λ e. life_cmp e.life c.args.life) (always_returns_same _ _ _ (λ a r g called. (search rules, search rules))) in
    search_lost c.args.entries.now c.args.life c.in-Err.field-0 c.requires.rising found
