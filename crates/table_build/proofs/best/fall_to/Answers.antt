use Rattle.std.proofs.Common.{◌∙◌, sym, subst, false, Bool, List, Option, length}
use Rattle.table_build.specs.declared.best.Best.{Best}
use Rattle.table_build.specs.declared.link.Link.{Link}
use Rattle.table_build.specs.Bests.{best_at, Goes, IsBest, OverBelow}
use Rattle.table_build.proofs.OverLemmas.{falls, links_known}
use Rattle.table_build.proofs.best.fall_to.Goals as goal
use Rattle.table_build.proofs.best.fall_to.Goals.{then-search, else-search}

pub best_over-over-requires-clause-known : goal.best_over-over-requires-clause-known
best_over-over-requires-clause-known c = rw c.deref.ensures.value (links_known c.args.graph.now c.args.search false c.args.bests.now c.args.y c.args.links.now.upper.items c.requires.graph c.requires.links.upper c.requires.knows)

pub returns : goal.returns
returns c =
    let es = c.args.graph.now in
    let search = c.args.search in
    let y = c.args.y in
    let first : IsBest search.any (λ ps. Goes es search.up false search.from ps y) c.if-search.first = elim c.if-search.branch [
      | then-search w ↦ subst (λ (o : Option Best). IsBest search.any (λ ps. Goes es search.up false search.from ps y) o) (sym (w.first-is ∙ w.known_to-first.ensures))
          (subst (λ (u : Bool). IsBest search.any (λ ps. Goes es u false search.from ps y) (best_at c.args.climbs.now y)) (sym w.if-search.true) (c.requires.climbs w.if-search.true))
      | else-search w ↦ subst (λ (o : Option Best). IsBest search.any (λ ps. Goes es search.up false search.from ps y) o) (sym w.first-is)
          (subst (λ (u : Bool). IsBest search.any (λ ps. Goes es u false search.from ps y) w.no_link-first.result) (sym w.if-search.false) (w.no_link-first.ensures es search.any))
    ] in
    falls es search c.args.links.now y c.if-search.first c.best_over-over.result c.better_of.result c.requires.graph c.requires.down c.requires.links first
    (subst (λ (ls : List Link). IsBest search.any (OverBelow es search ls (length ls)) c.best_over-over.result) c.deref.ensures.value c.best_over-over.ensures) c.better_of.ensures
