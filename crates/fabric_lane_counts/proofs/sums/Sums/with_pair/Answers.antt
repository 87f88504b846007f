use Rattle.std.proofs.Common.{◌∙◌, ◌+◌, ℕ, arith, sym, subst}
use Rattle.std.proofs.lemmas.Bool.{iff_false}
use Rattle.std.proofs.lemmas.Nat.{ones-le}
use Rattle.fabric_tables.specs.Cells.{tables_of}
use Rattle.fabric_counts.specs.Steps.{place_of, unowned_of}
use Rattle.fabric_lane_counts.specs.Sums.{AreSums}
use Rattle.fabric_lane_counts.proofs.SumLemmas.{sums_mute, sums_told, sums_unsent}
use Rattle.fabric_model.specs.Fabric.{owner_of}
use Rattle.fabric_lane_tables.specs.Levels.{levels_of}
use Rattle.fabric_lane_counts.proofs.sums.Sums.with_pair.Goals as goal

pub returns-then-not-is_heard : goal.returns-then-not-is_heard
returns-then-not-is_heard c = sums_unsent c.args.routing.now.fabric.now (tables_of c.args.routing.now.cells.now) c.args.routing.now.traffic (levels_of c.args.routing.now.levels.now) c.args.source c.requires.source c.args.lid c.args.self c.requires.sums
    (λ sends. iff_false c.is_heard.ensures c.if-not-is_heard.true ((c.requires.audience c.args.source).0 sends))

pub returns-then-told-eq0 : goal.returns-then-told-eq0
returns-then-told-eq0 c = sums_mute c.args.routing.now.fabric.now (tables_of c.args.routing.now.cells.now) c.args.routing.now.traffic (levels_of c.args.routing.now.levels.now) c.args.source c.requires.source c.args.lid c.args.self c.requires.sums ((c.requires.audience c.args.source).1 (c.is_heard.ensures.0 c.if-not-is_heard.false)) (sym c.levels-told.ensures ∙ c.if-told-eq0.true)

pub returns : goal.returns
returns c =
    subst (λ (n : ℕ). AreSums c.args.routing.now.fabric.now (tables_of c.args.routing.now.cells.now) c.args.routing.now.traffic (levels_of c.args.routing.now.levels.now) (place_of c.args.routing.now.fabric.now c.args.source) (c.args.lid + 1) (record { routes = c.args.self.routes + c.from-routes.result; unowned = c.args.self.unowned + n; silent = c.args.self.silent })) (sym c.unowned_of-unowned.ensures.count)
    (subst (λ (n : ℕ). AreSums c.args.routing.now.fabric.now (tables_of c.args.routing.now.cells.now) c.args.routing.now.traffic (levels_of c.args.routing.now.levels.now) (place_of c.args.routing.now.fabric.now c.args.source) (c.args.lid + 1) (record { routes = c.args.self.routes + n; unowned = c.args.self.unowned + unowned_of (owner_of c.args.routing.now.fabric.now c.args.lid) n; silent = c.args.self.silent })) (sym c.from-routes.ensures)
    (sums_told c.args.routing.now.fabric.now (tables_of c.args.routing.now.cells.now) c.args.routing.now.traffic (levels_of c.args.routing.now.levels.now) c.args.source c.requires.source c.args.lid c.args.self c.requires.sums ((c.requires.audience c.args.source).1 (c.is_heard.ensures.0 c.if-not-is_heard.false)) c.levels-told.result (sym c.levels-told.ensures) c.if-told-eq0.false (omega arith) (ones-le 16 c.levels-told.result (omega arith))))
