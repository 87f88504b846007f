use Rattle.std.proofs.Common.{List, ℕ, ◌*◌, Contains, length, subst}
use Rattle.dep_check.proofs.TableLaws.{tables_no_cycle, tables_joined, tables_legal}
use Rattle.net_script.specs.Scripts.{IsScript, ScriptOf}
use Rattle.expect_text.specs.Expect.{IsExpectOf, Part, all_rows}
use Rattle.switch_numbering.specs.Numbering.{numbering}
use Rattle.dep_check.specs.Channels.{far_at, LeadsTo}
use Rattle.common_graph.specs.Cycles.{HasNoCycle}
use Rattle.check_text.proofs.ArrivalLaws.{following_arrives, following_ends}
use Rattle.expect_text.proofs.PartLemmas.{IsPart, are_parts}
use Rattle.check_text.proofs.PartRows.{part_rows}
use Rattle.check_text.proofs.law.what_is_expected_joins.Goals as goal

-- a part of what is expected
part_of : (s : ScriptOf) (text : List ℕ) (is : IsExpectOf s text) (p : Part) → IsScript s → Contains is.parts p → IsPart s p
part_of s text is p kept (k, low, found) = subst (IsPart s) found (are_parts s is.parts kept is.trees is.tables k p low)

pub returns-clause-tree : goal.returns-clause-tree
returns-clause-tree c = λ s text is p kept has. (let part = part_of s text is p kept has in (part.graph, part.tree))

pub returns-clause-numbers : goal.returns-clause-numbers
returns-clause-numbers c = λ s text is p kept has. (part_of s text is p kept has).numbers

part_no_cycle : (s : ScriptOf) (p : Part) → IsPart s p → HasNoCycle (LeadsTo (far_at p.entries (numbering p.entries)) (all_rows p))
part_no_cycle s p part = tables_no_cycle p.entries (numbering p.entries) s.any_routes (all_rows p) part.graph part.numbers part.count (part_rows s p part)

pub returns-clause-no_cycle : goal.returns-clause-no_cycle
returns-clause-no_cycle c = λ s text is p kept has. part_no_cycle s p (part_of s text is p kept has)

pub returns-clause-joined : goal.returns-clause-joined
returns-clause-joined c = λ s text is p kept has.
    let part = part_of s text is p kept has in
    tables_joined p.entries (numbering p.entries) s.any_routes (all_rows p) part.graph part.numbers part.count (part_rows s p part) part.tree

pub returns-clause-legal : goal.returns-clause-legal
returns-clause-legal c = λ s text is p kept has.
    let part = part_of s text is p kept has in
    tables_legal p.entries (numbering p.entries) s.any_routes (all_rows p) part.graph part.numbers part.count (part_rows s p part)

pub returns-clause-ends : goal.returns-clause-ends
returns-clause-ends c = λ s text is p to links here there kept has walk.
    let part = part_of s text is p kept has in
    following_ends p.entries (numbering p.entries) (all_rows p) part.graph (part_no_cycle s p part) to links here there walk

pub returns-clause-arrives : goal.returns-clause-arrives
returns-clause-arrives c = λ s text is p from to links there kept has between walk.
    let part = part_of s text is p kept has in
    following_arrives (far_at p.entries (numbering p.entries)) (all_rows p) to (numbering p.entries) from (12 * length p.entries)
    (tables_joined p.entries (numbering p.entries) s.any_routes (all_rows p) part.graph part.numbers part.count (part_rows s p part) part.tree)
    between
    (following_ends p.entries (numbering p.entries) (all_rows p) part.graph (part_no_cycle s p part) to)
    links there walk
