use Rattle.table_build.proofs.TableLemmas.{ways_same, ways_more}
use Rattle.table_build.proofs.way.push_ways.Goals as goal
use Rattle.table_build.proofs.way.push_ways.Goals.{in-Some+in_ok-push, in_default}

pub numbers-preserved : goal.numbers-preserved
numbers-preserved c =
    let g = c.args.graph.now in
    let numbers = c.args.numbers.now in
    elim c.match-way_to.branch [
      | in-Some+in_ok-push w ↦ rw (w.ways-is, w.in_ok-push.ensures.items) (ways_more g numbers c.args.any c.args.x c.numbers.number c.numbers.ways.items w.in-Some.way c.requires.numbers c.requires.count c.numbers.invariant w.in-Some.ensures.0 w.in-Some.ensures.1)
      | in_default w ↦ rw w.ways-is (ways_same g numbers c.args.any c.args.x c.numbers.number c.numbers.ways.items c.numbers.invariant w.in_default.ensures)
    ]
