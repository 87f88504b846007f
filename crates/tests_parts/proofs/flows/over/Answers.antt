use Rattle.tests_parts.proofs.flows.over.Goals as goal

pub entered-requires : goal.entered-requires
entered-requires c =
    let passes = c.in_ok-_ranks.ensures in
    (c.requires.same, (c.requires.numbers, (c.in_ok-exits.ensures, (passes.no_cycle, passes.joined))))
