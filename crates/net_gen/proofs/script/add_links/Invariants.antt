use Rattle.std.proofs.Common.{◌≡◌, []}
use Rattle.net_gen.specs.Generated.{all_joined, made_of}
use Rattle.net_gen.specs.Made.{drawn_of}
use Rattle.net_gen.proofs.script.add_links.Given as goal

-- the links so far
abbrev pub invariant-times : goal.invariant-times
invariant-times l =
    (l.script ≡ made_of l.count (all_joined l.count (drawn_of l.fn.script l.fn.draw) l._time).links 0 [])
    × (l.draw ≡ (all_joined l.count (drawn_of l.fn.script l.fn.draw) l._time).seed)
