use Rattle.std.proofs.Common.{◌≡◌, take, map, get_or, None}
use Rattle.tree_position.specs.Position.{self_root, candidates, least}
use Rattle.tree_position.proofs.offers.Offers.best.Given as goal

-- the least of those so far
abbrev pub invariant-links : goal.invariant-links
invariant-links l =
    l.best ≡ least (self_root l.self-inside.me) (candidates (take l.link-index l.link-items) (map (λ k. get_or l.self-inside.offers k.port None) (take l.link-index l.link-items)))
