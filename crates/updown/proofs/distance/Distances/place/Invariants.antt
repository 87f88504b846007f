use Rattle.std.proofs.Common.{◌≡◌, ◌<◌, ℕ, get_or}
use Rattle.updown.proofs.distance.Distances.place.Given as goal

-- none of the lives so far is this one
abbrev pub invariant-lives : goal.invariant-lives
invariant-lives l = (k : ℕ) → k < l.i → get_or l.self-inside.lives.items k l.life ≡ l.life → ⊥
