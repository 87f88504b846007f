use Rattle.std.proofs.Common.{◌≡◌, take, map}
use Rattle.updown.proofs.reach.lives_of.Given as goal

-- the lives so far
abbrev pub invariant-entries : goal.invariant-entries
invariant-entries l = l.lives.items ≡ map (λ e. e.life) (take l.entry-index l.entries)
