use Rattle.std.proofs.Common.{◌≡◌, ◌++◌, take}
use Rattle.epoch_core.specs.Epoch.{positions_of}
use Rattle.epoch_core.proofs.epoch.tell_position.Given as goal

-- the positions on the links so far
abbrev pub invariant-links : goal.invariant-links
invariant-links l = l.sends ≡ l.fn.sends ++ positions_of l.version l.position (take l.link-index l.link-items)
