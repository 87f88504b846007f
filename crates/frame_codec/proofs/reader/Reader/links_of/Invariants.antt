use Rattle.std.proofs.Common.{◌≡◌, ◌-◌, ◌≤◌, length}
use Rattle.std.specs.Prelude.{All}
use Rattle.frame_codec.specs.Reading.{links_from}
use Rattle.frame_codec.proofs.Loops.{with_front}
use Rattle.frame_codec.proofs.reader.Reader.links_of.Given as goal

abbrev pub invariant-links : goal.invariant-links
invariant-links l = (with_front l.links (links_from l.above (l.count - l.counter) l.self) ≡ links_from 0 l.count l.fn.self) × (length l.links ≡ l.counter) × (l.above ≤ 12) × All (λ k. k.port ≤ l.above) l.links
