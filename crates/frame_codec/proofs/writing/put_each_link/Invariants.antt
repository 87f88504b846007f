use Rattle.std.proofs.Common.{◌≡◌, ◌+◌, ◌*◌, ◌≤◌, ◌++◌, length, take}
use Rattle.std.specs.Prelude.{All}
use Rattle.std.specs.List.{flat_map}
use Rattle.frame_codec.specs.Spelling.{link_bytes}
use Rattle.frame_codec.specs.Frames.{IsLink}
use Rattle.frame_codec.proofs.writing.put_each_link.Given as goal

abbrev pub invariant-links : goal.invariant-links
invariant-links l = (l.out ≡ l.fn.out ++ flat_map link_bytes (take l.link-index l.links)) × All IsLink (take l.link-index l.links) × (length l.out ≤ length l.fn.out + 12 * l.link-index)
