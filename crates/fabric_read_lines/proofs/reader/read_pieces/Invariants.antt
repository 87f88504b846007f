use Rattle.std.proofs.Common.{◌≡◌, ◌+◌, ◌<◌, ◌≤◌, ◌^◌, ℕ, List, None, length, take, position}
use Rattle.outside.specs.Told.{Gave, IsNoLess}
use Rattle.fabric_read_lines.specs.Pieces.{IsReadTo, is_feed}
use Rattle.fabric_read_lines.proofs.reader.read_pieces.Given as goal

-- what the source gave so far was read as far as the bytes that are held
abbrev pub invariant-pieces : goal.invariant-pieces
invariant-pieces g l = record {
  read : (bytes : List ℕ) × Gave (g.S.Source.seen l.initial.source) (g.S.Source.seen l.source) bytes × IsReadTo (g.T.TakesLines.adds l.fabric) l.initial.told bytes (take l.count l.held) l.told l.line × (length bytes + l.left ≡ 2 ^ 62);
  cut : position is_feed (take l.count l.held) ≡ None;
  held : length l.held ≡ 65536;
  short : l.count ≤ 4097;
  fit : g.T.TakesLines.is_fit l.fabric l.told;
  counted : g.T.TakesLines.count l.told < l.line;
  few : l.line + l.count + l.left ≤ 2 ^ 62 + 1;
  kept : IsNoLess (g.S.Source.seen l.initial.source) (g.S.Source.seen l.source);
}

abbrev pub decreases-pieces : goal.decreases-pieces
decreases-pieces g l = l.left
