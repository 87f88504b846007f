-- The lines of ranks, and of the answer to whether they fall.

use Rattle.std.specs.Prelude.{ℕ, List, [], ◌∷◌, map, codes, Option, Some, None}
use Rattle.std.specs.Fmt.{decimal}
use Rattle.common_lines.specs.Lines.{lines_text}
use Rattle.fabric_print.specs.declared.ranks.Rank.{Rank}
use Rattle.fabric_print.specs.declared.ranks.Risen.{Risen}
use Rattle.fabric_print.specs.Answers.{Row, channel_row, guid_word, judged_row}

-- the rank of the channel out of a port of a switch
abbrev pub rank_row : Rank → Row
rank_row of = codes "rank" ∷ guid_word of.guid ∷ decimal of.port ∷ decimal of.rank ∷ []

abbrev pub ranks_text : List Rank → List ℕ
ranks_text ranks = lines_text ((codes "ranks" ∷ codes "1" ∷ []) ∷ map rank_row ranks)

-- the ranks fall along every dependency; or the first dependency along which they do not: the channel that
-- depends, with a route that makes the dependency, its rank, and the rank of the channel on which it depends
abbrev pub risen_rows : Option Risen → List Row
risen_rows None = (codes "ranks" ∷ codes "fall" ∷ []) ∷ []
risen_rows (Some rise) =
    (codes "ranks" ∷ codes "rise" ∷ []) ∷ channel_row rise.step ∷ rank_row rise.own ∷ rank_row rise.next ∷ []

-- all rows of the answer: which routes were judged, and whether the ranks fall
unfoldable pub verified_rows : (traffic : List ℕ) → Option Risen → List Row
verified_rows traffic rise = (codes "fabric" ∷ codes "1" ∷ []) ∷ judged_row traffic ∷ risen_rows rise

abbrev pub verified_text : (traffic : List ℕ) → Option Risen → List ℕ
verified_text traffic rise = lines_text (verified_rows traffic rise)
