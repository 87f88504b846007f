-- The lines of a text of ranks, and the meaning of each.
use Rattle.std.specs.Prelude.{◌&&◌, ◌-◌, ◌^◌, ℕ, List, [], ◌∷◌, length, codes, nat_lt, if◌then◌else◌}
use Rattle.std.specs.Prelude.{Result, Ok, Err}
use Rattle.std.specs.Str.{bytes_eq}
use Rattle.common_lines.specs.Lines.{words_of}
use Rattle.fabric_words.specs.Digits.{hex_after, number_to}
use Rattle.fabric_words.specs.Says.{or_cause}
use Rattle.fabric_read_ranks.specs.declared.line.RankLine.{RankLine}
use Rattle.fabric_read_ranks.specs.declared.line.RankLine.TheVariants.{Nothing, Head, Rank}
use Rattle.fabric_words.specs.declared.ranks_cause.RanksCause.{RanksCause}
use Rattle.fabric_words.specs.declared.ranks_cause.RanksCause.TheVariants.{LineTooLong, UnknownLine, BadGuid, BadPort, BadRank}

-- the meaning of a line, or the first reason for which it has none
abbrev pub Said : Type 0
Said = Result RankLine RanksCause

-- the rank of the channel out of a port of a switch
abbrev pub rank_said : (guid port rank : List ℕ) → Said
rank_said guid port rank =
    or_cause (hex_after guid) BadGuid (λ switch.
    or_cause (number_to 255 port) BadPort (λ out.
    or_cause (number_to (2 ^ 32 - 1) rank) BadRank (λ own. Ok (Rank switch out own))))

-- the meaning of two words: the head `ranks 1`
abbrev pub said_by_two : (first second : List ℕ) → Said
said_by_two first second =
    if bytes_eq first (codes "ranks") && bytes_eq second (codes "1") then Ok Head else Err UnknownLine

-- the meaning of four words: `rank GUID PORT RANK`
abbrev pub said_by_four : (first guid port rank : List ℕ) → Said
said_by_four first guid port rank =
    if bytes_eq first (codes "rank") then rank_said guid port rank else Err UnknownLine

abbrev pub said_by : List (List ℕ) → Said
said_by [] = Ok Nothing
said_by (first ∷ second ∷ []) = said_by_two first second
said_by (first ∷ guid ∷ port ∷ rank ∷ []) = said_by_four first guid port rank
said_by words = Err UnknownLine

-- the meaning of a line, or the reason for which it is not a line of ranks
unfoldable pub said_in : List ℕ → Said
said_in line = if nat_lt 200 (length line) then Err LineTooLong else said_by (words_of line)
