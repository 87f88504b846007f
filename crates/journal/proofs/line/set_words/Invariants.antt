use Rattle.std.proofs.Common.{◌≡◌, ◌++◌, length, map}
use Rattle.journal.specs.Words.{words_of}
use Rattle.journal.proofs.line.set_words.Given as goal

-- the words so far, and those of the rest
abbrev pub invariant-words : goal.invariant-words
invariant-words l = map (λ w. w.now) l.words.items ++ words_of l.rest ≡ words_of l.line

abbrev pub decreases-words : goal.decreases-words
decreases-words l = length l.rest
