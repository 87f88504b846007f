use Rattle.std.proofs.Common.{◌≡◌, true, take, map}
use Rattle.journal.specs.Words.{has_words}
use Rattle.journal.proofs.line.have_bytes.Given as goal

-- none of the words so far is empty
abbrev pub invariant-words : goal.invariant-words
invariant-words l = has_words (take l.word-index (map (λ w. w.now) l.words)) ≡ true
