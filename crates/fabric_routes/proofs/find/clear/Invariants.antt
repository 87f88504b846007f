use Rattle.std.proofs.Common.{◌≡◌, ◌<◌, ℕ, get_or}
use Rattle.fabric_routes.proofs.find.clear.Given as goal

abbrev pub invariant-words : goal.invariant-words
invariant-words l = (switch : ℕ) → switch < l.word-index → get_or l.words switch 0 ≡ 0
