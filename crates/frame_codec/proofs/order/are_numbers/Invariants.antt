use Rattle.std.proofs.Common.{◌≡◌, ◌==◌, ◌<◌, ℕ, false, take, drop, length, get_or, []}
use Rattle.std.specs.List.{list_any}
use Rattle.frame_codec.specs.Reading.{are_new}
use Rattle.frame_codec.proofs.order.are_numbers.Given as goal

abbrev pub invariant-numbers : goal.invariant-numbers
invariant-numbers l = (are_new (take l.number-index l.numbers) (drop l.number-index l.numbers) ≡ are_new [] l.numbers) × (length l.seen ≡ 127) × ((k : ℕ) → k < 127 → get_or l.seen k false ≡ list_any (λ m. m == k) (take l.number-index l.numbers))
