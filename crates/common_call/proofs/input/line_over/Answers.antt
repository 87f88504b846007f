use Rattle.std.proofs.Common.{◌≡◌, ℕ, ◌+◌, ◌-◌, ◌^◌, ◌<◌, ◌==◌, List, take, length-take, count_by, rules, Fits, w32}
use Rattle.std.proofs.lemmas.List.Sums.{count_by-le-length}
use Rattle.common_call.proofs.input.line_over.Goals as goal

-- the line of a byte fits, if there are few bytes before it
line_fits : (limit : ℕ) (bytes : List ℕ) (line : ℕ) → limit < 2 ^ 32 - 1 → line ≡ 1 + count_by (λ c. c == 10) (take limit bytes) → Fits w32 line
line_fits limit bytes line few is =
    let most = count_by-le-length (λ c. c == 10) (take limit bytes) in
    let short = length-take limit bytes in
    search (rules, few, is, most, short)

pub overflow_cast-result : goal.overflow_cast-result
overflow_cast-result c = line_fits c.args.limit c.as_slice.result.now _ c.requires.small c.line_of-line.ensures
