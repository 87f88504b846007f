-- A number below 256 has three digits at most.

use Rattle.std.proofs.Common.{◌≤◌, ◌<◌, ℕ, ap, arith, length}
use Rattle.std.specs.Fmt.{decimal}
use Rattle.std.proofs.lemmas.Fmt.{length-decimal-le}
use Rattle.row_text.proofs.decimals.Decimals.push_reserved.Goals as goal

three : (n : ℕ) → n < 256 → length (decimal n) ≤ 3
three n small = length-decimal-le 3 n (omega arith) (omega arith) (omega arith)

pub push_bytes-requires : goal.push_bytes-requires
push_bytes-requires c = omega (arith, c.requires, ap length c.word.ensures, three c.args.n (omega arith))

pub returns-clause-len : goal.returns-clause-len
returns-clause-len c = omega (arith, c.push_bytes.ensures.len, ap length c.word.ensures, three c.args.n (omega arith))
