use Rattle.std.proofs.Common.{arith}
use Rattle.table_script.proofs.ShortLemmas.{short_one, short_two, short_three}
use Rattle.table_script.proofs.table_form.short_value.Goals as goal

pub returns-in_ok-digit-in-len1 : goal.returns-in_ok-digit-in-len1
returns-in_ok-digit-in-len1 c =
    let least = c.in-len1.len_at_least in
    let most = c.in-len1.len_below in
    short_one c.args.word.now c.in_ok-digit-in-len1.field-0 (omega arith) (omega arith) c.in_ok-digit-in-len1.ensures

pub returns-in_ok-digit-in-len2 : goal.returns-in_ok-digit-in-len2
returns-in_ok-digit-in-len2 c =
    let least = c.in-len2.len_at_least in
    let most = c.in-len2.len_below in
    short_two c.args.word.now c.in_ok-first_digit-in-len2.field-0 c.in_ok-digit-in-len2.field-0 (omega arith) (omega arith) c.in_ok-first_digit-in-len2.ensures c.in_ok-digit-in-len2.ensures

pub returns-in_ok-digit-in-len3-2 : goal.returns-in_ok-digit-in-len3-2
returns-in_ok-digit-in-len3-2 c =
    let least = c.in-len3.len_at_least in
    let most = c.in-len3.len_below in
    short_three c.args.word.now c.in_ok-first_digit-in-len3.field-0 c.in_ok-digit-in-len3.field-0 c.in_ok-digit-in-len3-2.field-0 (omega arith) (omega arith) c.in_ok-first_digit-in-len3.ensures c.in_ok-digit-in-len3.ensures c.in_ok-digit-in-len3-2.ensures
