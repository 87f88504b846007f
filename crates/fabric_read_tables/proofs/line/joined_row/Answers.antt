use Rattle.std.proofs.Common.{◌∙◌, arith}
use Rattle.fabric_read_tables.proofs.ListLemmas.{long_joined, no_joined, short_joined}
use Rattle.fabric_read_tables.proofs.line.joined_row.Goals as goal

pub returns-then-rest-lt3 : goal.returns-then-rest-lt3
returns-then-rest-lt3 c = no_joined c.args.front.now c.args.rest.now c.requires c.if-rest-lt3.true

pub returns-then-rest-eq3 : goal.returns-then-rest-eq3
returns-then-rest-eq3 c = c.row.ensures ∙ short_joined c.args.front.now c.args.rest.now c.requires c.if-rest-eq3.true

pub returns : goal.returns
returns c = c.row-2.ensures ∙ long_joined c.args.front.now c.args.rest.now c.requires (let few = c.if-rest-lt3.false in let other = c.if-rest-eq3.false in omega arith)
