use Rattle.std.proofs.Common.{rules}
use Rattle.outside.proofs.ToldLemmas.{gave_more}
use Rattle.outside.proofs.all.read_all.Goals as goal

-- the last piece found no room
pub returns-then-is_err-clause-taken : goal.returns-then-is_err-clause-taken
returns-then-is_err-clause-taken g c =
    let i = c.turns.invariant in
    gave_more (g.S.Source.seen c.args.source.now) (g.S.Source.seen c.turns.source) (g.S.Source.seen c.read.new.self)
    c.turns.bytes.items c.read.new.buf c.in-Part.n c.args.limit _ i.0 i.1 c.in-Part.ensures.part (search rules)
