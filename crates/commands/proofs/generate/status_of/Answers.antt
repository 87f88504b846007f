use Rattle.std.proofs.Common.{refl}
use Rattle.commands.specs.Gen.{given}
use Rattle.commands.proofs.generate.status_of.Goals as goal

pub returns-in-Ok-write_all : goal.returns-in-Ok-write_all
returns-in-Ok-write_all g c = given refl c.in-Ok.text.items c.in-Ok.ensures (cc (c.in-Ok-write_all.ensures.all, c.deref.ensures.value))
