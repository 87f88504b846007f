-- After a frame the port by which it came alone can be shown as another.

use Rattle.std.proofs.Common.{subst}
use Rattle.net_state.specs.Fits.{IsHandPort}
use Rattle.fabric_book.proofs.book.show.Goals as goal

pub show_port-requires-clause-least : goal.show_port-requires-clause-least
show_port-requires-clause-least c = (subst IsHandPort c.in-Frame.is c.requires.port).0

pub show_port-requires-clause-most : goal.show_port-requires-clause-most
show_port-requires-clause-most c = (subst IsHandPort c.in-Frame.is c.requires.port).1

pub show_port-requires-clause-only : goal.show_port-requires-clause-only
show_port-requires-clause-only c = c.requires.only c.in-Frame.port c.in-Frame.is
