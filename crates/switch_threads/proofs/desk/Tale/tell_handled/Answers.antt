-- The lines of what was handled, and of the frames that were lost.

use Rattle.std.proofs.Common.{◌∙◌, ◌++◌, List, Option, ap, subst}
use Rattle.std.specs.List.{flat_map}
use Rattle.std.specs.Prelude.{option_to_list}
use Rattle.net_world.specs.Accounts.{placed}
use Rattle.net_state.specs.declared.line.Line.{Line}
use Rattle.fabric_book.specs.Accounts.{IsAccount, with_lines}
use Rattle.switch_threads.proofs.desk.Tale.tell_handled.Goals as goal

pub returns-in-Ok : goal.returns-in-Ok
returns-in-Ok c told is =
    let lines = c.args.self.now.lines in
    let all = c.in-Ok.ensures ∙ ap (λ (xs : List (Option Line)). lines ++ flat_map option_to_list xs) c.deref.ensures.value in
    subst (λ (xs : List Line). IsAccount (with_lines (placed c.args.parcel.now.event xs) told) c.tell_lines.new.self) all (c.tell_lines.ensures told is)
