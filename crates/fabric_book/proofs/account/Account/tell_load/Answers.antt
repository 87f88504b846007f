-- The line is told, and the rows are kept.

use Rattle.std.proofs.Common.{◌≡◌, ◌∙◌, ◌++◌, ◌∷◌, [], List, ap, false, map}
use Rattle.std.proofs.lemmas.List.{map-append}
use Rattle.an_base.specs.Rows.{RowOf}
use Rattle.net_world.specs.Accounts.{AccountOf}
use Rattle.fabric_book.specs.Accounts.{IsAccount}
use Rattle.fabric_book.proofs.account.Account.tell_load.Goals as goal

pub returns-in-Ok : goal.returns-in-Ok
returns-in-Ok c = λ (told : AccountOf) (was : IsAccount told c.args.self.now) (sound : c.push.new.self.failed ≡ false).
    let h = c.push.ensures told was sound in
    record {
      lines_are = h.lines_are;
      rows_are = ap (map (λ rows. rows.items)) c.in-Ok.ensures.items ∙ map-append (λ rows. rows.items) c.push.new.self.rows.items (c.args.rows ∷ []) ∙ ap (λ (all : List (List RowOf)). all ++ c.args.rows.items ∷ []) h.rows_are;
    }
