-- Each line is told behind those before it.

use Rattle.std.proofs.Common.{◌≡◌, ◌∙◌, ◌+◌, ◌++◌, ◌∷◌, ◌<◌, ◌≤◌, [], List, ap, append_assoc, false, length, slice_index_or, subst, sym, take}
use Rattle.std.proofs.lemmas.List.{map_more, take_all}
use Rattle.net_world.specs.Accounts.{AccountOf, placed}
use Rattle.net_state.specs.declared.line.Line.{Line}
use Rattle.net_state.specs.declared.line.PlacedLine.{PlacedLine}
use Rattle.fabric_book.specs.Accounts.{IsAccount, with_lines}
use Rattle.fabric_book.proofs.account.Account.tell_lines.Goals as goal

pub lines-preserved : goal.lines-preserved
lines-preserved c = λ (told : AccountOf) (was : IsAccount told c.args.self.now) (sound : c.push.new.self.failed ≡ false).
    let i = c.lines.line-index in
    let xs = c.args.lines.now in
    let x = c.line-item.result in
    let place : Line → PlacedLine = λ (y : Line). record { event = c.args.event; line = y } in
    let before : List PlacedLine = placed c.args.event (take i xs) in
    let h = c.push.ensures (with_lines before told) (c.lines.invariant told was) sound in
    let more : placed c.args.event (take (i + 1) xs) ≡ before ++ place x ∷ [] = map_more place xs i x (subst (λ (ys : List Line). c.lines.line-index < length ys) c.as_slice-line-items.ensures c.lines-test.true)
    ∙ ap (λ (y : Line). before ++ place y ∷ []) (sym (c.line-item.is ∙ ap (λ (ys : List Line). slice_index_or ys i x) c.as_slice-line-items.ensures)) in
    record {
      lines_are = h.lines_are ∙ append_assoc told.lines before (place x ∷ []) ∙ ap (λ (ps : List PlacedLine). told.lines ++ ps) (sym more);
      rows_are = h.rows_are;
    }

pub returns : goal.returns
returns c = λ (told : AccountOf) (was : IsAccount told c.args.self.now) (sound : c.lines.self.failed ≡ false).
    let xs = c.args.lines.now in
    let h = c.lines.invariant told was sound in
    let all : take c.lines.line-index xs ≡ xs = take_all c.lines.line-index xs (subst (λ (ys : List Line). length ys ≤ c.lines.line-index) c.as_slice-line-items.ensures c.lines-test.false) in
    record {
      lines_are = h.lines_are ∙ ap (λ (ys : List Line). told.lines ++ placed c.args.event ys) all;
      rows_are = h.rows_are;
    }
