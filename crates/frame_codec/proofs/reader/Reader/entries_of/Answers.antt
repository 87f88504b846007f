use Rattle.std.proofs.Common.{◌≡◌, ◌∙◌, ◌∷◌, [], Some, None, ap, arith}
use Rattle.std.proofs.lemmas.List.{length-append}
use Rattle.std.specs.Global.{Vec}
use Rattle.an_base.specs.Values.{EntryOf}
use Rattle.std.proofs.lemmas.Result.{err_from_is_err_and}
use Rattle.frame_codec.specs.Reading.{entry_above_at, entries_from}
use Rattle.frame_codec.proofs.Loops.{goes_on, ends, is_done}
use Rattle.frame_codec.proofs.reader.Reader.entries_of.Goals as goal

pub returns-in_err-entry_above : goal.returns-in_err-entry_above
returns-in_err-entry_above c =
    let r = c.from_residual-in_err-entry_above in
    let p = err_from_is_err_and r.result r.ensures.1 in
    rw (p.1, p.2) (ends {B = Unit} (λ (v : Vec EntryOf). v.items) (λ _. c.entry_above.new.entry) entry_above_at (λ e. Some e.life) c.entries.above None c.in_err-entry_above.field-0.0 c.entries.entries.items c.args.count c.entries.counter c.args.self.now c.entries.self c.entry_above.new.self c.entry_above.new.self c.entries-test.true c.in_err-entry_above.ensures c.entries.invariant.0)

pub entries-preserved : goal.entries-preserved
entries-preserved c =
    let e = c.entry_above.new.entry in
    let seen : Some c.entry.inside.life ≡ Some e.life = ap (λ (f : EntryOf). Some f.life) c.entry.view_is in
    let one = goes_on entry_above_at (λ e. Some e.life) c.entries.above c.entries.entries.items c.args.count c.entries.counter c.entries.self e c.entry_above.new.self (entries_from None c.args.count c.args.self.now) c.entries-test.true c.in_ok-entry_above.ensures c.entries.invariant.0 in
    rw (c.push_reserved.ensures.items, c.copy.ensures, seen) (one, omega (arith, c.entries.invariant.1, length-append c.entries.entries.items (e ∷ [])), c.push_reserved.ensures.capacity ∙ c.entries.invariant.2)

pub returns : goal.returns
returns c = is_done entry_above_at (λ e. Some e.life) c.entries.above c.entries.entries.items c.args.count c.entries.counter c.entries.self (entries_from None c.args.count c.args.self.now) c.entries-test.false c.entries.invariant.0
