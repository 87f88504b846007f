use Rattle.std.proofs.Common.{◌≡◌, ℕ, Option, subst}
use Rattle.std.proofs.lemmas.Result.{err_from_is_err_and}
use Rattle.fabric_read_lines.specs.Pieces.{IsTakenInPlace}
use Rattle.fabric_read_lines.proofs.ReadLemmas.{first_taken, first_faulty}
use Rattle.fabric_read_lines.proofs.reader.take_first.Goals as goal

pub returns-in_err-take-clause-faulty : goal.returns-in_err-take-clause-faulty
returns-in_err-take-clause-faulty g c =
    let same : c.take_in_place.new.self ≡ c.args.told.now = subst (λ (o : Option ℕ). IsTakenInPlace (g.T.TakesLines.adds c.args.fabric.now) c.args.bytes.now c.args.told.now c.take_in_place.new.self o) c.in_default.is c.in_ok-end.ensures.taken in
    let p = err_from_is_err_and c.from_residual-in_err-take.result c.from_residual-in_err-take.ensures.1 in
    rw (p.1, p.2) (first_faulty c.args.bytes.now c.without_return.result.now c.in-Some-first_of.end c.args.told.now c.take_in_place.new.self c.in-Some-first_of.ensures c.without_return.ensures same c.in_err-take.field-0.0 (g.T.TakesLines.is_faulty c.args.fabric.now) _ c.in_err-take.ensures.step)

pub returns-clause-taken : goal.returns-clause-taken
returns-clause-taken g c =
    let same : c.take_in_place.new.self ≡ c.args.told.now = subst (λ (o : Option ℕ). IsTakenInPlace (g.T.TakesLines.adds c.args.fabric.now) c.args.bytes.now c.args.told.now c.take_in_place.new.self o) c.in_default.is c.in_ok-end.ensures.taken in
    first_taken c.args.bytes.now c.without_return.result.now c.in-Some-first_of.end c.args.told.now c.take_in_place.new.self c.in-Some-first_of.ensures c.without_return.ensures same (g.T.TakesLines.adds c.args.fabric.now) c.take.new.self c.in_ok-take.ensures.step
