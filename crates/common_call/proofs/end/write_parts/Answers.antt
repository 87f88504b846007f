use Rattle.std.proofs.Common.{◌≡◌, ◌==◌, ◌<◌, zero, suc, false, List, [], ℕ, ◌+◌, take, drop, get_or, subst, Bor, arith}
use Rattle.std.specs.Prelude.{OnErr, Result, Ok, Err, flat_map}
use Rattle.outside.specs.Told.{GainsFront}
use Rattle.common_call.proofs.PartLemmas.{front_more, parts_are, parts_some}
use Rattle.common_call.proofs.end.write_parts.Goals as goal

on_err : {T E : Type 0} (result : Result T E) (Holds : Type 0) → Holds → OnErr result Holds
on_err (Ok x) Holds holds = tt
on_err (Err x) Holds holds = holds

some_bytes : (count : ℕ) → false ≡ (count == 0) → 0 < count
some_bytes zero is = absurd (cc)
some_bytes (suc n) is = omega arith

pub returns-in_err-write_all-clause-front : goal.returns-in_err-write_all-clause-front
returns-in_err-write_all-clause-front g c =
    let parts = c.args.parts.now in
    let i = c.parts.part-index in
    let none : Bor (List ℕ) = record { ref_ptr = (0, 0); now = [] } in
    let bytes : Bor (List ℕ) → List ℕ = λ part. part.now in
    let old = g.E.Sink.seen c.args.err.now in
    let new = g.E.Sink.seen c.write_all.new.sink in
    subst (λ (xs : List ℕ). GainsFront old new xs) (parts_are bytes parts i none c.parts-test.true)
    (front_more old (g.E.Sink.seen c.parts.err) new (flat_map bytes (take i parts)) (bytes (get_or parts i none)) (flat_map bytes (drop (i + 1) parts)) c.parts.invariant.gains c.write_all.ensures.prefix)

-- only a part that has bytes is written
pub returns-in_err-write_all-clause-some : goal.returns-in_err-write_all-clause-some
returns-in_err-write_all-clause-some g c =
    let none : Bor (List ℕ) = record { ref_ptr = (0, 0); now = [] } in
    on_err _ _ (parts_some (λ (part : Bor (List ℕ)). part.now) c.args.parts.now c.parts.part-index none c.parts-test.true (some_bytes _ c.if-not-is_empty.ensures))
