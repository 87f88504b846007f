use Rattle.std.proofs.Common.{◌∙◌, subst, ℕ, arith}
use Rattle.fabric_tables.specs.Cells.{tables_of}
use Rattle.fabric_routes.specs.Trace.{IsReady, hop_to}
use Rattle.fabric_routes.proofs.trace.trace.Goals as goal

pub settle-requires-clause-few : goal.settle-requires-clause-few
settle-requires-clause-few c =
    let size = c.requires.ready.size in
    let kept = c.follow-followed.auto.marks in
    let few = c.requires.few in
    omega arith

pub returns-in-New-clause-ready : goal.returns-in-New-clause-ready
returns-in-New-clause-ready c =
    subst (λ (n : ℕ). IsReady (hop_to c.args.fabric.now (tables_of c.args.cells.now) c.args.target) n c.settle.new.marks) (c.follow-followed.auto.marks ∙ c.requires.ready.size)
    (c.settle.ensures (hop_to c.args.fabric.now (tables_of c.args.cells.now) c.args.target) c.args.start c.follow-followed.ensures.followed).0

pub returns-in-New-clause-ends : goal.returns-in-New-clause-ends
returns-in-New-clause-ends c = (c.settle.ensures (hop_to c.args.fabric.now (tables_of c.args.cells.now) c.args.target) c.args.start c.follow-followed.ensures.followed).1
