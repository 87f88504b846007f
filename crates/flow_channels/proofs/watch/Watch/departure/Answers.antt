use Rattle.std.proofs.Common.{◌∙◌, refl, sym, subst, arith, ℕ, List}
use Rattle.fcfc_router.specs.Router.{NoneCanGo}
use Rattle.fcfc_router.specs.Shown.{RouterOf}
use Rattle.flow_channels.specs.Board.{flow_of}
use Rattle.flow_channels.specs.Flows.{FlowOf}
use Rattle.flow_channels.specs.Watch.{AreAwake, IsWatched}
use Rattle.flow_channels.proofs.DepartLemmas.{departed, kept_granted, kept_none, router_is, same_flow, still_same}
use Rattle.flow_channels.proofs.IdleLemmas.{fallen_asleep, free_here, let_go, none_before, same_none, taken_out}
use Rattle.flow_channels.proofs.watch.Watch.departure.Goals as goal

pub overflow_cast-at : goal.overflow_cast-at
overflow_cast-at c =
    let low = c.numbers.invariant.watched.awake.low c.in-Some.number c.in-Some.ensures.has in
    omega arith

pub index-free-requires : goal.index-free-requires
index-free-requires c =
    let low = c.numbers.invariant.watched.awake.low c.in-Some.number c.in-Some.ensures.has in
    let size = c.numbers.invariant.watched.free.count in
    omega arith

pub index_mut-requires : goal.index_mut-requires
index_mut-requires c =
    let low = c.numbers.invariant.watched.awake.low c.in-Some.number c.in-Some.ensures.has in
    let size = c.numbers.invariant.kept.routers in
    omega arith

pub returns-in-Some-grant-clause-departed : goal.returns-in-Some-grant-clause-departed
returns-in-Some-grant-clause-departed c =
    let t = c.args.tables.now in
    let b = c.numbers.board in
    let i = c.numbers.invariant in
    let number = c.in-Some.number in
    let first = c.in-Some.ensures in
    let low = i.watched.awake.low number first.has in
    let before = same_none t c.args.board.now b number i.same (none_before t b c.numbers.self.awake number i.kept i.watched.awake (omega arith) (λ other less has. has (first.before other less))) in
    let grant = c.in-Some-grant in
    departed t b.packets b.entries b.queues b.routers i.kept number number low refl c.index_mut.result.now c.grant.new.self c.index_mut.ensures.value grant.ensures.most c.args.board.now i.same grant.field-0.port grant.field-0.packet c.index-free.result.now before (free_here t b c.numbers.self.free.items number c.index-free.result.now i.watched.free low c.index-free.ensures) grant.ensures.granted

pub returns-in-Some-grant-clause-kept : goal.returns-in-Some-grant-clause-kept
returns-in-Some-grant-clause-kept c =
    let b = c.numbers.board in
    let i = c.numbers.invariant in
    let low = i.watched.awake.low c.in-Some.number c.in-Some.ensures.has in
    let grant = c.in-Some-grant in
    kept_granted c.args.tables.now b.packets b.entries b.queues b.routers i.kept c.in-Some.number c.in-Some.number low refl c.index_mut.result.now c.grant.new.self c.index_mut.ensures.value grant.ensures.most c.index-free.result.now grant.field-0 grant.ensures.granted

pub returns-in-Some-grant-clause-watched : goal.returns-in-Some-grant-clause-watched
returns-in-Some-grant-clause-watched c =
    let b = c.numbers.board in
    let_go c.args.tables.now b.packets b.entries b.queues b.routers c.in-Some.number c.in-Some.number c.grant.new.self refl c.numbers.self c.numbers.invariant.watched c.in-Some.ensures.has

pub remove-requires : goal.remove-requires
remove-requires c =
    let low = c.numbers.invariant.watched.awake.low c.in-Some.number c.in-Some.ensures.has in
    omega arith

pub numbers-smaller : goal.numbers-smaller
numbers-smaller c =
    let sets = c.numbers.self.awake in
    let first = c.in-Some.ensures in
    let less = taken_out sets c.in-Some.number first.within first.has in
    let out = c.remove.ensures in
    rw out less

pub numbers-preserved : goal.numbers-preserved
numbers-preserved c =
    let t = c.args.tables.now in
    let b = c.numbers.board in
    let i = c.numbers.invariant in
    let number = c.in-Some.number in
    let low = i.watched.awake.low number c.in-Some.ensures.has in
    let grant = c.in_default-grant.ensures in
    let router = router_is t b.packets b.entries b.queues b.routers i.kept number number low refl c.index_mut.result.now c.grant.new.self c.index_mut.ensures.value grant.most in
    let same = still_same t b.packets b.entries b.queues b.routers i.kept number number low refl c.index_mut.result.now c.grant.new.self c.index_mut.ensures.value grant.most c.args.board.now i.same grant.granted.0 in
    let flow = same_flow c.args.board.now _ same ∙ sym (same_flow c.args.board.now b i.same) in
    let asleep = fallen_asleep t b c.numbers.self.awake number i.kept low i.watched.awake (c.index-free.result.now, free_here t b c.numbers.self.free.items number c.index-free.result.now i.watched.free low c.index-free.ensures, subst (λ (x : RouterOf). NoneCanGo c.index-free.result.now x.waiting) (sym router) grant.granted.1) in
    record {
      kept = kept_none t b.packets b.entries b.queues b.routers i.kept number number low refl c.index_mut.result.now c.grant.new.self c.index_mut.ensures.value grant.most grant.granted.0;
      same = same;
      watched = subst (λ (f : FlowOf). IsWatched t f (record { arriving = c.numbers.self.arriving; free = c.numbers.self.free; awake = c.remove.new.self })) (sym flow) (record {
        arriving = i.watched.arriving;
        free = i.watched.free;
        awake = subst (λ (xs : List ℕ). AreAwake t (flow_of b) xs) (sym c.remove.ensures) asleep;
      });
    }

pub returns-clause-departed : goal.returns-clause-departed
returns-clause-departed c =
    let t = c.args.tables.now in
    let b = c.numbers.board in
    let i = c.numbers.invariant in
    let none = c.in_default.ensures in
    let count = i.watched.awake.count in
    same_none t c.args.board.now b 127 i.same (none_before t b c.numbers.self.awake 127 i.kept i.watched.awake (omega arith) (λ other low has. has (none other 0 (omega arith))))
