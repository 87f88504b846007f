use Rattle.std.proofs.Common.{◌≡◌, ◌∙◌, ◌+◌, ◌-◌, ◌++◌, ◌∷◌, [], ◌<◌, ◌≤◌, ℕ, List, ap, sym, refl, arith, get_or, length, take}
use Rattle.std.specs.List.{count_by}
use Rattle.std.proofs.lemmas.List.{take_more}
use Rattle.std.proofs.lemmas.List.Sums.{count_by-le-length}
use Rattle.fabric_routes.specs.Trace.{is_known}
use Rattle.fabric_routes.proofs.TraceLemmas.{path_count, path_old, last_low, settle_next, settle_step, settled, short_within}
use Rattle.fabric_routes.proofs.trace.settle.Goals as goal

last_off : (path : List ℕ) (left : ℕ) → 0 < left → left ≤ length path → take left path ≡ take (left - 1) path ++ get_or path (left - 1) 0 ∷ []
last_off path left some low = ap (λ (n : ℕ). take n path) (let e : left ≡ left - 1 + 1 = omega arith in e) ∙ take_more path (left - 1) 0 (omega arith)

pub path-init : goal.path-init
path-init c = record {
  low = omega arith;
  opened = c.requires.opened;
  short = c.requires.short;
  few = c.requires.beyond;
  shorter = omega arith;
  front = λ place low. refl;
  settling = λ hop_at start followed. record {
    ends = followed.reached.ends;
    chain = followed.reached.chain;
    after = λ _. followed.after;
    done = λ less. absurd (omega arith);
  };
}

pub path-preserved : goal.path-preserved
path-preserved c =
    let whole = last_off c.args.path.now c.path.left (omega arith) (let low = c.path.invariant.low in omega arith) in
    let inv = c.path.invariant in
    let at = get_or c.args.path.now (c.path.left - 1) 0 in
    let step = settle_step c.path.marks (take c.path.left c.args.path.now) (take (c.path.left - 1) c.args.path.now) at whole inv.opened (take c.args.followed.count c.args.path.now) c.path.outcome c.longer-outcome.result c.longer-outcome.ensures inv.short inv.few in
    let count = path_count c.path.marks (take c.path.left c.args.path.now) (take (c.path.left - 1) c.args.path.now) at whole inv.opened in
    let shorter = inv.shorter in
    record {
      low = (let low = inv.low in omega arith);
      opened = step.0;
      short = step.1;
      few = step.2;
      shorter = omega arith;
      front = λ place low. sym (path_old c.path.marks (take c.path.left c.args.path.now) (take (c.path.left - 1) c.args.path.now) at whole inv.opened place low) ∙ inv.front place (omega arith);
      settling = λ hop_at start followed. settle_next c.path.marks (take c.path.left c.args.path.now) (take (c.path.left - 1) c.args.path.now) at whole inv.opened hop_at (take c.args.followed.count c.args.path.now) c.path.outcome c.longer-outcome.result c.longer-outcome.ensures inv.front (inv.settling hop_at start followed);
    }

pub longer-outcome-requires : goal.longer-outcome-requires
longer-outcome-requires c =
    let most = count_by-le-length is_known c.path.marks in
    let few = c.requires.few in
    let size = c.path.auto.marks in
    short_within (count_by is_known c.path.marks) 2147483648 c.path.outcome (omega arith) c.path.invariant.few

pub bounds-marks-path : goal.bounds-marks-path
bounds-marks-path c = (
    let whole = last_off c.args.path.now c.path.left (omega arith) (let low = c.path.invariant.low in omega arith) in
    last_low c.path.marks (take c.path.left c.args.path.now) (take (c.path.left - 1) c.args.path.now) (get_or c.args.path.now (c.path.left - 1) 0) whole c.path.invariant.opened)

pub returns : goal.returns
returns c = λ hop_at start followed.
    let none : length (take c.path.left c.args.path.now) ≡ 0 = ap (λ (n : ℕ). length (take n c.args.path.now)) (let e : c.path.left ≡ 0 = omega arith in e) in
    let all = settled hop_at start c.path.marks (take c.path.left c.args.path.now) (take c.args.followed.count c.args.path.now) c.args.marks.now c.args.followed.beyond c.path.outcome none c.path.auto.marks c.path.invariant.opened c.path.invariant.short followed (c.path.invariant.settling hop_at start followed) in (
      record { size = c.path.auto.marks; ends = all.0; short = c.path.invariant.short; settled = all.1 },
      all.2,
    )
