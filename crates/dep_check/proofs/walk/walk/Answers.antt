use Rattle.std.proofs.Common.{◌≡◌, ◌∙◌, ap, refl, ◌++◌, ◌∷◌, [], List, length, true, arith, inl, inr}
use Rattle.std.proofs.lemmas.List.Elements.{Contains-push}
use Rattle.dep_check.specs.declared.channel.Channel.{Channel}
use Rattle.dep_check.proofs.WalkLemmas.{walk_first, walk_more, walk_done, push_more}
use Rattle.dep_check.proofs.walk.walk.Goals as goal

pub ahead-init : goal.ahead-init
ahead-init c = walk_first c.args.steps.now c.args.start c.args.seen.now.items c.see.new.seen.items c.see.new.ahead.items c.requires.count c.requires.start (rw c.requires.ahead at c.in_ok-see.ensures)

pub is_stuck_at-requires-clause-spot : goal.is_stuck_at-requires-clause-spot
is_stuck_at-requires-clause-spot c = (c.ahead.invariant.waiting c.in-Some.spot (rw c.in-Some.ensures.items (Contains-push c.pop.new.self.items c.in-Some.spot))).0

pub see_next-requires-clause-count : goal.see_next-requires-clause-count
see_next-requires-clause-count c = c.ahead.invariant.count

pub see_next-requires-clause-spot : goal.see_next-requires-clause-spot
see_next-requires-clause-spot c = (c.ahead.invariant.waiting c.in-Some.spot (rw c.in-Some.ensures.items (Contains-push c.pop.new.self.items c.in-Some.spot))).0

pub is_stuck_at-requires-clause-clear : goal.is_stuck_at-requires-clause-clear
is_stuck_at-requires-clause-clear c = c.in_ok-clear.ensures.clear

pub ahead-smaller : goal.ahead-smaller
ahead-smaller c =
    let sees = c.in_ok-clear.ensures.sees in
    let size = sees.size in
    let more = push_more c.pop.new.self.items c.in-Some.spot in
    let was : length c.ahead.ahead.items ≡ length (c.pop.new.self.items ++ c.in-Some.spot ∷ []) = ap (λ (xs : List Channel). length xs) c.in-Some.ensures.items in
    omega arith

pub ahead-preserved-then-is_stuck_at : goal.ahead-preserved-then-is_stuck_at
ahead-preserved-then-is_stuck_at c = walk_more c.args.steps.now c.args.start c.args.seen.now.items c.ahead.seen.items c.see_next.new.seen.items c.ahead.ahead.items c.pop.new.self.items c.see_next.new.ahead.items c.in-Some.spot c.ahead.stuck true c.in-Some.ensures.items (λ _. refl) (λ _. refl) (λ _. inr (c.is_stuck_at.ensures.0 c.if-is_stuck_at.true)) c.ahead.invariant c.in_ok-clear.ensures.sees

pub ahead-preserved : goal.ahead-preserved
ahead-preserved c = walk_more c.args.steps.now c.args.start c.args.seen.now.items c.ahead.seen.items c.see_next.new.seen.items c.ahead.ahead.items c.pop.new.self.items c.see_next.new.ahead.items c.in-Some.spot c.ahead.stuck c.ahead.stuck c.in-Some.ensures.items (λ is. absurd (let t = c.is_stuck_at.ensures.1 is in let f = c.if-is_stuck_at.false in cc)) (λ e. e) (λ e. inl e) c.ahead.invariant c.in_ok-clear.ensures.sees

pub returns-clause-walked : goal.returns-clause-walked
returns-clause-walked c =
    let zero_len = c.in_default.ensures.cases.0 in
    let rest = rw zero_len at c.in_default.ensures.rest in
    let none : c.ahead.ahead.items ≡ [] = c.in_default.ensures.items ∙ ap (λ (xs : List Channel). xs ++ []) rest in
    walk_done c.args.steps.now c.args.start c.args.seen.now.items c.ahead.seen.items c.ahead.ahead.items c.ahead.stuck (ap (λ (xs : List Channel). length xs) none) c.ahead.invariant

pub returns-clause-ahead : goal.returns-clause-ahead
returns-clause-ahead c = rw c.in_default.ensures.cases.0 at c.in_default.ensures.rest
