use Rattle.std.proofs.Common.{rules, ap, sym, ◌∙◌}
use Rattle.fabric_turn.proofs.Steps.{draws_keep, looks_keep}
use Rattle.fabric_turn.proofs.Turns.{came, drawn, waits_on}
use Rattle.fabric_turn.proofs.turnstile.Turnstile.wait_turn.Goals as goal

pub fetch_add-ticket-requires : goal.fetch_add-ticket-requires
fetch_add-ticket-requires g c = (search rules, search rules, draws_keep _ _ _ _ _ _ _ _ c.requires.rest.0)

pub loop-init : goal.loop-init
loop-init g c = let d = c.fetch_add-ticket.ensures.2 in (c.fetch_add-ticket.ensures.0, (d.0, d.1, drawn g.B.Staged.history g.B.Staged.start g.B.Staged.owner d.0 c.args.place.now.me _ c.requires.rest.1 d.2))

pub load-serving-requires : goal.load-serving-requires
load-serving-requires g c = let i = c.loop.invariant.1 in (search rules, search rules, looks_keep _ _ _ _ _ _ _ _ i.0 (ap (λ m. m.0.stage) i.2))

pub loop-preserved : goal.loop-preserved
loop-preserved g c = let i = c.loop.invariant.1 in
    (c.load-serving.ensures.0 ∙ c.loop.invariant.0, (i.0, i.1, waits_on g.B.Staged.history g.B.Staged.start g.B.Staged.owner c.args.place.now.me.0 i.0 _ _ _ i.2 (λ e. c.if-serving-ticket.false (e ∙ sym i.1)) c.load-serving.ensures.2))

pub returns-then-serving-ticket : goal.returns-then-serving-ticket
returns-then-serving-ticket g c = let i = c.loop.invariant.1 in
    record { turnstile = c.load-serving.ensures.0 ∙ c.loop.invariant.0; turn = came g.B.Staged.history g.B.Staged.start g.B.Staged.owner c.args.place.now.me.0 i.0 _ _ _ i.2 (c.if-serving-ticket.true ∙ i.1) c.load-serving.ensures.2 }
