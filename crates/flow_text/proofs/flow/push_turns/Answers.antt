use Rattle.std.proofs.Common.{◌∙◌, ◌+◌, ap, arith, refl, ℕ}
use Rattle.std.specs.Int.{from_bool}
use Rattle.flow_text.specs.Flows.{is_out, went_line}
use Rattle.flow_text.proofs.FlowTurns.{turn_falls}
use Rattle.flow_text.proofs.FlowTexts.{all_turned, byte_is, byte_small, line_longer, none_turned, one_turned}
use Rattle.flow_text.proofs.flow.push_turns.Goals as goal

pub turns-init : goal.turns-init
turns-init g c = (c.requires.0, λ layout script entries over named. (over, none_turned layout script entries c.args.flow.now.flow c.args.text.now.items c.args.out.now), c.requires.1.1)

pub turns-smaller : goal.turns-smaller
turns-smaller g c =
    let ranked = c.turns.invariant.0 in
    turn_falls g.ranks c.turns.flow c.turn.new.self c.in-Some.went ranked (c.in-Some.ensures.turned ranked.layout ranked.over).0

pub turns-preserved : goal.turns-preserved
turns-preserved g c =
    let ranked = c.turns.invariant.0 in
    let went = c.in-Some.went in
    let text = c.turns.text.items in
    let new = c.push_went.new.text.items in
    let (script', entries', named') = c.requires.1.0 in
    let longer = line_longer (went_line script' entries' went) text new (c.in_ok-push_went.ensures script' entries' named') in
    let one = byte_small c.is_out.result c.from.result c.from.ensures in
    let few = c.turns.invariant.2 in (
      record { layout = ranked.layout; over = c.in-Some.ensures.over ranked.layout ranked.over; ranked = ranked.ranked },
      λ layout script entries over named.
          let before = c.turns.invariant.1 layout script entries over named in
          let turn = c.in-Some.ensures.turned layout before.0 in (
            c.in-Some.ensures.over layout before.0,
            one_turned layout script entries c.args.flow.now.flow c.turns.flow.flow c.turn.new.self.flow c.args.text.now.items text new c.args.out.now c.turns.out (c.turns.out + c.from.result) went before.1 turn.0
                (c.in_ok-push_went.ensures script entries named)
                (ap (λ (n : ℕ). c.turns.out + n) (c.from.ensures ∙ ap from_bool c.is_out.ensures ∙ byte_is (is_out went))),
          ),
      omega arith,
    )

pub returns-clause-told : goal.returns-clause-told
returns-clause-told g c = λ layout script entries over named.
    let so_far = c.turns.invariant.1 layout script entries over named in
    all_turned layout script entries c.args.flow.now.flow c.turns.flow.flow c.args.text.now.items c.turns.text.items c.args.out.now c.turns.out so_far.1 (c.in_default.ensures.none.0 refl)
