use Rattle.std.proofs.Common.{◌<◌, ◌^◌, arith, inl, inr}
use Rattle.std.proofs.lemmas.Bool.{cases_eq, eqb-true}
use Rattle.std.proofs.lemmas.Bool.Decides.{nat_tests}
use Rattle.fabric_lane_tables.specs.Levels.{levels_of}
use Rattle.fabric_lane_commands.proofs.SilenceLemmas.{none_in, some_in}
use Rattle.fabric_lane_commands.proofs.mute.is_quiet.Goals as goal

pub returns : goal.returns
returns c =
    let levels = levels_of c.args.levels.now in
    let word = c.levels.result in
    let low : c.levels.result < 2 ^ 16 = omega arith in (
      (λ zero. record {
        heard = c.is_heard.ensures.0 c.if-not-is_heard.false;
        none = none_in levels c.args.source c.args.lid word c.levels.ensures (eqb-true word 0 zero);
      }),
      (λ quiet. elim (cases_eq word 0) [
        | inl zero ↦ grind (arith, nat_tests)
        | inr some ↦ absurd (some_in levels c.args.source c.args.lid word low c.levels.ensures some quiet.none)
      ]),
    )
