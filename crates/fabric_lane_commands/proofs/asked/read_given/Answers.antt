use Rattle.std.proofs.Common.{◌^◌, ◌<◌, sym, subst, refl, arith, ℕ}
use Rattle.std.proofs.lemmas.Nat.{one_shl}
use Rattle.std.proofs.lemmas.Nat.Bits.{bit_at-pow_same}
use Rattle.fabric_print_lanes.specs.declared.answer.LevelsAsked.{LevelsAsked}
use Rattle.fabric_lane_verdict.specs.LaneVerdict.{any_level}
use Rattle.fabric_lane_tables.specs.InUse.{AreLevelsGiven}
use Rattle.fabric_lane_commands.specs.Asked.{GaveLevelsFor, one_level}
use Rattle.fabric_lane_commands.proofs.LevelLemmas.{same_given}
use Rattle.fabric_lane_commands.proofs.asked.read_given.Goals as goal

pub returns-in-Same-clause-given : goal.returns-in-Same-clause-given
returns-in-Same-clause-given g c =
    let seen = g.P.Source.seen c.args.source.now in
    let fabric = c.args.fabric.now in
    let asked = c.args.asked in
    let level = c.in-Same.level in
    let low : c.in-Same.level < 16 = rw c.in-Same.is at c.requires.levels in
    record {
      told = one_level level;
      gave = subst (λ (a : LevelsAsked). GaveLevelsFor fabric a seen seen (one_level level)) (sym c.in-Same.is) (refl, refl);
      gives = subst (λ (n : ℕ). AreLevelsGiven asked.silent (one_level level) (λ source lid. n)) (sym (one_shl level 16 low)) (same_given asked.silent (2 ^ level) level low (bit_at-pow_same level));
    }

pub returns-in-Any-clause-given : goal.returns-in-Any-clause-given
returns-in-Any-clause-given g c =
    let seen = g.P.Source.seen c.args.source.now in
    let fabric = c.args.fabric.now in
    let asked = c.args.asked in
    record {
      told = any_level;
      gave = subst (λ (a : LevelsAsked). GaveLevelsFor fabric a seen seen any_level) (sym c.in-Any.is) (refl, refl);
      gives = same_given asked.silent 65535 0 (omega arith) refl;
    }
