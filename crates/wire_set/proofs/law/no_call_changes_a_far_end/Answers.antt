use Rattle.std.proofs.Common.{refl, true}
use Rattle.wire_set.specs.WireState.{side_at, more_told}
use Rattle.wire_set.proofs.FarLemmas.{put_fars, take_fars, fail_fars, link_fars, told_fars}
use Rattle.wire_set.proofs.law.no_call_changes_a_far_end.Goals as goal

pub returns : goal.returns
returns c = record {
  put = put_fars;
  take = take_fars;
  release = λ w hand at. refl;
  fail = fail_fars;
  repair = λ w at. link_fars w true (side_at w at).far at;
  lose = λ w wire n. told_fars w wire (more_told (side_at w wire).lose n) (side_at w wire).again (side_at w wire).swap;
  again = λ w wire n. told_fars w wire (side_at w wire).lose (more_told (side_at w wire).again n) (side_at w wire).swap;
  swap = λ w wire n. told_fars w wire (side_at w wire).lose (side_at w wire).again (more_told (side_at w wire).swap n);
}
