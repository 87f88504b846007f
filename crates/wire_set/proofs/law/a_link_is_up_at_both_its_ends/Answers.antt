use Rattle.std.proofs.Common.{refl}
use Rattle.wire_set.specs.Frames.{clear}
use Rattle.wire_set.specs.WireState.{side_at, more_told}
use Rattle.wire_set.proofs.AgreeLemmas.{start_agrees, put_agrees, take_agrees, frames_agree, fail_agrees, repair_agrees, side_agrees}
use Rattle.wire_set.proofs.law.a_link_is_up_at_both_its_ends.Goals as goal

pub returns : goal.returns
returns c = record {
  start = start_agrees;
  put = put_agrees;
  take = take_agrees;
  release = λ w hand agree. frames_agree w (clear hand w.frames) agree;
  fail = fail_agrees;
  repair = repair_agrees;
  lose = λ w wire n agree. side_agrees w wire (record (side_at w wire) { lose = more_told (side_at w wire).lose n }) refl refl agree;
  again = λ w wire n agree. side_agrees w wire (record (side_at w wire) { again = more_told (side_at w wire).again n }) refl refl agree;
  swap = λ w wire n agree. side_agrees w wire (record (side_at w wire) { swap = more_told (side_at w wire).swap n }) refl refl agree;
}
