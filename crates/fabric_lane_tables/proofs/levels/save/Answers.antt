use Rattle.std.proofs.Common.{◌+◌, ◌<◌, subst, refl, arith, length, List, ℕ}
use Rattle.std.proofs.lemmas.Option.{slice_get_within}
use Rattle.fabric_lane_tables.specs.PathLevels.{HasBlockAt}
use Rattle.fabric_lane_tables.proofs.BlockLemmas.{kept_none, kept_more, places_kept, places_set, blocks_more, others_more}
use Rattle.fabric_lane_tables.proofs.levels.save.Goals as goal

pub saving-init : goal.saving-init
saving-init c = record {
  kept = kept_none c.args.rows.now.keys c.requires.few;
  places = c.requires.places;
  saved = λ k low. absurd (omega arith);
  others = λ k outside. refl;
}

pub place_of-requires : goal.place_of-requires
place_of-requires c = c.saving.invariant.kept.few

pub returns-in_err-places-clause-kept : goal.returns-in_err-places-clause-kept
returns-in_err-places-clause-kept c = kept_more c.args.rows.now.keys c.saving.rows.keys c.place_of.new.rows.keys c.saving.invariant.kept c.place_of.ensures.kept

pub returns-in_err-places-clause-places : goal.returns-in_err-places-clause-places
returns-in_err-places-clause-places c = places_kept c.saving.rows.keys c.place_of.new.rows.keys c.place_of.ensures.kept c.saving.places c.saving.invariant.places

pub returns-in_err-places-clause-others : goal.returns-in_err-places-clause-others
returns-in_err-places-clause-others c = c.saving.invariant.others

pub saving-preserved : goal.saving-preserved
saving-preserved c =
    let i = c.saving.invariant in
    let kept = c.place_of.ensures.kept in
    let at = subst (λ (levels : List ℕ). HasBlockAt c.place_of.new.rows.keys levels c.in_ok-places.field-0) c.block_at.ensures c.in_ok-places.ensures.there in
    let less = slice_get_within c.place_of.new.rows.keys c.in_ok-places.field-0 c.block_at.result c.in_ok-places.ensures.there in
    let within : c.args.first + c.saving.block < length c.saving.places = omega (arith, c.requires.within, c.saving.auto.places, c.saving-test.true) in
    record {
      kept = kept_more c.args.rows.now.keys c.saving.rows.keys c.place_of.new.rows.keys i.kept kept;
      places = places_set c.place_of.new.rows.keys c.saving.places (c.args.first + c.saving.block) c.in_ok-places.field-0 (places_kept c.saving.rows.keys c.place_of.new.rows.keys kept c.saving.places i.places) less;
      saved = blocks_more c.saving.rows.keys c.place_of.new.rows.keys c.saving.places c.args.row.now c.args.first c.saving.block c.in_ok-places.field-0 kept i.saved at within;
      others = others_more c.args.places.now c.saving.places c.args.first c.args.blocks c.saving.block c.in_ok-places.field-0 c.saving-test.true i.others;
    }
