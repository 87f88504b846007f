-- What a reading tells of what a source gave.
use Rattle.std.proofs.Common.{◌≡◌, subst, refl}
use Rattle.outside.specs.Told.{Seen}
use Rattle.fabric_model.specs.Fabric.{FabricOf}
use Rattle.fabric_words.specs.declared.lane_cause.LaneCause.{LaneCause}
use Rattle.fabric_words.specs.declared.lane_cause.LaneCause.TheVariants.{NoEnd, TooMany}
use Rattle.fabric_read_lines.specs.declared.reader.TextRefusal.{TextRefusal}
use Rattle.fabric_read_lines.specs.Texts.{GaveText, IsTextOf, IsRefusedBy as IsRefusedFrom}
use Rattle.fabric_read_lines.proofs.MapLemmas.{text_told, refused_told}
use Rattle.fabric_read_lanes.specs.declared.level_reading.Reading.{Reading}
use Rattle.fabric_read_lanes.specs.Levels.{AddsTo, IsEnded, IsFaultyAfter, Told, none_told}
use Rattle.fabric_read_lanes.specs.LevelReadings.{told_of}
use Rattle.fabric_read_lanes.specs.LevelReads.{GaveLevels, IsRefusedBy}

module _ (fabric : FabricOf) (old new : Seen) (first last : Reading) (none : told_of first ≡ none_told) where
  pub gave_levels : GaveText (λ at line to. AddsTo fabric (told_of at) line (told_of to)) (λ reading. IsEnded (told_of reading)) old new first last → GaveLevels fabric old new last.rows
  gave_levels gave = record {
    bytes = gave.bytes;
    gave = gave.gave;
    end = gave.end;
    text = record {
      last = told_of last;
      text = subst (λ (t : Told). IsTextOf (AddsTo fabric) IsEnded t gave.bytes (told_of last)) none (text_told told_of (AddsTo fabric) IsEnded first last gave.bytes gave.text);
      says = refl;
    };
  }

  pub levels_refused : (refused : TextRefusal LaneCause) → IsRefusedFrom (λ at line to. AddsTo fabric (told_of at) line (told_of to)) (λ at line cause. IsFaultyAfter fabric (told_of at) line cause) (λ reading. IsEnded (told_of reading)) NoEnd TooMany old new first refused → IsRefusedBy fabric old new refused
  levels_refused refused is = subst (λ (t : Told). IsRefusedFrom (AddsTo fabric) (IsFaultyAfter fabric) IsEnded NoEnd TooMany old new t refused) none (refused_told told_of (AddsTo fabric) IsEnded (IsFaultyAfter fabric) NoEnd TooMany old new first refused is)
