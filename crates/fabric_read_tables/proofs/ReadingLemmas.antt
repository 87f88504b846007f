-- What a reading tells of what a source gave.
use Rattle.std.proofs.Common.{◌≡◌, subst, refl}
use Rattle.outside.specs.Told.{Seen}
use Rattle.fabric_model.specs.Fabric.{FabricOf}
use Rattle.fabric_read_lines.specs.declared.reader.TextRefusal.{TextRefusal}
use Rattle.fabric_read_lines.specs.Texts.{GaveText, IsTextOf, IsRefusedBy as IsRefusedFrom}
use Rattle.fabric_read_lines.proofs.MapLemmas.{text_told, refused_told}
use Rattle.fabric_read_tables.specs.declared.cause.TablesCause.{TablesCause}
use Rattle.fabric_read_tables.specs.declared.cause.TablesCause.TheVariants.{NoEnd, TooMany}
use Rattle.fabric_read_tables.specs.declared.reading.Reading.{Reading}
use Rattle.fabric_read_tables.specs.Tables.{AddsTo, IsEnded, IsFaultyAfter, Told, none_told}
use Rattle.fabric_read_tables.specs.Readings.{told_of}
use Rattle.fabric_read_tables.specs.Reads.{GaveTables, IsRefusedBy}

module _ (fabric : FabricOf) (old new : Seen) (first last : Reading) (none : told_of first ≡ none_told) where
  pub gave_tables : GaveText (λ at line to. AddsTo fabric (told_of at) line (told_of to)) (λ reading. IsEnded (told_of reading)) old new first last → GaveTables fabric old new (record { cells = last.cells; rows = last.rows; unowned = last.unowned })
  gave_tables gave =
      let text = subst (λ (t : Told). IsTextOf (AddsTo fabric) IsEnded t gave.bytes (told_of last)) none (text_told told_of (AddsTo fabric) IsEnded first last gave.bytes gave.text) in
      record {
        bytes = gave.bytes;
        gave = gave.gave;
        end = gave.end;
        text = record { last = told_of last; good = text.good; ended = text.ended; says = refl; rows_are = refl; unowned_are = refl };
      }

  pub tables_refused : (refused : TextRefusal TablesCause) → IsRefusedFrom (λ at line to. AddsTo fabric (told_of at) line (told_of to)) (λ at line cause. IsFaultyAfter fabric (told_of at) line cause) (λ reading. IsEnded (told_of reading)) NoEnd TooMany old new first refused → IsRefusedBy fabric old new refused
  tables_refused refused is = subst (λ (t : Told). IsRefusedFrom (AddsTo fabric) (IsFaultyAfter fabric) IsEnded NoEnd TooMany old new t refused) none (refused_told told_of (AddsTo fabric) IsEnded (IsFaultyAfter fabric) NoEnd TooMany old new first refused is)
