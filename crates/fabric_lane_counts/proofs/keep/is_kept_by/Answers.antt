use Rattle.std.proofs.lemmas.Bool.{OnTrue_from}
use Rattle.fabric_lane_counts.specs.Keep.{IsKeptBy}
use Rattle.fabric_lane_counts.proofs.KeepLemmas.{kept_word}
use Rattle.fabric_lane_tables.specs.Lanes.{lanes_of}
use Rattle.fabric_lane_counts.proofs.keep.is_kept_by.Goals as goal

pub returns-in-To : goal.returns-in-To
returns-in-To c = OnTrue_from _ (IsKeptBy c.args.fabric.now (lanes_of c.args.lanes.now) c.args.used c.args.at c.args.port)
    (λ none has level low bit lane. kept_word c.gone_by.result c.args.used level none ((c.gone_by.ensures level).1 (low, lane)) bit)

pub returns-in-End : goal.returns-in-End
returns-in-End c = OnTrue_from _ (IsKeptBy c.args.fabric.now (lanes_of c.args.lanes.now) c.args.used c.args.at c.args.port)
    (λ none has level low bit lane. kept_word c.gone_by-in-End.result c.args.used level none ((c.gone_by-in-End.ensures level).1 (low, lane)) bit)
