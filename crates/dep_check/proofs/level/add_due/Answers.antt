use Rattle.dep_check.specs.Tables.{level_at}
use Rattle.dep_check.proofs.LevelLemmas.{none_told}
use Rattle.dep_check.proofs.RoundLemmas.{adds_one}
use Rattle.dep_check.proofs.level.add_due.Goals as goal

pub returns : goal.returns
returns c =
    let levels = c.args.levels.now in
    let bare = none_told c.level_of.result (level_at levels c.args.spot) c.is_some.result c.level_of.ensures c.is_some.ensures c.if-is_some.false in
    rw c.in_ok-push.ensures.items (adds_one c.args.rule c.args.steps.now levels c.args.spot c.args.due.now.items (record {
      spot = c.requires;
      none = bare;
      due = rw c.if-not-is_due.false at c.is_due.ensures;
    }))
