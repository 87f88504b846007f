use Rattle.std.proofs.Common.{◌∙◌, sym}
use Rattle.flow_channels.proofs.watch.Watch.leave_by.Goals as goal

pub leave-requires-clause-spot : goal.leave-requires-clause-spot
leave-requires-clause-spot c = c.requires.kept.within c.args.came c.in-Some.channel (sym c.far.ensures ∙ c.in-Some.is)
