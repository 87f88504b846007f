use Rattle.std.proofs.Common.{length}
use Rattle.table_script.proofs.component.+labels_of.Given as goal

abbrev pub decreases-labels_of : goal.decreases-labels_of
decreases-labels_of l = length l.links.now
