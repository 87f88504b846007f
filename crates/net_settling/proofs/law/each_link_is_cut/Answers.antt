use Rattle.net_settling.proofs.CutLinks.{all_cut}
use Rattle.net_settling.proofs.Linked.{link_of}
use Rattle.net_settling.proofs.Runs.{all_runs}
use Rattle.net_settling.proofs.law.each_link_is_cut.Goals as goal

pub returns-clause-cut : goal.returns-clause-cut
returns-clause-cut c = λ script kept unpaced history works late link far up. all_cut script kept unpaced history works late link (link_of script kept link.place link.port link.far_place link.far_port far) up

pub returns-clause-run : goal.returns-clause-run
returns-clause-run c = λ script kept unpaced history works link far apart. all_runs script kept unpaced history works link (link_of script kept link.place link.port link.far_place link.far_port far) apart
