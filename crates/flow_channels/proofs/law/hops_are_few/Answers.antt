use Rattle.flow_channels.specs.Layout.{layout_of}
use Rattle.flow_channels.proofs.CallLaws.{few_calls}
use Rattle.flow_channels.proofs.HopLaws.{few_hops}
use Rattle.flow_channels.proofs.WiredLaws.{wired}
use Rattle.flow_channels.proofs.law.hops_are_few.Goals as goal

pub returns-clause-all : goal.returns-clause-all
returns-clause-all c = λ es numbers rows ranks most limit acts flow packet graph named count passes some comes.
    few_calls (layout_of es numbers rows most) ranks (wired es numbers graph named count rows most some) passes.ranked packet limit acts flow comes

pub returns-clause-turns : goal.returns-clause-turns
returns-clause-turns c = λ layout ranks known old new went packet wired ranked sound turns. few_hops layout ranks wired ranked known packet went old new sound turns
