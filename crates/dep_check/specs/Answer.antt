-- The result of the check: a reason to reject the rows, or the ranks.
use Rattle.std.specs.Prelude.{ℕ, List, Option}
use Rattle.an_base.specs.Values.{EntryOf}
use Rattle.an_base.specs.Rows.{RowOf}
use Rattle.dep_check.specs.declared.refusal.CheckRefusal.{CheckRefusal}
use Rattle.dep_check.specs.declared.refusal.CheckRefusal.TheVariants.{Cycle, NotJoined, IllegalExit}
use Rattle.dep_check.specs.declared.refusal.CheckRefusal.TheVariants.{OutOfMemory}
use Rattle.dep_check.specs.Channels.{far_at, IsChannel, LeadsTo, channel_cmp}
use Rattle.common_graph.specs.Cycles.{HasNoCycle, IsLeastCycle, AreRanks}
use Rattle.dep_check.specs.Packets.{AllAreJoined, IsLeastGap}
use Rattle.dep_check.specs.Illegal.{AllAreLegal, IsLeastIllegal}
use Rattle.dep_check.specs.Tables.{rank_at}

-- the reason to reject rows: the least cycle; otherwise the least pair that is not joined; otherwise the least illegal
-- exit
abbrev pub IsRefusal : List EntryOf → List ℕ → List RowOf → CheckRefusal → Type 0
IsRefusal entries numbers rows (Cycle channels) =
    IsLeastCycle channel_cmp (LeadsTo (far_at entries numbers) rows) channels
IsRefusal entries numbers rows (NotJoined from to at entry) =
    HasNoCycle (LeadsTo (far_at entries numbers) rows)
    × IsLeastGap (far_at entries numbers) numbers rows from to at entry
IsRefusal entries numbers rows (IllegalExit at entry to exit) =
    HasNoCycle (LeadsTo (far_at entries numbers) rows) × AllAreJoined (far_at entries numbers) numbers rows
    × IsLeastIllegal entries numbers rows at entry to exit
IsRefusal entries numbers rows OutOfMemory = Unit {0}

-- no channels form a cycle, and `ranks` are the ranks
pub record HasAllRanks (entries : List EntryOf) (numbers : List ℕ) (rows : List RowOf)
    (ranks : List (Option ℕ))
    : Type 0 where
  pub no_cycle : HasNoCycle (LeadsTo (far_at entries numbers) rows)
  pub ranked :
      AreRanks (IsChannel (far_at entries numbers)) (LeadsTo (far_at entries numbers) rows) (rank_at ranks)

-- `rows` pass, with the ranks `ranks`
pub record Passes (entries : List EntryOf) (numbers : List ℕ) (rows : List RowOf) (ranks : List (Option ℕ))
    : Type 0 where
  pub no_cycle : HasNoCycle (LeadsTo (far_at entries numbers) rows)
  pub joined : AllAreJoined (far_at entries numbers) numbers rows
  pub legal : AllAreLegal entries numbers rows
  pub ranked :
      AreRanks (IsChannel (far_at entries numbers)) (LeadsTo (far_at entries numbers) rows) (rank_at ranks)
