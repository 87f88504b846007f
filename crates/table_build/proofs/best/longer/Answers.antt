use Rattle.std.proofs.Common.{inl, inr}
use Rattle.table_build.proofs.BestLemmas.{is_longer}
use Rattle.table_build.proofs.best.longer.Goals as goal
use Rattle.table_build.proofs.best.longer.Goals.{then-z-search, else-z-search, then-search, else-search}

pub returns : goal.returns
returns c =
    is_longer c.args.search.any c.args.search.from c.args.z c.args.port c.args.best c.if-z-search.ports c.if-search.link c.requires.port
    (elim c.if-z-search.branch [
      | then-z-search w ↦ inl (w.if-z-search.true, w.ports-is)
      | else-z-search w ↦ inr (w.if-z-search.false, w.ports-is)
    ])
    (elim c.if-search.branch [
      | then-search w ↦ inl (w.if-search.true, w.link-is)
      | else-search w ↦ inr (w.if-search.false, w.link-is)
    ])
