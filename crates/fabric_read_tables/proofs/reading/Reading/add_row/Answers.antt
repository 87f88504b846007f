use Rattle.std.proofs.Common.{◌≡◌, ◌∙◌, sym, ap, subst, false, ◌+◌, ◌<◌, ℕ, Result, arith}
use Rattle.std.specs.Prelude.{IfSome}
use Rattle.fabric_model.specs.Fabric.{switch_count}
use Rattle.fabric_tables.specs.Cells.{tables_of}
use Rattle.fabric_words.specs.Says.{and_then}
use Rattle.fabric_read_tables.specs.declared.cause.TablesCause.{TablesCause}
use Rattle.fabric_read_tables.specs.declared.reading.Part.{Part}
use Rattle.fabric_read_tables.specs.Readings.{switch_in, told_of}
use Rattle.fabric_read_tables.specs.Tables.{is_void, row_told}
use Rattle.fabric_read_tables.proofs.RowStepLemmas.{one_more, row_put, still_reserved, unowned_more}
use Rattle.fabric_read_tables.proofs.reading.Reading.add_row.Goals as goal

pub returns-clause-step : goal.returns-clause-step
returns-clause-step c =
    let fabric = c.args.fabric.now in
    let told = told_of c.args.self.now in
    let lid = c.from-lid.result in
    let room = c.make_room.ensures in
    let says : is_void lid c.args.port ≡ false = ap (λ (l : ℕ). is_void l c.args.port) c.from-lid.ensures ∙ sym c.is_void.ensures ∙ c.if-is_void.false in
    let put = c.if-not-put.ensures in
    let count = unowned_more fabric lid c.args.self.now.unowned c.from.result c.owner.result c.is_none.result c.owner.ensures c.is_none.ensures c.from.ensures in
    let step = row_put fabric told c.in-Ok.switch lid c.args.port _ _ _ (tables_of c.make_room.new.self.cells) (tables_of c.put.new.self) says room.part (ap (λ (n : ℕ). n + 1) room.rows) (ap (λ (n : ℕ). n + c.from.result) room.unowned ∙ count) room.same put.put put.alone in
    ap (λ (s : Result ℕ TablesCause). and_then s (row_told fabric told c.args.lid c.args.port)) c.in-Ok.is
    ∙ ap (λ (l : ℕ). row_told fabric told l c.args.port c.in-Ok.switch) (sym c.from-lid.ensures) ∙ step

pub returns-clause-fit : goal.returns-clause-fit
returns-clause-fit c =
    let fit = c.requires.fit in
    let room = c.make_room.ensures in
    let put = c.if-not-put.ensures in
    let says : is_void c.from-lid.result c.args.port ≡ false = ap (λ (l : ℕ). is_void l c.args.port) c.from-lid.ensures ∙ sym c.is_void.ensures ∙ c.if-is_void.false in
    record {
      switches = put.switches ∙ room.switches ∙ fit.switches;
      lids = omega (arith, fit.lids, room.less, put.blocks);
      most = omega (arith, c.in_ok-make_room.ensures.most, put.blocks);
      within = subst (λ (p : Part). IfSome (switch_in p) (λ switch. switch < switch_count c.args.fabric.now)) (sym room.part) fit.within;
      unowned = one_more _ _ _ _ c.from.result c.is_none.result c.from.ensures room.unowned room.rows fit.unowned;
      reserved = still_reserved (tables_of c.make_room.new.self.cells) (tables_of c.put.new.self) c.in-Ok.switch c.from-lid.result c.args.port says put.put (λ s. room.same s 0 ∙ fit.reserved s);
    }
