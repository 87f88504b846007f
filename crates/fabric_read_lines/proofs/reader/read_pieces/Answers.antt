use Rattle.std.proofs.Common.{◌++◌, [], refl, sym, rules, arith, length-append, length-take, ◌+◌}
use Rattle.outside.proofs.ToldLemmas.{with_front_none}
use Rattle.fabric_read_lines.proofs.PieceLemmas.{read_none}
use Rattle.fabric_read_lines.proofs.ReadLemmas.{end_told, end_refused, over_many, held_stopped, held_more, given_more}
use Rattle.fabric_read_lines.proofs.reader.read_pieces.Goals as goal

pub pieces-init : goal.pieces-init
pieces-init g c = record {
  read = (
    [],
    sym (with_front_none (g.S.Source.seen c.args.source.now).told),
    read_none (g.T.TakesLines.adds c.args.fabric.now) c.args.told.now,
    refl,
  );
  cut = refl;
  held = c.requires.held;
  short = omega arith;
  fit = c.requires.fit;
  counted = omega (arith, c.requires.none);
  few = omega arith;
  kept = search rules;
}

pub returns-in-End-clause-text : goal.returns-in-End-clause-text
returns-in-End-clause-text g c =
    let i = c.pieces.invariant.read in
    end_told (g.T.TakesLines.adds c.args.fabric.now) g.T.TakesLines.is_ended c.finish.result (g.S.Source.seen c.args.source.now) (g.S.Source.seen c.pieces.source) (g.S.Source.seen c.read_piece.new.source) i.0 _ _ c.args.told.now c.pieces.told c.finish.new.told c.pieces.line i.1 i.2 c.in-End.ensures.end c.in-End.ensures.front c.finish.ensures.text

pub returns-in-End-clause-refused : goal.returns-in-End-clause-refused
returns-in-End-clause-refused g c =
    let i = c.pieces.invariant.read in
    end_refused (g.T.TakesLines.adds c.args.fabric.now) (g.T.TakesLines.is_faulty c.args.fabric.now) g.T.TakesLines.is_ended g.Cause.TextCause.no_end g.Cause.TextCause.too_many c.finish.result (g.S.Source.seen c.args.source.now) (g.S.Source.seen c.pieces.source) (g.S.Source.seen c.read_piece.new.source) i.0 _ _ c.args.told.now c.pieces.told c.pieces.line i.1 i.2 c.in-End.ensures.end c.in-End.ensures.front c.finish.ensures.refused

pub returns-then-more-left-clause-refused : goal.returns-then-more-left-clause-refused
returns-then-more-left-clause-refused g c =
    let i = c.pieces.invariant.read in
    rw c.too_many.ensures (over_many (g.T.TakesLines.adds c.args.fabric.now) (g.T.TakesLines.is_faulty c.args.fabric.now) g.T.TakesLines.is_ended g.Cause.TextCause.no_end g.Cause.TextCause.too_many (g.S.Source.seen c.args.source.now) (g.S.Source.seen c.pieces.source) (g.S.Source.seen c.read_piece.new.source) i.0 c.pieces.held c.read_piece.new.held c.pieces.count c.in-Part.more c.pieces.left c.pieces.line c.args.told.now i.1 i.3 c.in-Part.ensures.part c.if-more-left.true)

pub returns-in-Err-clause-refused : goal.returns-in-Err-clause-refused
returns-in-Err-clause-refused g c =
    let i = c.pieces.invariant.read in
    rw c.refused.ensures (held_stopped (g.T.TakesLines.adds c.args.fabric.now) (g.T.TakesLines.is_faulty c.args.fabric.now) g.T.TakesLines.is_ended g.Cause.TextCause.no_end g.Cause.TextCause.too_many c.in-Err.stop (g.S.Source.seen c.args.source.now) (g.S.Source.seen c.pieces.source) (g.S.Source.seen c.read_piece.new.source) i.0 c.pieces.held c.read_piece.new.held c.pieces.count c.in-Part.more c.args.told.now c.pieces.told c.pieces.line c.read_held.new.line i.1 i.2 c.in-Part.ensures.part c.in-Err.ensures.stopped)

pub pieces-preserved : goal.pieces-preserved
pieces-preserved g c =
    let i = c.pieces.invariant.read in
    let piece = c.in-Part.ensures.part in
    let more = held_more (g.T.TakesLines.adds c.args.fabric.now) c.args.told.now (g.S.Source.seen c.pieces.source) (g.S.Source.seen c.read_piece.new.source) i.0 c.pieces.held c.read_piece.new.held c.pieces.count c.in-Part.more c.pieces.told c.pieces.line i.2 piece in
    let on = c.in-Ok.ensures.read in
    let size = length-append i.0 piece.piece in
    record {
      read = (
        i.0 ++ piece.piece,
        given_more (g.S.Source.seen c.args.source.now) (g.S.Source.seen c.pieces.source) (g.S.Source.seen c.read_piece.new.source) i.0 c.pieces.held c.read_piece.new.held c.pieces.count c.in-Part.more i.1 piece,
        on.read c.args.told.now (i.0 ++ piece.piece) more,
        omega (arith, i.3, piece.size, size, c.if-more-left.false),
      );
      cut = on.cut;
      held = search rules;
      short = c.in-Ok.ensures.short.0;
      fit = c.in-Ok.ensures.fit;
      counted = c.in-Ok.ensures.counted;
      few = omega (arith, on.few, c.pieces.invariant.few, c.if-more-left.false, c.in-Ok.ensures.short, length-take c.in-Ok.count c.read_held.new.held, length-take (c.pieces.count + c.in-Part.more) c.read_piece.new.held, piece.within, c.pieces.invariant.held, c.read_piece.auto.held);
      kept = search rules;
    }
