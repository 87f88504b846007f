use Rattle.std.proofs.Common.{◌∙◌, sym, ap, subst, refl, arith, List, ℕ, Bool, [], ◌∷◌}
use Rattle.check_text.specs.Check.{Judges}
use Rattle.check_text.proofs.CheckLemmas.{only_passes, refused_at}
use Rattle.check_text.proofs.check.judge_only.Goals as goal

pub returns-then-not-branch : goal.returns-then-not-branch
returns-then-not-branch c =
    let judged = c.in_ok-judge_rows.ensures c.args.tables c.in_ok-numbers.ensures (c.deref.ensures.value ∙ c.in_ok-rows.ensures) in
    let no = subst (λ (passed : Bool). Judges c.args.script.now c.args.tables c.args.component.now passed c.args.text.now.items c.judge_rows.new.text.items) c.if-not-branch.true judged in
    refused_at c.args.script.now c.args.tables (c.args.component.now ∷ []) 0 c.args.component.now [] c.args.text.now.items c.judge_rows.new.text.items c.requires.forest (omega arith) refl refl (λ k d low. absurd (omega arith)) no

pub returns : goal.returns
returns c =
    let judged = c.in_ok-judge_rows.ensures c.args.tables c.in_ok-numbers.ensures (c.deref.ensures.value ∙ c.in_ok-rows.ensures) in
    let yes = subst (λ (passed : Bool). Judges c.args.script.now c.args.tables c.args.component.now passed c.args.text.now.items c.judge_rows.new.text.items) c.if-not-branch.false judged in
    only_passes c.args.script.now c.args.tables c.args.component.now c.args.text.now.items c.judge_rows.new.text.items _ c.requires.forest c.requires.none yes c.in_ok-extend_from_slice.ensures.items
