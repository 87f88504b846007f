use Rattle.std.proofs.Common.{arith}
use Rattle.table_script.proofs.DraftLemmas.{not_entered}
use Rattle.table_script.proofs.table_draft.TableDraft.is_next.Goals as goal

pub returns-then-height-self : goal.returns-then-height-self
returns-then-height-self c = λ t. absurd (cc)

pub returns : goal.returns
returns c = λ t. rw (← c.self.view_is) (not_entered _ c.self.inside.top c.args.s c.args.entry c.self.invariant (let h = c.height_of-height.ensures.height in let f = c.if-height-self.false in omega arith))
