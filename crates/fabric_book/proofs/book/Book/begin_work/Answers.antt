-- What is told of the work that was begun.

use Rattle.std.proofs.Common.{◌∙◌, ◌∷◌, [], ap, refl, subst, sym}
use Rattle.std.proofs.lemmas.List.{append-nil}
use Rattle.an_base.specs.declared.event.Event.TheVariants.{Take}
use Rattle.net_state.specs.declared.line.Line.{Line}
use Rattle.net_state.specs.declared.work.Work.{Work}
use Rattle.net_world.specs.Histories.{fabric_of, world_of}
use Rattle.net_world.specs.Lines.{lines_of}
use Rattle.fabric_book.specs.Kept.{HasSamples}
use Rattle.fabric_book.proofs.book.Book.begin_work.Goals as goal

pub clock-requires-clause-samples : goal.clock-requires-clause-samples
clock-requires-clause-samples c = subst (λ (j : Work). HasSamples j (fabric_of c.args.self.now) c.args.s) c.in-Clock.is c.requires.samples

pub returns-in-Restart-clause-told : goal.returns-in-Restart-clause-told
unfolding lines_of
returns-in-Restart-clause-told c = rw c.in-Restart.is (ap (λ (x : Line). x ∷ []) c.restart-life.ensures.told)

pub returns-in-Clock-clause-told : goal.returns-in-Clock-clause-told
unfolding lines_of
returns-in-Clock-clause-told c = rw c.in-Clock.is refl

pub returns-in-Frame-clause-told : goal.returns-in-Frame-clause-told
returns-in-Frame-clause-told c = rw c.in-Frame.is (c.take_at.ensures.told ∙ sym (append-nil (lines_of (world_of c.args.self.now) (Take c.args.s c.in-Frame.port))))
