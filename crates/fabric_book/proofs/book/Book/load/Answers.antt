-- Where nothing bars it a table that is due may be loaded.

use Rattle.std.proofs.Common.{◌≡◌, ◌∙◌, ◌∷◌, [], Bool, Some, ap, false, refl, subst, sym, true, vec_capacity}
use Rattle.an_base.specs.declared.event.Event.TheVariants.{Load}
use Rattle.net_state.specs.declared.line.PlacedLine.{PlacedLine}
use Rattle.net_world.specs.Histories.{HistoryOf, fabric_of}
use Rattle.net_world.specs.Turns.{LoadsOrNot}
use Rattle.net_world.specs.declared.ask.Reply.TheVariants as reply
use Rattle.net_state.specs.Lawful.{is_barred}
use Rattle.fabric_book.proofs.BookLemmas.{drive_told, fabric_at}
use Rattle.fabric_book.proofs.WorldFacts.{load_may_come}
use Rattle.fabric_book.proofs.book.Book.load.Goals as goal

pub load_now-line-requires-clause-lawful : goal.load_now-line-requires-clause-lawful
load_now-line-requires-clause-lawful c =
    let b = c.self.inside in
    load_may_come c.args.self.now.script c.args.self.now.events c.args.s c.requires.within
    (ap is_barred (sym (fabric_at b.fabric b.entries.items b.taken.items (vec_capacity b.entries) c.self.invariant c.args.self.now c.self.view_is)) ∙ sym c.is_barred.ensures ∙ c.if-is_barred.false) c.requires.load.empty c.requires.load.due

-- it is handed back
pub returns-then-is_barred-clause-reply : goal.returns-then-is_barred-clause-reply
returns-then-is_barred-clause-reply c =
    let b = c.self.inside in
    let h = c.args.self.now in
    let barred : is_barred (fabric_of h) ≡ true = ap is_barred (sym (fabric_at b.fabric b.entries.items b.taken.items (vec_capacity b.entries) c.self.invariant h c.self.view_is)) ∙ sym c.is_barred.ensures ∙ c.if-is_barred.true in
    subst (λ (x : Bool). LoadsOrNot x c.args.sheet (reply.NotNow c.args.sheet) c.args.s h.script h.events h.events) (sym barred) (refl, refl)

-- or in use
pub returns-clause-reply : goal.returns-clause-reply
returns-clause-reply c =
    let b = c.self.inside in
    let h = c.args.self.now in
    let line = c.load_now-line.result in
    let new = c.load_now-line.new.self in
    let free : is_barred (fabric_of h) ≡ false = ap is_barred (sym (fabric_at b.fabric b.entries.items b.taken.items (vec_capacity b.entries) c.self.invariant h c.self.view_is)) ∙ sym c.is_barred.ensures ∙ c.if-is_barred.false in
    let placed_is = ap (λ (p : PlacedLine). p ∷ []) (c.at_its_place.ensures ∙ ap (λ (g : HistoryOf). record { event = (fabric_of g).events; line = line }) c.load_now-line.ensures.loaded) in
    subst (λ (x : Bool). LoadsOrNot x c.args.sheet (reply.Loaded c.at_its_place.result) c.args.s h.script h.events new.events) (sym free) (record {
      told = c.at_its_place.result;
      answer_is = refl;
      told_is = drive_told h (Load c.args.s) (Some c.at_its_place.result) (Some line) placed_is c.load_now-line.ensures.told;
      event = ap (λ (g : HistoryOf). g.events) c.load_now-line.ensures.loaded;
    })
