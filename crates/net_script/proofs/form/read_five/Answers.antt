use Rattle.std.proofs.Common.{sym, ap, ◌∙◌, ℕ, List, [], ◌∷◌, Some, codes}
use Rattle.net_script.specs.Forms.{SwitchLine, LinkLine, HostLine, ChangesLink, Sends}
use Rattle.common_lines.proofs.ChoiceLemmas.{word_is}
use Rattle.net_script.proofs.FormLemmas.{form_step}
use Rattle.net_script.proofs.form.read_five.Goals as goal

pub returns-then-is-2 : goal.returns-then-is-2
returns-then-is-2 c = form_step c.read_switch.result c.args.draft.now c.read_switch.new.draft (SwitchLine c.args.b.now c.args.c.now (Some c.args.e.now)) _ (ap (λ (w : List ℕ). w ∷ c.args.b.now ∷ c.args.c.now ∷ c.args.d.now ∷ c.args.e.now ∷ []) (word_is c.args.a.now _ (sym c.if-is.ensures)) ∙ ap (λ (w : List ℕ). codes "switch" ∷ c.args.b.now ∷ c.args.c.now ∷ w ∷ c.args.e.now ∷ []) (word_is c.args.d.now _ (sym c.if-is-2.ensures))) c.read_switch.ensures

pub returns-then-is-3 : goal.returns-then-is-3
returns-then-is-3 c = form_step c.read_link.result c.args.draft.now c.read_link.new.draft (LinkLine c.args.b.now c.args.c.now c.args.d.now c.args.e.now) _ (ap (λ (w : List ℕ). w ∷ c.args.b.now ∷ c.args.c.now ∷ c.args.d.now ∷ c.args.e.now ∷ []) (word_is c.args.a.now _ (sym c.if-is-3.ensures))) c.read_link.ensures

pub returns-then-is-4 : goal.returns-then-is-4
returns-then-is-4 c = form_step c.read_host.result c.args.draft.now c.read_host.new.draft (HostLine c.args.b.now c.args.c.now c.args.d.now c.args.e.now) _ (ap (λ (w : List ℕ). w ∷ c.args.b.now ∷ c.args.c.now ∷ c.args.d.now ∷ c.args.e.now ∷ []) (word_is c.args.a.now _ (sym c.if-is-4.ensures))) c.read_host.ensures

pub returns-then-is-6 : goal.returns-then-is-6
returns-then-is-6 c = form_step c.read_send.result c.args.draft.now c.read_send.new.draft (Sends c.args.b.now c.args.d.now c.args.e.now) _ (ap (λ (w : List ℕ). w ∷ c.args.b.now ∷ c.args.c.now ∷ c.args.d.now ∷ c.args.e.now ∷ []) (word_is c.args.a.now _ (sym c.if-is-5.ensures)) ∙ ap (λ (w : List ℕ). codes "at" ∷ c.args.b.now ∷ w ∷ c.args.d.now ∷ c.args.e.now ∷ []) (word_is c.args.c.now _ (sym c.if-is-6.ensures))) c.read_send.ensures

pub returns-in-Some : goal.returns-in-Some
returns-in-Some c = form_step c.read_link_change.result c.args.draft.now c.read_link_change.new.draft (ChangesLink c.in-Some.change c.args.b.now c.args.d.now c.args.e.now) _ (ap (λ (w : List ℕ). w ∷ c.args.b.now ∷ c.args.c.now ∷ c.args.d.now ∷ c.args.e.now ∷ []) (word_is c.args.a.now _ (sym c.if-is-7.ensures)) ∙ ap (λ (w : List ℕ). codes "at" ∷ c.args.b.now ∷ w ∷ c.args.d.now ∷ c.args.e.now ∷ []) c.in-Some.ensures.some) c.read_link_change.ensures
