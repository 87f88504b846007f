use Rattle.std.proofs.Common.{◌≡◌, ◌∙◌, ◌+◌, ◌-◌, Option, ◌++◌, ◌∷◌, [], sym, ap, subst, refl, ℕ, cond}
use Rattle.an_base.specs.declared.event.Event.{Event}
use Rattle.an_base.specs.declared.event.Event.TheVariants.{Move, Send}
use Rattle.report.specs.Beliefs.{belief_line, belief_text, is_known}
use Rattle.report.specs.Remembering.{CameUntil, KeepBeliefs, Meets, arrival_in, choice_at, with_delivery}
use Rattle.report.proofs.RememberingLemmas.{came_here, known_few, move_keeps, move_within, other_keeps, other_told, send_keeps, send_told, sender_low, silent}
use Rattle.report.proofs.naming.Believing.meet.Goals as goal

-- a packet is sent
pub send-requires : goal.send-requires
send-requires c =
    let self = c.args.self.now in
    let sends = Send c.in-Send.host c.in-Send.to in
    let meets = subst (λ (e : Event). Meets c.requires.0 c.requires.1 e c.args.fabric.now c.args.place c.args.lines.now self.script.now self.packets.items self.caches.items self.known) c.in-Send.is c.requires.2 in
    record {
      within = sender_low c.requires.0 c.requires.1 c.args.fabric.now c.args.place c.args.lines.now self.script.now self.packets.items self.caches.items self.known c.in-Send.host c.in-Send.to meets;
      ticks = subst (λ (n : ℕ). CameUntil n self.caches.items) (sym c.now.ensures) (came_here c.requires.0 c.requires.1 c.args.fabric.now c.args.place c.args.lines.now self.script.now self.packets.items self.caches.items self.known sends meets);
      few = known_few c.requires.0 c.requires.1 c.args.fabric.now c.args.place c.args.lines.now self.script.now self.packets.items self.caches.items self.known sends meets;
    }

pub returns-in_ok-send-in-Send-clause-keep : goal.returns-in_ok-send-in-Send-clause-keep
returns-in_ok-send-in-Send-clause-keep c = λ script before all.
    let self = c.args.self.now in
    let new = c.send.new.self in
    let host = c.in-Send.host in
    let to = c.in-Send.to in
    let meets = subst (λ (e : Event). Meets script before e c.args.fabric.now c.args.place c.args.lines.now self.script.now self.packets.items self.caches.items self.known) c.in-Send.is all in
    let known : new.known ≡ self.known + cond (is_known (choice_at self.script.now self.caches.items host to c.args.fabric.now.tick)) 1 0 =
    c.in_ok-send-in-Send.ensures.known ∙ ap (λ (n : ℕ). self.known + cond (is_known (choice_at self.script.now self.caches.items host to n)) 1 0) c.now.ensures in
    subst (λ (e : Event). KeepBeliefs script (before ++ e ∷ []) new.script.now new.packets.items new.caches.items new.known) (sym c.in-Send.is)
    (send_keeps script before c.args.fabric.now c.args.place c.args.lines.now self.script.now self.packets.items self.caches.items self.known host to new.script.now new.packets.items new.caches.items new.known meets c.in_ok-send-in-Send.ensures.script c.in_ok-send-in-Send.ensures.caches c.in_ok-send-in-Send.ensures.packets known)

pub returns-in_ok-send-in-Send-clause-text : goal.returns-in_ok-send-in-Send-clause-text
returns-in_ok-send-in-Send-clause-text c = λ script before all.
    let self = c.args.self.now in
    let host = c.in-Send.host in
    let to = c.in-Send.to in
    let text = c.args.text.now.items in
    let new = c.send.new.text.items in
    let meets = subst (λ (e : Event). Meets script before e c.args.fabric.now c.args.place c.args.lines.now self.script.now self.packets.items self.caches.items self.known) c.in-Send.is all in
    let line : new ≡ text ++ belief_line self.script.now (record { place = c.args.place; from = host; to = to; choice = choice_at self.script.now self.caches.items host to c.args.fabric.now.tick }) =
    c.in_ok-send-in-Send.ensures.text ∙ ap (λ (n : ℕ). text ++ belief_line self.script.now (record { place = c.args.place; from = host; to = to; choice = choice_at self.script.now self.caches.items host to n })) c.now.ensures in
    subst (λ (e : Event). new ≡ text ++ belief_text script (record { before = before; event = e })) (sym c.in-Send.is)
    (send_told script before c.args.fabric.now c.args.place c.args.lines.now self.script.now self.packets.items self.caches.items self.known host to text new meets line)

-- a packet moves
pub hop-requires : goal.hop-requires
hop-requires c =
    let self = c.args.self.now in
    let packet = c.in-Move.packet in
    let meets = subst (λ (e : Event). Meets c.requires.0 c.requires.1 e c.args.fabric.now c.args.place c.args.lines.now self.script.now self.packets.items self.caches.items self.known) c.in-Move.is c.requires.2 in
    let within = move_within c.requires.0 c.requires.1 c.args.fabric.now c.args.place c.args.lines.now self.script.now self.packets.items self.caches.items self.known packet meets in
    record {
      least = within.0;
      most = within.1;
      ticks = came_here c.requires.0 c.requires.1 c.args.fabric.now c.args.place c.args.lines.now self.script.now self.packets.items self.caches.items self.known (Move packet) meets;
    }

pub returns-in-Move-clause-keep : goal.returns-in-Move-clause-keep
returns-in-Move-clause-keep c = λ script before all.
    let self = c.args.self.now in
    let new = c.hop.new.self in
    let packet = c.in-Move.packet in
    let meets = subst (λ (e : Event). Meets script before e c.args.fabric.now c.args.place c.args.lines.now self.script.now self.packets.items self.caches.items self.known) c.in-Move.is all in
    subst (λ (e : Event). KeepBeliefs script (before ++ e ∷ []) new.script.now new.packets.items new.caches.items new.known) (sym c.in-Move.is)
    (move_keeps script before c.args.fabric.now c.args.place c.args.lines.now self.script.now self.packets.items self.caches.items self.known packet new.script.now new.packets.items new.caches.items new.known meets c.hop.ensures.script c.hop.ensures.known c.hop.ensures.packets
    (c.hop.ensures.caches ∙ ap (λ (host : Option ℕ). with_delivery (arrival_in self.script.now c.args.fabric.now self.packets.items (packet - 1)) host self.caches.items) c.delivery_in.ensures) c.hop.ensures.ticks)

pub returns-in-Move-clause-text : goal.returns-in-Move-clause-text
returns-in-Move-clause-text c = λ script before all.
    let self = c.args.self.now in
    let text = c.args.text.now.items in
    subst (λ (e : Event). text ≡ text ++ belief_text script (record { before = before; event = e })) (sym c.in-Move.is)
    (other_told script before c.args.fabric.now c.args.place c.args.lines.now self.script.now self.packets.items self.caches.items self.known (Move c.in-Move.packet) text refl)

-- another event
pub returns-in_default-clause-keep : goal.returns-in_default-clause-keep
returns-in_default-clause-keep c = λ script before meets.
    let self = c.args.self.now in
    other_keeps script before c.args.fabric.now c.args.place c.args.lines.now self.script.now self.packets.items self.caches.items self.known c.args.event.now meets (silent script before c.args.event.now c.in_default.not-Send c.in_default.not-Move)

pub returns-in_default-clause-text : goal.returns-in_default-clause-text
returns-in_default-clause-text c = λ script before meets.
    let self = c.args.self.now in
    other_told script before c.args.fabric.now c.args.place c.args.lines.now self.script.now self.packets.items self.caches.items self.known c.args.event.now c.args.text.now.items (silent script before c.args.event.now c.in_default.not-Send c.in_default.not-Move).no_belief
