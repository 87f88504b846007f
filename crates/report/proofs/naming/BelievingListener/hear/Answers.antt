use Rattle.report.proofs.RememberingLemmas.{meets_now}
use Rattle.report.proofs.naming.BelievingListener.hear.Goals as goal

pub meet-requires : goal.meet-requires
meet-requires c =
    let net = c.args.net.now in
    let self = c.args.self.now in
    (net.script, c.requires.0, meets_now c.requires.0 c.args.event.now net c.fabric-fabric.result.now c.events.result c.args.lines.now self.script.now self.packets.items self.caches.items self.known c.requires.2 c.requires.1 c.fabric-fabric.ensures c.events.ensures.kept c.events.ensures.events)

pub returns-clause-stands : goal.returns-clause-stands
returns-clause-stands c = λ before heard stands.
    let net = c.args.net.now in
    let self = c.args.self.now in
    c.meet.ensures.keep net.script before (meets_now before c.args.event.now net c.fabric-fabric.result.now c.events.result c.args.lines.now self.script.now self.packets.items self.caches.items self.known stands heard c.fabric-fabric.ensures c.events.ensures.kept c.events.ensures.events)

pub returns-clause-text : goal.returns-clause-text
returns-clause-text c = λ before heard stands.
    let net = c.args.net.now in
    let self = c.args.self.now in
    c.meet.ensures.text net.script before (meets_now before c.args.event.now net c.fabric-fabric.result.now c.events.result c.args.lines.now self.script.now self.packets.items self.caches.items self.known stands heard c.fabric-fabric.ensures c.events.ensures.kept c.events.ensures.events)
