use Rattle.std.proofs.Common.{◌≡◌, ◌∙◌, sym, ap, subst, ◌+◌, ◌<◌, None, Some, length, length-set, get_or, arith}
use Rattle.std.proofs.lemmas.List.{get_or_default}
use Rattle.fabric_model.specs.declared.node.EndPort.TheVariants.{Host}
use Rattle.fabric_model.specs.Fabric.{start_of, switch_at}
use Rattle.fabric_routes.specs.declared.sender.Senders.{Senders}
use Rattle.fabric_routes.specs.declared.sender.Senders.TheVariants.{Quiet}
use Rattle.fabric_routes.specs.Starts.{AreSendersOf, IsAmong}
use Rattle.fabric_routes.proofs.SenderLemmas.{sender_same, set_each}
use Rattle.fabric_routes.proofs.sender.add_sender.Goals as goal

pub returns-in_default : goal.returns-in_default
returns-in_default c =
    let none : start_of c.args.fabric.now (Host c.args.end) ≡ None = ap switch_at (sym c.cable_of.ensures.cable ∙ c.in_default.is) in
    record {
      size = c.requires.senders.size;
      each = λ s low. sender_same c.args.fabric.now c.args.end s (get_or c.args.senders.now.items s Quiet) (λ e. (cc)) (c.requires.senders.each s low);
    }

pub returns : goal.returns
returns c =
    let f = c.args.fabric.now in
    let xs = c.args.senders.now.items in
    let at = c.in-Some.spot.switch in
    let size = c.requires.senders.size in
    let within = c.in-Some.ensures.within in
    let begins : start_of c.args.fabric.now (Host c.args.end) ≡ Some c.in-Some.spot.switch = ap switch_at (sym c.in-Some.ensures.cable) in
    let low_at : c.in-Some.spot.switch < length c.args.senders.now.items = omega arith in
    let is = c.index-before.ensures ∙ get_or_default c.args.senders.now.items c.in-Some.spot.switch c.index-before.result.now Quiet low_at in
    record {
      size = length-set xs at c.with_sender.result ∙ size;
      each = λ s low. set_each (λ s x. AreSendersOf (IsAmong c.args.fabric.now (c.args.end + 1) s) x) c.args.senders.now.items c.in-Some.spot.switch c.with_sender.result low_at
          (c.with_sender.ensures f at begins (subst (λ (x : Senders). AreSendersOf (IsAmong c.args.fabric.now c.args.end c.in-Some.spot.switch) x) (sym is) (c.requires.senders.each at (omega arith))))
          s (λ other. sender_same f c.args.end s (get_or c.args.senders.now.items s Quiet) (λ e. other (let b = begins in cc)) (c.requires.senders.each s low));
    }
