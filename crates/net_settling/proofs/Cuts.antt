-- A link that was cut into ticks settles.

use Rattle.std.specs.Prelude.{true, cond}
use Rattle.std.proofs.Common.{◌≡◌, sym, ap, subst, refl, ℕ, suc, ◌+◌, ◌≤◌, arith}
use Rattle.ordered_link.specs.Sending.{Sending, highest, unused}
use Rattle.switch_core.specs.Switch.{port_of}
use Rattle.link_settling.specs.Measures.{Knows}
use Rattle.link_settling.specs.Links.{Ticks, one_more}
use Rattle.link_settling.specs.Moments.{TickEnds}
use Rattle.link_settling.proofs.Runs.{knows_within}
use Rattle.link_settling.proofs.Ticks.{run_is_tick}
use Rattle.link_settling.specs.Directions.{IsStill}
use Rattle.link_settling.proofs.Directions.{all_acknowledged}
use Rattle.net_world.specs.World.{WorldOf}
use Rattle.net_settling.specs.Views.{LinkOf, turned, here, there, end_here, end_there, is_session, view, way, IsCut, IsRun}

-- both ends of a link that was cut into ticks know each other
pub cut_knows : (since : ℕ) (w : WorldOf) (l : LinkOf) → IsCut since w l → since + 259 ≤ w.fabric.tick
    → Knows (end_here w l) (end_there w l) (port_of (here w l) l.port) × Knows (end_there w l) (end_here w l) (port_of (there w l) l.far_port)
cut_knows since w l cut late =
    let t = cut.time in
    let k = knows_within (end_here w l) (end_there w l) cut.ticks cut.at_here cut.at_there cut.before (omega (arith, t, late)) in
    (k.2 (view w l) cut.run_here, k.3 (view w (turned l)) cut.run_there)

-- at the end of a tick there is one more
pub cut_ends : (since : ℕ) (w : WorldOf) (l : LinkOf) → (cut : IsCut since w l) → TickEnds (view w l) → TickEnds (view w (turned l))
    → Ticks (end_here w l) (end_there w l) (suc cut.ticks) ((here w l).ports l.port) ((there w l).ports l.far_port)
cut_ends since w l cut ends far_ends =
    one_more cut.ticks cut.at_here cut.at_there ((here w l).ports l.port) ((there w l).ports l.far_port) cut.before
    (run_is_tick (end_here w l) (end_there w l) cut.at_here cut.at_there (view w l) cut.run_here ends)
    (run_is_tick (end_there w l) (end_here w l) cut.at_there cut.at_here (view w (turned l)) cut.run_there far_ends)

-- and three ticks after base all bodies of the link are acknowledged
sending_is : (w : WorldOf) (l : LinkOf) → is_session w l ≡ true → (way w l).sending ≡ (here w l).sendings l.port
sending_is w l is = ap (λ b. cond b ((here w l).sendings l.port) unused) is

pub run_acknowledged : (base : ℕ) (w : WorldOf) (l : LinkOf) → IsRun base w l → IsRun base w (turned l) → is_session w l ≡ true → is_session w (turned l) ≡ true → 1 ≤ highest ((here w l).sendings l.port) → 1 ≤ highest ((there w l).sendings l.far_port)
    → IsStill (way w l) → IsStill (way w (turned l)) → base + 3 ≤ w.fabric.tick
    → ((here w l).epoch ≡ (there w l).epoch) × (((here w l).sendings l.port).acked ≡ highest ((here w l).sendings l.port)) × (((there w l).sendings l.far_port).acked ≡ highest ((there w l).sendings l.far_port))
run_acknowledged base w l run back with_it with_back sent sent_back still still_back late =
    let a = sending_is w l with_it in
    let b = sending_is w (turned l) with_back in
    let all = all_acknowledged base run.first (way w l) back.first (way w (turned l)) run.starts back.starts run.run back.run refl refl
    (subst (λ (t : Sending). 1 ≤ highest t) (sym a) sent) (subst (λ (t : Sending). 1 ≤ highest t) (sym b) sent_back) still still_back late late
    in
    (all.0, subst (λ (t : Sending). t.acked ≡ highest t) a all.1, subst (λ (t : Sending). t.acked ≡ highest t) b all.2)
