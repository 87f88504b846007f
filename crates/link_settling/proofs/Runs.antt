use Rattle.std.proofs.Common.{◌≡◌, ⊎_elim, sym, subst, ℕ, suc, ◌-◌, ◌≤◌, ◌<◌, arith, Some, true, false}
use Rattle.std.proofs.lemmas.Bool.{cases_lt, cases_Bool}
use Rattle.an_base.specs.Values.{EndId}
use Rattle.port_monitor.specs.declared.port.Phase.TheVariants.{Host}
use Rattle.port_monitor.specs.Histories.{History, port_after}
use Rattle.link_settling.specs.Measures.{Knows, clocks_left, answers_left}
use Rattle.link_settling.specs.Links.{Speaks, IsTick, Ticks, begins, one_more}
use Rattle.link_settling.specs.Moments.{EndView, EndRun, tick_begins}
use Rattle.link_settling.proofs.Clocks.{known_far}
use Rattle.link_settling.proofs.Answers.{answers_most, none_left}
use Rattle.link_settling.proofs.Ports.{port_sound, is_no_host, clock_most}
use Rattle.link_settling.proofs.Links.{tick_falls, tick_no_host, tick_answered, tick_nearer, IsDone, done_stays_here, knows}
use Rattle.link_settling.proofs.Ticks.{begins_in, run_in}

-- what holds at one end after so many ticks
record AtEnd (n : ℕ) (own far : EndId) (history : History) : Type 0 where
  clocks : clocks_left (port_after own history) ≤ 129 - n
  never : (port_after own history).phase ≡ Host → ⊥
  answered : 129 ≤ n → (port_after own history).far.answer ≡ Some far
  answers : 129 ≤ n → answers_left far (port_after own history).far ≤ 258 - n

asks_then : (n : ℕ) (own far : EndId) (history : History) → AtEnd n own far history → 129 ≤ n → Speaks own history
asks_then n own far history at late =
    let p = port_after own history in
    let c = at.clocks in
    ⊎_elim (λ host. absurd (at.never host)) (λ switch. switch) (known_far p.phase p.status (port_sound own history).holding (omega (arith, c, late)))

-- one tick more
goes_on : (n : ℕ) (own far : EndId) (before after far_before far_after : History) → AtEnd n own far before → AtEnd n far own far_before
    → IsTick own far before after far_after → IsTick far own far_before far_after after → AtEnd (suc n) own far after
goes_on n own far before after far_before far_after here there tick far_tick = record {
  clocks = clocks;
  never = never;
  answered = λ late. tick_answered own far before after far_after tick (speaks late) (far_speaks late);
  answers = λ late. ⊎_elim
      (λ (first : n < 129). let x = (port_after own after).far in let m = answers_most far x.conn x (port_sound own after).far.skeptic in omega (arith, first, late, m))
      (λ (later : 129 ≤ n).
      let i = here.answers later in
      let e = tick_nearer own far before after far_after tick (asks_then n own far before here later) (here.answered later) in
      omega (arith, i, e))
      (cases_lt n 129);
}
  where
    clocks : clocks_left (port_after own after) ≤ 129 - suc n
    clocks = let e = tick_falls own far before after far_after tick in let i = here.clocks in omega (arith, e, i)

    never : (port_after own after).phase ≡ Host → ⊥
    never = tick_no_host own far before after far_after tick here.never

    far_clocks : clocks_left (port_after far far_after) ≤ 129 - suc n
    far_clocks = let e = tick_falls far own far_before far_after after far_tick in let i = there.clocks in omega (arith, e, i)

    far_never : (port_after far far_after).phase ≡ Host → ⊥
    far_never = tick_no_host far own far_before far_after after far_tick there.never

    speaks : 129 ≤ suc n → Speaks own after
    speaks late =
        let p = port_after own after in
        let c = clocks in
        ⊎_elim (λ host. absurd (never host)) (λ switch. switch) (known_far p.phase p.status (port_sound own after).holding (omega (arith, c, late)))

    far_speaks : 129 ≤ suc n → Speaks far far_after
    far_speaks late =
        let p = port_after far far_after in
        let c = far_clocks in
        ⊎_elim (λ host. absurd (far_never host)) (λ switch. switch) (known_far p.phase p.status (port_sound far far_after).holding (omega (arith, c, late)))

both_ends : (a b : EndId) (n : ℕ) (at_a at_b : History) → Ticks a b n at_a at_b → AtEnd n a b at_a × AtEnd n b a at_b
both_ends a b n at_a at_b (begins x y here there) = (
  record { clocks = clock_most a x; never = is_no_host a x here; answered = λ late. absurd (omega (arith, late)); answers = λ late. absurd (omega (arith, late)) },
  record { clocks = clock_most b y; never = is_no_host b y there; answered = λ late. absurd (omega (arith, late)); answers = λ late. absurd (omega (arith, late)) },
)
both_ends a b n at_a at_b (one_more m x y then_a then_b before here there) =
    let i = both_ends a b m x y before in
    (goes_on m a b x then_a y then_b i.0 i.1 here there, goes_on m b a y then_b x then_a i.1 i.0 there here)

done_at : (n : ℕ) (own far : EndId) (history : History) → AtEnd n own far history → 258 ≤ n → IsDone own far (port_after own history)
done_at n own far history at late =
    let z = at.answers (omega (arith, late)) in
    record { phase = asks_then n own far history at (omega (arith, late)); conn = none_left own far (port_after own history).far (port_sound own history).far (omega (arith, z, late)) }

-- within a tick
done_within : (n : ℕ) (own far : EndId) (history there : History) (v : EndView) → AtEnd n own far history → 258 ≤ n → EndRun own far (tick_begins history there) v → Knows own far (port_after own v.here)
done_within n own far history there v at late run =
    let k = run_in own far history (tick_begins history there) v (begins_in own far history there) run in
    let d = done_at n own far history at late in
    knows own far (port_after own v.here) (⊎_elim
    (λ (clocked : v.has_clocked ≡ true).
    let c = k.came clocked in
    subst (λ h. IsDone own far (port_after own h)) (sym c.happened) (done_stays_here own far c.nonces history d (at.answered (omega (arith, late)))))
    (λ (waits : v.has_clocked ≡ false). subst (λ h. IsDone own far (port_after own h)) (sym (k.waits waits)) d)
    (cases_Bool v.has_clocked))

pub knows_within : (a b : EndId) (n : ℕ) (at_a at_b : History) → Ticks a b n at_a at_b → 258 ≤ n
    → (Knows a b (port_after a at_a)) × (Knows b a (port_after b at_b))
    × ((v : EndView) → EndRun a b (tick_begins at_a at_b) v → Knows a b (port_after a v.here))
    × ((v : EndView) → EndRun b a (tick_begins at_b at_a) v → Knows b a (port_after b v.here))
knows_within a b n at_a at_b ticks late =
    let e = both_ends a b n at_a at_b ticks in (
      knows a b (port_after a at_a) (done_at n a b at_a e.0 late),
      knows b a (port_after b at_b) (done_at n b a at_b e.1 late),
      λ v run. done_within n a b at_a at_b v e.0 late run,
      λ v run. done_within n b a at_b at_a v e.1 late run,
    )
