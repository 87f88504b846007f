use Rattle.std.proofs.Common.{◌≡◌, ◌∙◌, sym, ap, subst, true, false, arith, inl, inr}
use Rattle.std.proofs.lemmas.Bool.{cases_eq, cases_lt}
use Rattle.dep_check.specs.declared.channel.Channel.{Channel}
use Rattle.dep_check.specs.Tables.{place_of}
use Rattle.dep_check.specs.Search.{IsStuck}
use Rattle.dep_check.specs.Walks.{seen_at}
use Rattle.dep_check.proofs.SpotLemmas.{one_spot, place_low}
use Rattle.dep_check.proofs.CycleLemmas.{place_order}
use Rattle.dep_check.proofs.WalkLemmas.{walked_reached, walked_all}
use Rattle.dep_check.proofs.gap.least_end.Goals as goal
use Rattle.dep_check.proofs.gap.least_end.Goals.{else-is_seen-via-then-is_seen+else-is_stuck, else-is_seen-via-else-is_seen}

pub returns-then-is_stuck : goal.returns-then-is_stuck
returns-then-is_stuck c =
    let steps = c.args.steps.now in
    let end = c.spot_at-end.result in
    let spot = c.spot_at-end.ensures.spot in
    let at = c.spot_at-end.ensures.place in
    let seen : seen_at c.walk.new.seen.items end ≡ true = sym (ap (λ xs. seen_at xs end) c.deref.ensures.value) ∙ sym c.is_seen.ensures ∙ c.if-is_seen.true in
    let leads = walked_reached steps c.args.start c.in_ok-seen.seen.items c.walk.new.seen.items _ c.in_ok-seen.ensures.none c.in_ok-walk.ensures.walked end spot seen in (
      spot,
      (leads.0, leads.1, c.is_stuck.ensures.0 c.if-is_stuck.true),
      λ e e_spot stuck. elim (cases_lt (place_of e) c.spots.place) [
        | inl less ↦ absurd (c.spots.invariant e e_spot less stuck)
        | inr more ↦ place_order end e spot e_spot (omega arith)
      ],
    )

pub spots-preserved : goal.spots-preserved
spots-preserved c = λ e e_spot low stuck.
    let steps = c.args.steps.now in
    let end = c.spot_at-end.result in
    let at = c.spot_at-end.ensures.place in
    elim (cases_eq (place_of e) c.spots.place) [
      | inr before ↦ c.spots.invariant e e_spot (omega arith) stuck
      | inl last ↦ (
          let here = one_spot e end e_spot c.spot_at-end.ensures.spot (last ∙ sym at) in
          elim c.else-is_seen.branch [
            | else-is_seen-via-then-is_seen+else-is_stuck w ↦ absurd (
                let t = w.is_stuck.ensures.1 (subst (λ (x : Channel). IsStuck steps x) here stuck.2) in
                let f = w.if-is_stuck.false in
                cc)
            | else-is_seen-via-else-is_seen w ↦ absurd (
                let t : seen_at c.walk.new.seen.items e ≡ true = walked_all steps c.args.start c.in_ok-seen.seen.items c.walk.new.seen.items _ c.in_ok-seen.ensures.none c.in_ok-walk.ensures.walked stuck.0 c.args.start e c.requires c.in_ok-walk.ensures.walked.begun stuck.1 in
                let f : seen_at c.walk.new.seen.items e ≡ false = ap (seen_at c.walk.new.seen.items) here ∙ sym (ap (λ xs. seen_at xs end) c.deref.ensures.value) ∙ sym c.is_seen.ensures ∙ w.if-is_seen.false in
                cc)
          ])
    ]

pub returns : goal.returns
returns c = λ e spot stuck. let low = place_low e spot in c.spots.invariant e spot (omega arith) stuck
