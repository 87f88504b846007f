-- Steps that are taken one after another, and waves that run until nothing is fresh.
use Rattle.std.proofs.Common.{◌≡◌, ◌∙◌, sym, subst, refl, ℕ, zero, suc, ◌+◌, ◌<◌, List, Bool, true, length, get_or, arith, inl, inr, ◌⊎◌, ◌↔◌}
use Rattle.std.proofs.lemmas.Bool.{cases_eq}
use Rattle.common_graph.specs.Graph.{GraphOf, LeadsTo}
use Rattle.fabric_routes.specs.Waves.{HasBit, IsIdle, StateOf}
use Rattle.fabric_routes.proofs.WordLemmas.{bit_or_not, has_low}
use Rattle.fabric_lane_waves.specs.Waves.{IsFurther, IsReached, IsRunning, IsSpread, IsTurned, Spreads, Taken}

module _ (Step : ℕ → ℕ → ℕ → ℕ → ℕ → Type 0) (Stops : ℕ → ℕ → Type 0) where
  pub taken_none : (Kind : ℕ → ℕ → Type 0) (s : StateOf) → ((at bit : ℕ) → Kind at bit → ⊥) → Taken Step Stops Kind s s
  taken_none Kind s none = record {
    seen = λ place bit. (
      λ has. inl has,
      λ either. elim either [
        | inl had ↦ had
        | inr (at, one, other, kind, is) ↦ absurd (none at bit kind)
      ],
    );
    leads = λ one other. (
      λ has. inl has,
      λ either. elim either [
        | inl had ↦ had
        | inr (at, bit, to, kind, is) ↦ absurd (none at bit kind)
      ],
    );
    stopped = (
      λ has. inl has,
      λ either. elim either [
        | inl had ↦ had
        | inr (at, bit, kind, is) ↦ absurd (none at bit kind)
      ],
    );
    count = refl;
    wide = refl;
    bases = refl;
  }

  pub taken_more : (P Q R : ℕ → ℕ → Type 0) (a b c : StateOf) → ((at bit : ℕ) → R at bit → P at bit ⊎ Q at bit) → ((at bit : ℕ) → P at bit → R at bit) → ((at bit : ℕ) → Q at bit → R at bit) → Taken Step Stops P a b → Taken Step Stops Q b c → Taken Step Stops R a c
  taken_more P Q R a b c split left right first second = record {
    seen = λ place bit. (
      λ has. elim ((second.seen place bit).0 has) [
        | inl before ↦ elim ((first.seen place bit).0 before) [
          | inl had ↦ inl had
          | inr (at, one, other, kind, is) ↦ inr (at, one, other, left at bit kind, is)
        ]
        | inr (at, one, other, kind, is) ↦ inr (at, one, other, right at bit kind, is)
      ],
      λ either. elim either [
        | inl had ↦ (second.seen place bit).1 (inl ((first.seen place bit).1 (inl had)))
        | inr (at, one, other, kind, is) ↦ elim (split at bit kind) [
          | inl p ↦ (second.seen place bit).1 (inl ((first.seen place bit).1 (inr (at, one, other, p, is))))
          | inr q ↦ (second.seen place bit).1 (inr (at, one, other, q, is))
        ]
      ],
    );
    leads = λ one other. (
      λ has. elim ((second.leads one other).0 has) [
        | inl before ↦ elim ((first.leads one other).0 before) [
          | inl had ↦ inl had
          | inr (at, bit, to, kind, is) ↦ inr (at, bit, to, left at bit kind, is)
        ]
        | inr (at, bit, to, kind, is) ↦ inr (at, bit, to, right at bit kind, is)
      ],
      λ either. elim either [
        | inl had ↦ (second.leads one other).1 (inl ((first.leads one other).1 (inl had)))
        | inr (at, bit, to, kind, is) ↦ elim (split at bit kind) [
          | inl p ↦ (second.leads one other).1 (inl ((first.leads one other).1 (inr (at, bit, to, p, is))))
          | inr q ↦ (second.leads one other).1 (inr (at, bit, to, q, is))
        ]
      ],
    );
    stopped = (
      λ has. elim (second.stopped.0 has) [
        | inl before ↦ elim (first.stopped.0 before) [
          | inl had ↦ inl had
          | inr (at, bit, kind, is) ↦ inr (at, bit, left at bit kind, is)
        ]
        | inr (at, bit, kind, is) ↦ inr (at, bit, right at bit kind, is)
      ],
      λ either. elim either [
        | inl had ↦ second.stopped.1 (inl (first.stopped.1 (inl had)))
        | inr (at, bit, kind, is) ↦ elim (split at bit kind) [
          | inl p ↦ second.stopped.1 (inl (first.stopped.1 (inr (at, bit, p, is))))
          | inr q ↦ second.stopped.1 (inr (at, bit, q, is))
        ]
      ],
    );
    count = second.count ∙ first.count;
    wide = second.wide ∙ first.wide;
    bases = second.bases ∙ first.bases;
  }

  again : (P : ℕ → ℕ → Type 0) (a b : StateOf) → Taken Step Stops P a b → Taken Step Stops P b b
  again P a b first = record {
    seen = λ place bit. (
      λ has. inl has,
      λ either. elim either [
        | inl had ↦ had
        | inr more ↦ (first.seen place bit).1 (inr more)
      ],
    );
    leads = λ one other. (
      λ has. inl has,
      λ either. elim either [
        | inl had ↦ had
        | inr more ↦ (first.leads one other).1 (inr more)
      ],
    );
    stopped = (
      λ has. inl has,
      λ either. elim either [
        | inl had ↦ had
        | inr more ↦ first.stopped.1 (inr more)
      ],
    );
    count = refl;
    wide = refl;
    bases = refl;
  }

  pub taken_as : (P R : ℕ → ℕ → Type 0) (a b : StateOf) → ((at bit : ℕ) → R at bit → P at bit) → ((at bit : ℕ) → P at bit → R at bit) → Taken Step Stops P a b → Taken Step Stops R a b
  taken_as P R a b back there first = taken_more P P R a b b (λ at bit r. inl (back at bit r)) there there first (again P a b first)

  -- the steps from one place for one bit
  module _ (at bit : ℕ) where
    abbrev pub Here : ℕ → ℕ → Type 0
    Here place other = (place ≡ at) × (other ≡ bit)

    step_here : (place other to one two : ℕ) → Here place other → Step other place to one two → Step bit at to one two
    step_here place other to one two here step = subst (λ (b : ℕ). Step b at to one two) here.1 (subst (λ (p : ℕ). Step other p to one two) here.0 step)

    stops_here : (place other : ℕ) → Here place other → Stops other place → Stops bit at
    stops_here place other here stops = subst (λ (b : ℕ). Stops b at) here.1 (subst (λ (p : ℕ). Stops other p) here.0 stops)

    -- there is one step
    module _ (to first second : ℕ) (step : Step bit at to first second) (alone : (t one two : ℕ) → Step bit at t one two → (t ≡ to) × (one ≡ first) × (two ≡ second)) (none : Stops bit at → ⊥) where
      pub taken_on : (seen marked : List ℕ) (graph new : GraphOf) (stopped : Bool) → ((place other : ℕ) → (HasBit marked place other ↔ (HasBit seen place other ⊎ ((place ≡ to) × (other ≡ bit))))) → length marked ≡ length seen → ((one two : ℕ) → (LeadsTo new one two ↔ (LeadsTo graph one two ⊎ ((one ≡ first) × (two ≡ second))))) → new.wide ≡ graph.wide → new.bases ≡ graph.bases → Taken Step Stops Here (record { seen = seen; graph = graph; stopped = stopped }) (record { seen = marked; graph = new; stopped = stopped })
      taken_on seen marked graph new stopped more count insert wide bases = record {
        seen = λ place other. (
          λ has. elim ((more place other).0 has) [
            | inl had ↦ inl had
            | inr (there, put_in) ↦ inr (at, first, second, (refl, put_in), subst (λ (p : ℕ). Step other at p first second) (sym there) (subst (λ (b : ℕ). Step b at to first second) (sym put_in) step))
          ],
          λ either. elim either [
            | inl had ↦ (more place other).1 (inl had)
            | inr (from, one, two, here, is) ↦ (more place other).1 (inr ((alone place one two (step_here from other place one two here is)).0, here.1))
          ],
        );
        leads = λ one two. (
          λ has. elim ((insert one two).0 has) [
            | inl had ↦ inl had
            | inr (a, b) ↦ inr (at, bit, to, (refl, refl), subst (λ (x : ℕ). Step bit at to x two) (sym a) (subst (λ (y : ℕ). Step bit at to first y) (sym b) step))
          ],
          λ either. elim either [
            | inl had ↦ (insert one two).1 (inl had)
            | inr (from, other, t, here, is) ↦ (insert one two).1 (inr (let only = alone t one two (step_here from other t one two here is) in (only.1, only.2)))
          ],
        );
        stopped = (
          λ is. inl is,
          λ either. elim either [
            | inl is ↦ is
            | inr (from, other, here, is) ↦ absurd (none (stops_here from other here is))
          ],
        );
        count = count;
        wide = wide;
        bases = bases;
      }

    -- there is none
    pub taken_end : ((to one two : ℕ) → Step bit at to one two → ⊥) → (seen : List ℕ) (graph : GraphOf) (old new : Bool) → ((new ≡ true) ↔ ((old ≡ true) ⊎ Stops bit at)) → Taken Step Stops Here (record { seen = seen; graph = graph; stopped = old }) (record { seen = seen; graph = graph; stopped = new })
    taken_end none seen graph old new tells = record {
      seen = λ place other. (
        λ has. inl has,
        λ either. elim either [
          | inl had ↦ had
          | inr (from, one, two, here, is) ↦ absurd (none place one two (step_here from other place one two here is))
        ],
      );
      leads = λ one two. (
        λ has. inl has,
        λ either. elim either [
          | inl had ↦ had
          | inr (from, other, to, here, is) ↦ absurd (none to one two (step_here from other to one two here is))
        ],
      );
      stopped = (
        λ is. elim (tells.0 is) [
          | inl had ↦ inl had
          | inr stops ↦ inr (at, bit, (refl, refl), stops)
        ],
        λ either. elim either [
          | inl had ↦ tells.1 (inl had)
          | inr (from, other, here, is) ↦ tells.1 (inr (stops_here from other here is))
        ],
      );
      count = refl;
      wide = refl;
      bases = refl;
    }

  module _ (initial : StateOf) where
    -- at first nothing is done
    pub run_first : (done : List ℕ) → ((place bit : ℕ) → HasBit done place bit → ⊥) → length done ≡ length initial.seen → IsRunning Step Stops initial initial done
    run_first done none count = record {
      taken = taken_none (HasBit done) initial none;
      within = λ place bit has. absurd (none place bit has);
      fits = λ place bit has. absurd (none place bit has);
      reached = λ place bit has. record { start = place; has = has; steps = 0; spreads = refl };
      count = count;
    }

    -- the fresh bits of a place are done
    pub run_more : (at : ℕ) (old new : StateOf) (done after : List ℕ) → IsRunning Step Stops initial old done → IsTurned Step Stops at old new done after → IsRunning Step Stops initial new after
    run_more at old new done after run turn = record {
      taken = taken_more (HasBit done) (λ place bit. (place ≡ at) × HasBit old.seen at bit × (HasBit done at bit → ⊥)) (HasBit after) initial old new
          (λ place bit has. elim ((turn.done place bit).0 has) [
            | inl had ↦ inl had
            | inr (same, saw) ↦ elim (bit_or_not (get_or done at 0) bit) [
              | inl had ↦ inl (subst (λ (s : ℕ). HasBit done s bit) (sym same) had)
              | inr not ↦ inr (same, saw, not)
            ]
          ])
          (λ place bit had. (turn.done place bit).1 (inl had))
          (λ place bit kind. (turn.done place bit).1 (inr (kind.0, kind.1)))
          run.taken turn.taken;
      within = λ place bit has. (turn.taken.seen place bit).1 (inl (elim ((turn.done place bit).0 has) [
        | inl had ↦ run.within place bit had
        | inr (same, saw) ↦ subst (λ (s : ℕ). HasBit old.seen s bit) (sym same) saw
      ]));
      fits = λ place bit has. elim ((turn.done place bit).0 has) [
        | inl had ↦ run.fits place bit had
        | inr (same, saw) ↦ turn.fits bit saw
      ];
      reached = λ place bit has. elim ((turn.taken.seen place bit).0 has) [
        | inl had ↦ run.reached place bit had
        | inr (from, one, other, kind, step) ↦ (
            let before = run.reached from bit (subst (λ (s : ℕ). HasBit old.seen s bit) (sym kind.0) kind.1) in
            record { start = before.start; has = before.has; steps = suc before.steps; spreads = (from, one, other, before.spreads, step) })
      ];
      count = turn.count ∙ run.count ∙ sym turn.taken.count;
    }

    -- if all that was seen is done, just the dependencies of what is reached are there
    module _ (now : StateOf) (done : List ℕ) (run : IsRunning Step Stops initial now done) (rest : (place bit : ℕ) → place < length now.seen → HasBit now.seen place bit → HasBit done place bit) where
      all_done : (place bit : ℕ) → HasBit now.seen place bit → HasBit done place bit
      all_done place bit has = rest place bit (has_low now.seen place bit has) has

      reach : (bit steps start at : ℕ) → Spreads Step bit steps start at → HasBit now.seen start bit → HasBit now.seen at bit
      reach bit zero start at same has = subst (λ (s : ℕ). HasBit now.seen s bit) same has
      reach bit (suc steps) start at (before, one, other, spreads, step) has =
          (run.taken.seen at bit).1 (inr (before, one, other, all_done before bit (reach bit steps start before spreads has), step))

      come : (bit at : ℕ) → IsReached Step Stops initial.seen bit at → HasBit done at bit
      come bit at is = all_done at bit (reach bit is.steps is.start at is.spreads ((run.taken.seen is.start bit).1 (inl is.has)))

      from : (at bit : ℕ) → HasBit done at bit → (bit < 64) × IsReached Step Stops initial.seen bit at
      from at bit has = (run.fits at bit has, run.reached at bit (run.within at bit has))

      pub run_done : IsSpread Step Stops initial now
      run_done = record {
        leads = λ one other. (
          λ has. elim ((run.taken.leads one other).0 has) [
            | inl had ↦ inl had
            | inr (at, bit, to, kind, step) ↦ (let is = from at bit kind in inr (bit, at, to, is.0, is.1, step))
          ],
          λ either. elim either [
            | inl had ↦ (run.taken.leads one other).1 (inl had)
            | inr (bit, at, to, low, is, step) ↦ (run.taken.leads one other).1 (inr (at, bit, to, come bit at is, step))
          ],
        );
        stopped = (
          λ is. elim (run.taken.stopped.0 is) [
            | inl had ↦ inl had
            | inr (at, bit, kind, stops) ↦ (let by = from at bit kind in inr (bit, at, by.0, by.1, stops))
          ],
          λ either. elim either [
            | inl had ↦ run.taken.stopped.1 (inl had)
            | inr (bit, at, low, is, stops) ↦ run.taken.stopped.1 (inr (at, bit, come bit at is, stops))
          ],
        );
        wide = run.taken.wide;
        bases = run.taken.bases;
      }

  -- nothing was fresh at a place
  pub idle_run : (initial : StateOf) (at : ℕ) (old new : StateOf) (before after : List ℕ) → IsIdle at old new before after → IsRunning Step Stops initial old before → IsRunning Step Stops initial new after
  idle_run initial at old new before after idle run = subst (λ (s : StateOf). IsRunning Step Stops initial s after) (sym idle.same) (subst (λ (d : List ℕ). IsRunning Step Stops initial old d) (sym idle.same_done) run)

  -- a turn carries the waves further
  pub further_one : (at : ℕ) (old new : StateOf) (before after : List ℕ) → IsTurned Step Stops at old new before after → IsFurther Step Stops old new before after
  further_one at old new before after turn = record {
    running = λ initial run. run_more initial at old new before after run turn;
    less = turn.less;
    count = turn.count;
    seen_count = turn.taken.count;
    bases = turn.taken.bases;
    wide = turn.taken.wide;
  }

  -- and one more still further
  pub further_more : (at : ℕ) (first old new : StateOf) (before done after : List ℕ) → IsFurther Step Stops first old before done → IsTurned Step Stops at old new done after → IsFurther Step Stops first new before after
  further_more at first old new before done after so_far turn = record {
    running = λ initial run. run_more initial at old new done after (so_far.running initial run) turn;
    less = (let less = so_far.less in let more = turn.less in omega arith);
    count = turn.count ∙ so_far.count;
    seen_count = turn.taken.count ∙ so_far.seen_count;
    bases = turn.taken.bases ∙ so_far.bases;
    wide = turn.taken.wide ∙ so_far.wide;
  }

pub idle_rest : (at : ℕ) (old new : StateOf) (before after : List ℕ) → IsIdle at old new before after → ((place bit : ℕ) → place < at → HasBit old.seen place bit → HasBit before place bit) → (place bit : ℕ) → place < at + 1 → HasBit new.seen place bit → HasBit after place bit
idle_rest at old new before after idle rest place bit low has =
    let saw : HasBit old.seen place bit = subst (λ (s : StateOf). HasBit s.seen place bit) idle.same has in
    subst (λ (words : List ℕ). HasBit words place bit) (sym idle.same_done) (elim (cases_eq place at) [
      | inl same ↦ subst (λ (s : ℕ). HasBit before s bit) (sym same) (idle.none bit (subst (λ (s : ℕ). HasBit old.seen s bit) same saw))
      | inr other ↦ rest place bit (omega arith) saw
    ])
