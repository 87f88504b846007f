-- Hops that are taken one after another.
use Rattle.std.proofs.Common.{◌≡◌, ◌∙◌, sym, ap, subst, refl, ℕ, ◌+◌, ◌-◌, ◌*◌, List, Bool, true, length, inl, inr, ◌⊎◌, ◌↔◌}
use Rattle.common_graph.specs.Graph.{GraphOf, LeadsTo}
use Rattle.fabric_routes.specs.declared.hop.Cause.{Cause}
use Rattle.fabric_routes.specs.declared.hop.Hop.{Hop}
use Rattle.fabric_routes.specs.declared.hop.Hop.TheVariants.{On, Arrive, Stop}
use Rattle.fabric_model.specs.Fabric.{FabricOf}
use Rattle.fabric_tables.specs.Cells.{TablesOf}
use Rattle.fabric_routes.specs.Routes.{hop, IsStop}
use Rattle.fabric_routes.specs.Waves.{HasBit, StateOf, Taken}

module _ (fabric : FabricOf) (tables : TablesOf) (block : ℕ) where
  pub taken_none : (Kind : ℕ → ℕ → Type 0) (s : StateOf) → ((at bit : ℕ) → Kind at bit → ⊥) → Taken fabric tables block Kind s s
  taken_none Kind s none = record {
    seen = λ switch bit. (
      λ has. inl has,
      λ either. elim either [
        | inl had ↦ had
        | inr (at, port, kind, is) ↦ absurd (none at bit kind)
      ],
    );
    leads = λ one other. (
      λ has. inl has,
      λ either. elim either [
        | inl had ↦ had
        | inr (at, bit, kind, makes) ↦ absurd (none at bit kind)
      ],
    );
    stopped = (
      λ has. inl has,
      λ either. elim either [
        | inl had ↦ had
        | inr (at, bit, kind, is) ↦ absurd (none at bit kind)
      ],
    );
    count = refl;
    wide = refl;
    bases = refl;
  }

  pub taken_more : (P Q R : ℕ → ℕ → Type 0) (a b c : StateOf) → ((at bit : ℕ) → R at bit → P at bit ⊎ Q at bit) → ((at bit : ℕ) → P at bit → R at bit) → ((at bit : ℕ) → Q at bit → R at bit) → Taken fabric tables block P a b → Taken fabric tables block Q b c → Taken fabric tables block R a c
  taken_more P Q R a b c split left right first second = record {
    seen = λ switch bit. (
      λ has. elim ((second.seen switch bit).0 has) [
        | inl before ↦ elim ((first.seen switch bit).0 before) [
          | inl had ↦ inl had
          | inr (at, port, kind, is) ↦ inr (at, port, left at bit kind, is)
        ]
        | inr (at, port, kind, is) ↦ inr (at, port, right at bit kind, is)
      ],
      λ either. elim either [
        | inl had ↦ (second.seen switch bit).1 (inl ((first.seen switch bit).1 (inl had)))
        | inr (at, port, kind, is) ↦ elim (split at bit kind) [
          | inl p ↦ (second.seen switch bit).1 (inl ((first.seen switch bit).1 (inr (at, port, p, is))))
          | inr q ↦ (second.seen switch bit).1 (inr (at, port, q, is))
        ]
      ],
    );
    leads = λ one other. (
      λ has. elim ((second.leads one other).0 has) [
        | inl before ↦ elim ((first.leads one other).0 before) [
          | inl had ↦ inl had
          | inr (at, bit, kind, makes) ↦ inr (at, bit, left at bit kind, makes)
        ]
        | inr (at, bit, kind, makes) ↦ inr (at, bit, right at bit kind, makes)
      ],
      λ either. elim either [
        | inl had ↦ (second.leads one other).1 (inl ((first.leads one other).1 (inl had)))
        | inr (at, bit, kind, makes) ↦ elim (split at bit kind) [
          | inl p ↦ (second.leads one other).1 (inl ((first.leads one other).1 (inr (at, bit, p, makes))))
          | inr q ↦ (second.leads one other).1 (inr (at, bit, q, makes))
        ]
      ],
    );
    stopped = (
      λ has. elim (second.stopped.0 has) [
        | inl before ↦ elim (first.stopped.0 before) [
          | inl had ↦ inl had
          | inr (at, bit, kind, is) ↦ inr (at, bit, left at bit kind, is)
        ]
        | inr (at, bit, kind, is) ↦ inr (at, bit, right at bit kind, is)
      ],
      λ either. elim either [
        | inl had ↦ second.stopped.1 (inl (first.stopped.1 (inl had)))
        | inr (at, bit, kind, is) ↦ elim (split at bit kind) [
          | inl p ↦ second.stopped.1 (inl (first.stopped.1 (inr (at, bit, p, is))))
          | inr q ↦ second.stopped.1 (inr (at, bit, q, is))
        ]
      ],
    );
    count = second.count ∙ first.count;
    wide = second.wide ∙ first.wide;
    bases = second.bases ∙ first.bases;
  }

  pub taken_as : (P R : ℕ → ℕ → Type 0) (a b : StateOf) → ((at bit : ℕ) → R at bit → P at bit) → ((at bit : ℕ) → P at bit → R at bit) → Taken fabric tables block P a b → Taken fabric tables block R a b
  taken_as P R a b back there first = taken_more P P R a b b (λ at bit r. inl (back at bit r)) there there first (again P a b first)
    where
      again : (P : ℕ → ℕ → Type 0) (a b : StateOf) → Taken fabric tables block P a b → Taken fabric tables block P b b
      again P a b first = record {
        seen = λ switch bit. (
          λ has. inl has,
          λ either. elim either [
            | inl had ↦ had
            | inr more ↦ (first.seen switch bit).1 (inr more)
          ],
        );
        leads = λ one other. (
          λ has. inl has,
          λ either. elim either [
            | inl had ↦ had
            | inr more ↦ (first.leads one other).1 (inr more)
          ],
        );
        stopped = (
          λ has. inl has,
          λ either. elim either [
            | inl had ↦ had
            | inr more ↦ first.stopped.1 (inr more)
          ],
        );
        count = refl;
        wide = refl;
        bases = refl;
      }

  -- one hop
  module _ (at bit : ℕ) where
    abbrev pub Here : ℕ → ℕ → Type 0
    Here switch other = (switch ≡ at) × (other ≡ bit)

    is_here : (switch other : ℕ) (h : Hop) → Here switch other → hop fabric tables at (64 * block + bit) ≡ h → hop fabric tables switch (64 * block + other) ≡ h
    is_here switch other h here is = let x = here.0 in let y = here.1 in cc

    no_stop : (port next : ℕ) → IsStop (On port next) → ⊥
    no_stop port next is = is

    -- it goes on, to a switch whose hop does so too
    module _ (port next : ℕ) (on : hop fabric tables at (64 * block + bit) ≡ On port next) (seen marked : List ℕ) (graph : GraphOf) (stopped : Bool) (more : (one other : ℕ) → (HasBit marked one other ↔ (HasBit seen one other ⊎ ((one ≡ next) × (other ≡ bit))))) (count : length marked ≡ length seen) where
      seen_on : (switch other : ℕ) → (HasBit marked switch other ↔ (HasBit seen switch other ⊎ ((from by : ℕ) × Here from other × (hop fabric tables from (64 * block + other) ≡ On by switch))))
      seen_on switch other = (
        λ has. elim ((more switch other).0 has) [
          | inl had ↦ inl had
          | inr (same, put_in) ↦ inr (at, port, (refl, put_in), is_here at other (On port switch) (refl, put_in) (on ∙ ap (λ (s : ℕ). On port s) (sym same)))
        ],
        λ either. elim either [
          | inl had ↦ (more switch other).1 (inl had)
          | inr (from, by, here, is) ↦ (more switch other).1 (inr ((let x = here.0 in let y = here.1 in cc), here.1))
        ],
      )

      stopped_on : (stopped ≡ true) ↔ ((stopped ≡ true) ⊎ ((from other : ℕ) × Here from other × IsStop (hop fabric tables from (64 * block + other))))
      stopped_on = (
        λ is. inl is,
        λ either. elim either [
          | inl is ↦ is
          | inr (from, other, here, is) ↦ absurd (subst IsStop (is_here from other (On port next) here on) is)
        ],
      )

      pub taken_on : (next_port after : ℕ) → hop fabric tables next (64 * block + bit) ≡ On next_port after → (new : GraphOf) → ((one other : ℕ) → (LeadsTo new one other ↔ (LeadsTo graph one other ⊎ ((one ≡ at * fabric.most + (port - 1)) × (other ≡ next * fabric.most + (next_port - 1)))))) → new.wide ≡ graph.wide → new.bases ≡ graph.bases → Taken fabric tables block Here (record { seen = seen; graph = graph; stopped = stopped }) (record { seen = marked; graph = new; stopped = stopped })
      taken_on next_port after next_on new insert wide bases = record {
        seen = seen_on;
        leads = λ one other. (
          λ has. elim ((insert one other).0 has) [
            | inl had ↦ inl had
            | inr (is_one, is_other) ↦ inr (at, bit, (refl, refl), record { port = port; next = next; on = on; next_port = next_port; after = after; next_on = next_on; is_one = is_one; is_other = is_other })
          ],
          λ either. elim either [
            | inl had ↦ (insert one other).1 (inl had)
            | inr (from, by, here, makes) ↦ (insert one other).1 (inr (
                let x = here.0 in
                let y = here.1 in
                let first = makes.on in
                let p : makes.port ≡ port = cc in
                let n : makes.next ≡ next = cc in
                let second = makes.next_on in
                let q : makes.next_port ≡ next_port = cc in
                let a = makes.is_one in
                let b = makes.is_other in
                (cc, cc)))
          ],
        );
        stopped = stopped_on;
        count = count;
        wide = wide;
        bases = bases;
      }

      -- to one whose hop does not
      pub taken_last : ((next_port after : ℕ) → hop fabric tables next (64 * block + bit) ≡ On next_port after → ⊥) → Taken fabric tables block Here (record { seen = seen; graph = graph; stopped = stopped }) (record { seen = marked; graph = graph; stopped = stopped })
      taken_last ends = record {
        seen = seen_on;
        leads = λ one other. (
          λ has. inl has,
          λ either. elim either [
            | inl had ↦ had
            | inr (from, by, here, makes) ↦ absurd (
                let x = here.0 in
                let y = here.1 in
                let first = makes.on in
                let n : makes.next ≡ next = cc in
                let second = makes.next_on in
                ends makes.next_port makes.after (cc))
          ],
        );
        stopped = stopped_on;
        count = count;
        wide = refl;
        bases = refl;
      }

    -- it does not go on
    module _ (h : Hop) (is_h : hop fabric tables at (64 * block + bit) ≡ h) (ends : (port next : ℕ) → h ≡ On port next → ⊥) (seen : List ℕ) (graph : GraphOf) where
      pub taken_end : (old new : Bool) → ((new ≡ true) ↔ ((old ≡ true) ⊎ IsStop h)) → Taken fabric tables block Here (record { seen = seen; graph = graph; stopped = old }) (record { seen = seen; graph = graph; stopped = new })
      taken_end old new tells = record {
        seen = λ switch other. (
          λ has. inl has,
          λ either. elim either [
            | inl had ↦ had
            | inr (from, by, here, is) ↦ absurd (ends by switch (sym (is_here from other h here is_h) ∙ is))
          ],
        );
        leads = λ one other. (
          λ has. inl has,
          λ either. elim either [
            | inl had ↦ had
            | inr (from, by, here, makes) ↦ absurd (ends makes.port makes.next (sym (is_here from by h here is_h) ∙ makes.on))
          ],
        );
        stopped = (
          λ is. elim (tells.0 is) [
            | inl had ↦ inl had
            | inr stops ↦ inr (at, bit, (refl, refl), subst IsStop (sym is_h) stops)
          ],
          λ either. elim either [
            | inl had ↦ tells.1 (inl had)
            | inr (from, other, here, is) ↦ tells.1 (inr (subst IsStop (is_here from other h here is_h) is))
          ],
        );
        count = refl;
        wide = refl;
        bases = refl;
      }

    pub taken_arrive : hop fabric tables at (64 * block + bit) ≡ Arrive → (seen : List ℕ) (graph : GraphOf) (stopped : Bool) → Taken fabric tables block Here (record { seen = seen; graph = graph; stopped = stopped }) (record { seen = seen; graph = graph; stopped = stopped })
    taken_arrive is seen graph stopped = taken_end Arrive is (λ port next on. (cc)) seen graph stopped stopped (
      λ same. inl same,
      λ either. elim either [
        | inl had ↦ had
        | inr never ↦ absurd never
      ],
    )

    pub taken_stop : (cause : Cause) → hop fabric tables at (64 * block + bit) ≡ Stop cause → (seen : List ℕ) (graph : GraphOf) (stopped : Bool) → Taken fabric tables block Here (record { seen = seen; graph = graph; stopped = stopped }) (record { seen = seen; graph = graph; stopped = true })
    taken_stop cause is seen graph stopped = taken_end (Stop cause) is (λ port next on. (cc)) seen graph stopped true (λ _. inr tt, λ _. refl)
