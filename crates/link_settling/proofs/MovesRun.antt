use Rattle.std.specs.Prelude.{IsTrue}
use Rattle.std.proofs.Common.{◌≡◌, ◌⊎◌, inl, inr, ⊎_elim, sym, ap, subst, refl, ℕ, ◌≤◌, ◌==◌, ◌&&◌, ◌||◌, List, [], ◌∷◌, ◌++◌, Option, Some, None, Bool, true, false}
use Rattle.std.proofs.lemmas.Bool.{false≢true, or_cases, and_parts, and_from, eqb-true, eq-eqb}
use Rattle.std.proofs.lemmas.Option.{same_Some, none-some}
use Rattle.ordered_link.specs.Sending.{Sending, push, sent_by_push, send_next, next_to_send, send_again}
use Rattle.link_settling.specs.Directions.{Direction, Sends, pushes, sends_next, sends_again, passes, Run, then_step, IsOneOf, SendsAll}
use Rattle.link_settling.specs.Moves.{shown, Moves, resting, pushing, going_on, repeating}

-- one of the bodies that go out joins those under way, where it is not lost
abbrev with_one : (ℕ → Bool) → Option ℕ → (ℕ → Bool) → ℕ → Bool
with_one kept None carry j = carry j
with_one kept (Some k) carry j = carry j || ((j == k) && kept j)

abbrev with_all : (ℕ → Bool) → List ℕ → (ℕ → Bool) → ℕ → Bool
with_all kept [] carry = carry
with_all kept (k ∷ ks) carry = with_all kept ks (with_one kept (Some k) carry)

or_left : (x y : Bool) → x ≡ true → (x || y) ≡ true
or_left true y h = refl
or_left false y h = absurd (false≢true h)

or_right : (x y : Bool) → y ≡ true → (x || y) ≡ true
or_right true y h = refl
or_right false y h = h

one_is : (kept : ℕ → Bool) (out : Option ℕ) (carry : ℕ → Bool) (j : ℕ) → IsTrue (with_one kept out carry j) → IsTrue (carry j) ⊎ (out ≡ Some j)
one_is kept None carry j h = inl h
one_is kept (Some k) carry j h = ⊎_elim (λ old. inl old) (λ new. inr (ap (λ n. Some n) (sym (eqb-true j k (and_parts (j == k) (kept j) new).0)))) (or_cases (carry j) ((j == k) && kept j) h)

one_on : (kept : ℕ → Bool) (out : Option ℕ) (carry : ℕ → Bool) (j : ℕ) → IsTrue (carry j) → IsTrue (with_one kept out carry j)
one_on kept None carry j h = h
one_on kept (Some k) carry j h = or_left (carry j) ((j == k) && kept j) h

one_put : (kept : ℕ → Bool) (out : Option ℕ) (carry : ℕ → Bool) (k : ℕ) → out ≡ Some k → IsTrue (kept k) → IsTrue (with_one kept out carry k)
one_put kept None carry k is h = absurd (none-some k is)
one_put kept (Some n) carry k is h = or_right (carry k) ((k == n) && kept k) (and_from (k == n) (kept k) (eq-eqb k n (sym (same_Some n k is))) h)

all_shown : (kept : ℕ → Bool) (out : Option ℕ) (ks : List ℕ) (carry : ℕ → Bool) → with_all kept (shown out ++ ks) carry ≡ with_all kept ks (with_one kept out carry)
all_shown kept None ks carry = refl
all_shown kept (Some k) ks carry = refl

shown_one : (out : Option ℕ) (ks : List ℕ) (k : ℕ) → out ≡ Some k → IsOneOf k (shown out ++ ks)
shown_one None ks k is = absurd (none-some k is)
shown_one (Some n) ks k is = inl (same_Some n k is)

shown_later : (out : Option ℕ) (ks : List ℕ) (k : ℕ) → IsOneOf k ks → IsOneOf k (shown out ++ ks)
shown_later None ks k one = one
shown_later (Some n) ks k one = inr one

-- the direction with what is sent and what is under way
abbrev sent_as : Direction → Sending → (ℕ → Bool) → Direction
sent_as v t carry = record v { sending = t; carry = carry }

one_sends : (base : ℕ) (kept : ℕ → Bool) (v : Direction) (t u : Sending) (out : Option ℕ) (carry : ℕ → Bool) → (base ≤ v.now → (k : ℕ) → out ≡ Some k → IsTrue (kept k)) → Sends base u out (sent_as v t carry) (sent_as v u (with_one kept out carry))
one_sends base kept v t u out carry put = record {
  is = refl;
  gains = record {
    carry = λ j h. one_is kept out carry j h;
    carry_on = λ j h. one_on kept out carry j h;
    put = λ late k is. one_put kept out carry k is (put late k is);
  };
  acks = record { no_others = λ j h. h; stay = λ j h. h };
}

moves_run : (base : ℕ) (kept : ℕ → Bool) (start v : Direction) (now : ℕ) → v.now ≡ now → (carry : ℕ → Bool) (t u : Sending) (ks : List ℕ) → Moves now t ks u → (base ≤ v.now → (k : ℕ) → IsOneOf k ks → IsTrue (kept k))
    → Run base start (sent_as v t carry) → Run base start (sent_as v u (with_all kept ks carry))
moves_run base kept start v now same carry t u ks (resting x) put run = run
moves_run base kept start v now same carry t u ks (pushing body x y js moves) put run =
    let out = sent_by_push body x in
    subst (λ c. Run base start (sent_as v y c)) (sym (all_shown kept out js carry))
    (moves_run base kept start v now same (with_one kept out carry) (push body now x) y js moves (λ late k one. put late k (shown_later out js k one))
    (then_step start (sent_as v x carry) (sent_as v (push body now x) (with_one kept out carry)) run
    (pushes body (subst (λ n. Sends base (push body n x) out (sent_as v x carry) (sent_as v (push body now x) (with_one kept out carry))) (sym same)
    (one_sends base kept v x (push body now x) out carry (λ late k is. put late k (shown_one out js k is)))))))
moves_run base kept start v now same carry t u ks (going_on x y js moves) put run =
    let out = next_to_send x in
    subst (λ c. Run base start (sent_as v y c)) (sym (all_shown kept out js carry))
    (moves_run base kept start v now same (with_one kept out carry) (send_next now x) y js moves (λ late k one. put late k (shown_later out js k one))
    (then_step start (sent_as v x carry) (sent_as v (send_next now x) (with_one kept out carry)) run
    (sends_next (subst (λ n. Sends base (send_next n x) out (sent_as v x carry) (sent_as v (send_next now x) (with_one kept out carry))) (sym same)
    (one_sends base kept v x (send_next now x) out carry (λ late k is. put late k (shown_one out js k is)))))))
moves_run base kept start v now same carry t u ks (repeating k x y js out moves) put run =
    moves_run base kept start v now same (with_one kept (Some k) carry) (send_again k now x) y js moves (λ late j one. put late j (inr one))
    (then_step start (sent_as v x carry) (sent_as v (send_again k now x) (with_one kept (Some k) carry)) run
    (sends_again k out (subst (λ n. Sends base (send_again k n x) (Some k) (sent_as v x carry) (sent_as v (send_again k now x) (with_one kept (Some k) carry))) (sym same)
    (one_sends base kept v x (send_again k now x) (Some k) carry (λ late j is. put late j (inl (same_Some k j is)))))))

-- all of them together
all_is : (kept : ℕ → Bool) (ks : List ℕ) (carry : ℕ → Bool) (j : ℕ) → IsTrue (with_all kept ks carry j) → IsTrue (carry j) ⊎ IsTrue (kept j)
all_is kept [] carry j h = inl h
all_is kept (k ∷ ks) carry j h = ⊎_elim (λ one. ⊎_elim (λ old. inl old) (λ new. inr (and_parts (j == k) (kept j) new).1) (or_cases (carry j) ((j == k) && kept j) one)) (λ new. inr new) (all_is kept ks (with_one kept (Some k) carry) j h)

all_on : (kept : ℕ → Bool) (ks : List ℕ) (carry : ℕ → Bool) (j : ℕ) → IsTrue (carry j) → IsTrue (with_all kept ks carry j)
all_on kept [] carry j h = h
all_on kept (k ∷ ks) carry j h = all_on kept ks (with_one kept (Some k) carry) j (one_on kept (Some k) carry j h)

all_put : (kept : ℕ → Bool) (ks : List ℕ) (carry : ℕ → Bool) (j : ℕ) → IsOneOf j ks → IsTrue (kept j) → IsTrue (with_all kept ks carry j)
all_put kept [] carry j one h = absurd one
all_put kept (k ∷ ks) carry j one h = ⊎_elim
    (λ same. all_on kept ks (with_one kept (Some k) carry) j (one_put kept (Some k) carry j (ap (λ n. Some n) same) h))
    (λ later. all_put kept ks (with_one kept (Some k) carry) j later h) one

-- what a switch does in a session is a run of steps of its direction
pub run_of_moves : (base : ℕ) (start v w : Direction) (ks : List ℕ) (u : Sending) → Run base start v → Moves v.now v.sending ks u → SendsAll base ks u v w → Run base start w
run_of_moves base start v w ks u run moves all =
    let x = sent_as v u (with_all w.carry ks v.carry) in
    then_step start x w (moves_run base w.carry start v v.now refl v.carry v.sending u ks moves all.put run)
    (passes (record {
      is = all.is;
      carries = record {
        no_others = λ j h. ⊎_elim (λ old. all_on w.carry ks v.carry j old) (λ one. all_put w.carry ks v.carry j one h) (all.carry j h);
        stay = λ j h. ⊎_elim (λ old. all.carry_on j old) (λ new. new) (all_is w.carry ks v.carry j h);
      };
      acks = all.acks;
    }))
