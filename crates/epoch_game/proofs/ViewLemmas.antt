-- What was sent on a port shows the sender as it was at some moment.
use Rattle.std.proofs.Common.{◌≡◌, ◌∙◌, ◌⊎◌, inl, inr, ℕ, suc, ◌≤◌, List, [], ◌∷◌, ◌++◌, Option, Some, None, Bool, true, false, cond, refl, sym, ap, subst, ⊎_elim, arith}
use Rattle.std.specs.Prelude.{◌==◌, ◌&&◌, not, is_some}
use Rattle.std.specs.Cmp.{Equal-is}
use Rattle.an_base.specs.Values.{EndId, Place, EntryOf, PosOf, TopoOf}
use Rattle.an_base.specs.Order.{position_cmp}
use Rattle.an_base.specs.declared.body.Body.{Body}
use Rattle.an_base.specs.declared.body.Body.TheVariants.{Pos, Answer, Stable, Topo}
use Rattle.an_base.proofs.OrderLaws.{position_apart}
use Rattle.topo_report.proofs.Members.{In, in_from}
use Rattle.epoch_core.specs.Log.{CardOf, OnPort, Log, on_port, last_pos, is_claimed, answered, fresh_report}
use Rattle.epoch_core.specs.Epoch.{version, position, report, is_same, is_stable, is_root, has_moved, finish, sent}
use Rattle.epoch_core.proofs.AcceptLemmas.{finish-finished}
use Rattle.epoch_game.specs.Slice.{Earlier, link_at}
use Rattle.epoch_game.specs.Streams.{positions_in, answers_in, told_on, ReportsFrom, AnswersFrom, HasNoAnswer, Shows}
use Rattle.epoch_game.proofs.Basics.{some_same, none_some}
use Rattle.epoch_game.proofs.Lists.{earlier_itself}
use Rattle.epoch_game.proofs.SentLemmas.{RiseFrom, pos_on, answer_on, answer_part, told_part, reports, up_part, topo_of, down_part, sent_first, sent_more}
use Rattle.std.proofs.lemmas.Bool.{eqb-true}

pub is_same-eq : (p q : Place) → is_same p q ≡ true → p ≡ q
is_same-eq p q is = position_apart p q ((Equal-is (position_cmp p q)).0 is)

pub not_moved : (c : CardOf) (x : OnPort) (l : Log) → has_moved c x l ≡ false → position c (x ∷ l) ≡ position c l
not_moved c x l is = is_same-eq (position c (x ∷ l)) (position c l) (same (is_same (position c (x ∷ l)) (position c l)) is)
  where
    same : (b : Bool) → not b ≡ false → b ≡ true
    same true e = refl
    same false e = absurd (cc)

-- the stream after the first, the second and the third part
abbrev pub after_told : CardOf → ℕ → OnPort → Log → List Body → List Body
after_told c q x l s = told_part c x l q ++ s

abbrev pub after_answer : CardOf → ℕ → OnPort → Log → List Body → List Body
after_answer c q x l s = answer_part c x l q ++ after_told c q x l s

abbrev pub after_up : CardOf → ℕ → OnPort → Log → List Body → List Body
after_up c q x l s = up_part c x l q ++ after_answer c q x l s

abbrev pub after_down : CardOf → ℕ → OnPort → Log → List Body → List Body
after_down c q x l s = down_part c x l q ++ after_up c q x l s

-- a property of the whole stream, or of the stream after a part, and of its sender as it is then
pub record Staged (c : CardOf) (q : ℕ) (Q : Log → List Body → Type 0) : Type 0 where
  pub first : Q [] (pos_on 1 (position c []) q ∷ [])
  pub told : (x : OnPort) (l : Log) → Q l (sent c q l) → Q (x ∷ l) (after_told c q x l (sent c q l))
  pub answer : (x : OnPort) (l : Log) → Q l (sent c q l) → Q (x ∷ l) (after_answer c q x l (sent c q l))
  pub up : (x : OnPort) (l : Log) → Q l (sent c q l) → Q (x ∷ l) (after_up c q x l (sent c q l))
  pub down : (x : OnPort) (l : Log) → Q l (sent c q l) → Q (x ∷ l) (after_down c q x l (sent c q l))

-- the port has a link
pub record HasLink (c : CardOf) (q : ℕ) : Type 0 where
  pub rise : RiseFrom 0 c.links
  pub end : EndId
  pub at : link_at q c.links ≡ Some end

pub sent_is_first : (c : CardOf) (q : ℕ) → HasLink c q → sent c q [] ≡ pos_on 1 (position c []) q ∷ []
sent_is_first c q k = sent_first c q k.end k.rise k.at

pub sent_is : (c : CardOf) (q : ℕ) (x : OnPort) (l : Log) → HasLink c q → sent c q (x ∷ l) ≡ after_down c q x l (sent c q l)
sent_is c q x l k = sent_more c q k.end x l k.rise k.at

pub whole : (c : CardOf) (q : ℕ) (Q : Log → List Body → Type 0) → HasLink c q → Staged c q Q → (l : Log) → Q l (sent c q l)
whole c q Q k s [] = subst (Q []) (sym (sent_is_first c q k)) s.first
whole c q Q k s (x ∷ l) = subst (Q (x ∷ l)) (sym (sent_is c q x l k)) (s.down x l (whole c q Q k s l))

-- a part has at most one body, so a tail of part and rest is the whole or a tail of the rest
abbrev AtMostOne : List Body → Type 0
AtMostOne xs = (xs ≡ []) ⊎ ((b : Body) × (xs ≡ b ∷ []))

one_if : (g : Bool) (xs : List Body) → AtMostOne xs → AtMostOne (cond g xs [])
one_if true xs one = one
one_if false xs one = inl refl

one_answer : (q : ℕ) (p : Place) (b : Body) → AtMostOne (answer_on q p b)
one_answer q p (Pos b) = inr (_, refl)
one_answer q p (Answer b) = inl refl
one_answer q p (Stable es) = inl refl
one_answer q p (Topo t) = inl refl

one_topo : (f g : Option TopoOf) → AtMostOne (topo_of f g)
one_topo None None = inl refl
one_topo None (Some t) = inr (_, refl)
one_topo (Some t) g = inl refl

part_cut : (xs r o : List Body) → AtMostOne xs → Earlier r (xs ++ o) → (r ≡ xs ++ o) ⊎ Earlier r o
part_cut xs r o (inl z) e = inr (subst (λ (y : List Body). Earlier r (y ++ o)) z e)
part_cut xs r o (inr z) e =
    ⊎_elim (λ (w : r ≡ z.0 ∷ o). inl (w ∙ ap (λ (y : List Body). y ++ o) (sym z.1))) (λ (w : Earlier r o). inr w)
    (subst (λ (y : List Body). Earlier r (y ++ o)) z.1 e)

-- each beginning of a stream that is not empty shows the sender at some moment
pub views : (c : CardOf) (q : ℕ) (Q : Log → List Body → Type 0) → HasLink c q → Staged c q Q → (k : Log) (r : List Body) → Earlier r (sent c q k) → (r ≡ []) ⊎ ((h : Log) × (Earlier h k) × (Q h r))
views c q Q k s [] r e =
    ⊎_elim (λ (w : r ≡ pos_on 1 (position c []) q ∷ []). inr ([], refl, subst (Q []) (sym w) s.first)) (λ (w : r ≡ []). inl w)
    (subst (Earlier r) (sent_is_first c q k) e)
views c q Q k s (x ∷ l) r e =
    at_parts (whole c q Q k s l) (views c q Q k s l r) (subst (Earlier r) (sent_is c q x l k) e)
  where
    at_whole : Q (x ∷ l) r → (r ≡ []) ⊎ ((h : Log) × (Earlier h (x ∷ l)) × (Q h r))
    at_whole y = inr (x ∷ l, inl refl, y)

    at_parts : Q l (sent c q l) → (Earlier r (sent c q l) → (r ≡ []) ⊎ ((h : Log) × (Earlier h l) × (Q h r))) → Earlier r (after_down c q x l (sent c q l)) → (r ≡ []) ⊎ ((h : Log) × (Earlier h (x ∷ l)) × (Q h r))
    at_parts old before e4 =
        ⊎_elim (λ w. at_whole (subst (Q (x ∷ l)) (sym w) (s.down x l old))) (λ e3.
        ⊎_elim (λ w. at_whole (subst (Q (x ∷ l)) (sym w) (s.up x l old))) (λ e2.
        ⊎_elim (λ w. at_whole (subst (Q (x ∷ l)) (sym w) (s.answer x l old))) (λ e1.
        ⊎_elim (λ w. at_whole (subst (Q (x ∷ l)) (sym w) (s.told x l old))) (λ e0.
        ⊎_elim (λ (w : r ≡ []). inl w) (λ (v : (h : Log) × (Earlier h l) × (Q h r)). inr (v.0, inr v.1, v.2)) (before e0))
        (part_cut (told_part c x l q) r (sent c q l) (one_if (has_moved c x l) _ (inr (_, refl))) e1))
        (part_cut (answer_part c x l q) r (after_told c q x l (sent c q l)) (one_if (x.port == q) _ (one_answer q (position c (x ∷ l)) x.body)) e2))
        (part_cut (up_part c x l q) r (after_answer c q x l (sent c q l)) (one_if (reports c x l) _ (one_if ((position c (x ∷ l)).port == q) _ (inr (_, refl)))) e3))
        (part_cut (down_part c x l q) r (after_up c q x l (sent c q l)) (one_if (is_claimed (on_port q (x ∷ l))) _ (one_topo (finish c l) (finish c (x ∷ l)))) e4)

-- The last position, the number of positions and the claim are those of the moment.
abbrev ShowsPlace : ℕ → Place → ℕ → List Body → Type 0
ShowsPlace v p q r = (positions_in r ≡ v) × (last_pos r ≡ Some (told_on v p q)) × (is_claimed r ≡ (q == p.port))

abbrev Now : CardOf → ℕ → Log → List Body → Type 0
Now c q k r = ShowsPlace (version c k) (position c k) q r

now_told : (moved : Bool) (v : ℕ) (p before : Place) (q : ℕ) (r : List Body) → (moved ≡ false → p ≡ before) → ShowsPlace v before q r
    → ShowsPlace (cond moved (suc v) v) p q (cond moved (pos_on (cond moved (suc v) v) p q ∷ []) [] ++ r)
now_told true v p before q r same s = (ap suc s.0, refl, refl)
now_told false v p before q r same s = subst (λ (a : Place). ShowsPlace v a q r) (sym (same refl)) s

now_answer : (g : Bool) (v q : ℕ) (p : Place) (b : Body) (r : List Body) → ShowsPlace v p q r → ShowsPlace v p q (cond g (answer_on q p b) [] ++ r)
now_answer false v q p b r s = s
now_answer true v q p (Pos b) r s = (s.0, s.1, refl)
now_answer true v q p (Answer b) r s = s
now_answer true v q p (Stable es) r s = s
now_answer true v q p (Topo t) r s = s

now_up : (g h : Bool) (v q : ℕ) (p : Place) (es : List EntryOf) (r : List Body) → ShowsPlace v p q r → ShowsPlace v p q (cond g (cond h (Stable es ∷ []) []) [] ++ r)
now_up true true v q p es r s = s
now_up true false v q p es r s = s
now_up false h v q p es r s = s

now_down : (g : Bool) (v q : ℕ) (p : Place) (f h : Option TopoOf) (r : List Body) → ShowsPlace v p q r → ShowsPlace v p q (cond g (topo_of f h) [] ++ r)
now_down false v q p f h r s = s
now_down true v q p None None r s = s
now_down true v q p None (Some t) r s = s
now_down true v q p (Some t) h r s = s

now_staged : (c : CardOf) (q : ℕ) → Staged c q (Now c q)
now_staged c q = record {
  first = (refl, refl, refl);
  told = one;
  answer = two;
  up = three;
  down = λ x l s. now_down (is_claimed (on_port q (x ∷ l))) (version c (x ∷ l)) q (position c (x ∷ l)) (finish c l) (finish c (x ∷ l)) (after_up c q x l (sent c q l)) (three x l s);
}
  where
    one : (x : OnPort) (l : Log) → Now c q l (sent c q l) → Now c q (x ∷ l) (after_told c q x l (sent c q l))
    one x l s = now_told (has_moved c x l) (version c l) (position c (x ∷ l)) (position c l) q (sent c q l) (not_moved c x l) s

    two : (x : OnPort) (l : Log) → Now c q l (sent c q l) → Now c q (x ∷ l) (after_answer c q x l (sent c q l))
    two x l s = now_answer (x.port == q) (version c (x ∷ l)) q (position c (x ∷ l)) x.body (after_told c q x l (sent c q l)) (one x l s)

    three : (x : OnPort) (l : Log) → Now c q l (sent c q l) → Now c q (x ∷ l) (after_up c q x l (sent c q l))
    three x l s = now_up (reports c x l) ((position c (x ∷ l)).port == q) (version c (x ∷ l)) q (position c (x ∷ l)) (report c (x ∷ l)) (after_answer c q x l (sent c q l)) (two x l s)

-- A fresh report is that of a stable moment of the version shown.
abbrev Reported : CardOf → ℕ → Log → List Body → Type 0
Reported c q k r = (es : List EntryOf) → fresh_report r ≡ Some es → ReportsFrom c q k es

reported_told : (c : CardOf) (q : ℕ) (x : OnPort) (l : Log) (b : PosOf) (moved : Bool) → Reported c q l (sent c q l) → cond moved (suc (version c l)) (version c l) ≡ version c (x ∷ l) → Reported c q (x ∷ l) (cond moved (Pos b ∷ []) [] ++ sent c q l)
reported_told c q x l b true old same es e = absurd (none_some e)
reported_told c q x l b false old same es e =
    let r = old es e in record { moment = r.moment; earlier = inr r.earlier; version = r.version ∙ same; stable = r.stable; report = r.report; port = r.port }

reported_answer : (c : CardOf) (q : ℕ) (k : Log) (g : Bool) (p : Place) (b : Body) (r : List Body) → Reported c q k r → Reported c q k (cond g (answer_on q p b) [] ++ r)
reported_answer c q k false p b r old = old
reported_answer c q k true p (Pos b) r old = old
reported_answer c q k true p (Answer b) r old = old
reported_answer c q k true p (Stable es) r old = old
reported_answer c q k true p (Topo t) r old = old

reported_up : (c : CardOf) (q : ℕ) (k : Log) (g h : Bool) (r : List Body) → (g ≡ true → is_stable c k ≡ true) → (h ≡ true → (position c k).port ≡ q) → Reported c q k r → Reported c q k (cond g (cond h (Stable (report c k) ∷ []) []) [] ++ r)
reported_up c q k false h r why at old es e = old es e
reported_up c q k true false r why at old es e = old es e
reported_up c q k true true r why at old es e =
    record { moment = k; earlier = earlier_itself k; version = refl; stable = why refl; report = sym (some_same (report c k) es e); port = at refl }

reported_down : (c : CardOf) (q : ℕ) (k : Log) (g : Bool) (f h : Option TopoOf) (r : List Body) → Reported c q k r → Reported c q k (cond g (topo_of f h) [] ++ r)
reported_down c q k false f h r old = old
reported_down c q k true None None r old = old
reported_down c q k true None (Some t) r old = old
reported_down c q k true (Some t) h r old = old

first_and : (a b : Bool) → (a && b) ≡ true → a ≡ true
first_and true b e = refl
first_and false b e = absurd (cc)

reported_staged : (c : CardOf) (q : ℕ) → Staged c q (Reported c q)
reported_staged c q = record {
  first = λ es e. absurd (none_some e);
  told = one;
  answer = two;
  up = three;
  down = λ x l s. reported_down c q (x ∷ l) (is_claimed (on_port q (x ∷ l))) (finish c l) (finish c (x ∷ l)) (after_up c q x l (sent c q l)) (three x l s);
}
  where
    one : (x : OnPort) (l : Log) → Reported c q l (sent c q l) → Reported c q (x ∷ l) (after_told c q x l (sent c q l))
    one x l s = reported_told c q x l (told_on (version c (x ∷ l)) (position c (x ∷ l)) q) (has_moved c x l) s refl

    two : (x : OnPort) (l : Log) → Reported c q l (sent c q l) → Reported c q (x ∷ l) (after_answer c q x l (sent c q l))
    two x l s = reported_answer c q (x ∷ l) (x.port == q) (position c (x ∷ l)) x.body (after_told c q x l (sent c q l)) (one x l s)

    three : (x : OnPort) (l : Log) → Reported c q l (sent c q l) → Reported c q (x ∷ l) (after_up c q x l (sent c q l))
    three x l s =
        reported_up c q (x ∷ l) (reports c x l) ((position c (x ∷ l)).port == q) (after_answer c q x l (sent c q l))
        (λ e. first_and (is_stable c (x ∷ l)) (not (is_stable c l)) (first_and (is_stable c (x ∷ l) && not (is_stable c l)) (not (is_root c (x ∷ l))) e))
        (eqb-true (position c (x ∷ l)).port q) (two x l s)

-- A topology is the finish.
abbrev Finished : CardOf → ℕ → Log → List Body → Type 0
Finished c q k r = (t : TopoOf) → In (Topo t) r → finish c k ≡ Some t

abbrev as_topo : Body → Option TopoOf
as_topo (Pos b) = None
as_topo (Answer b) = None
as_topo (Stable es) = None
as_topo (Topo t) = Some t

other_body : {B : Type 0} (t : TopoOf) (b : Body) → Topo t ≡ b → as_topo b ≡ None → B
other_body t b e none = absurd (none_some (sym (ap as_topo e ∙ none)))

in_told : (g : Bool) (b : PosOf) (t : TopoOf) (r : List Body) → In (Topo t) (cond g (Pos b ∷ []) [] ++ r) → In (Topo t) r
in_told false b t r i = i
in_told true b t r (inl e) = other_body t (Pos b) e refl
in_told true b t r (inr i) = i

in_answer : (g : Bool) (q : ℕ) (p : Place) (b : Body) (t : TopoOf) (r : List Body) → In (Topo t) (cond g (answer_on q p b) [] ++ r) → In (Topo t) r
in_answer false q p b t r i = i
in_answer true q p (Pos b) t r (inl e) = other_body t (Answer (record { version = b.version; to_parent = (q == p.port) })) e refl
in_answer true q p (Pos b) t r (inr i) = i
in_answer true q p (Answer b) t r i = i
in_answer true q p (Stable es) t r i = i
in_answer true q p (Topo u) t r i = i

in_up : (g h : Bool) (es : List EntryOf) (t : TopoOf) (r : List Body) → In (Topo t) (cond g (cond h (Stable es ∷ []) []) [] ++ r) → In (Topo t) r
in_up false h es t r i = i
in_up true false es t r i = i
in_up true true es t r (inl e) = other_body t (Stable es) e refl
in_up true true es t r (inr i) = i

in_down : (g : Bool) (f h : Option TopoOf) (t : TopoOf) (r : List Body) → In (Topo t) (cond g (topo_of f h) [] ++ r) → (h ≡ Some t) ⊎ In (Topo t) r
in_down false f h t r i = inr i
in_down true None None t r i = inr i
in_down true None (Some u) t r (inl e) = inl (sym (ap as_topo e))
in_down true None (Some u) t r (inr i) = inr i
in_down true (Some u) h t r i = inr i

pub finish_stays : (c : CardOf) (x : OnPort) (l : Log) (t : TopoOf) → finish c l ≡ Some t → finish c (x ∷ l) ≡ Some t
finish_stays c x l t is = finish-finished c x l (ap is_some is) ∙ is

finished_staged : (c : CardOf) (q : ℕ) → Staged c q (Finished c q)
finished_staged c q = record {
  first = λ t i. ⊎_elim (λ (e : Topo t ≡ pos_on 1 (position c []) q). other_body t (pos_on 1 (position c []) q) e refl) (λ (e : ⊥). absurd e) i;
  told = one;
  answer = two;
  up = three;
  down = λ x l s t i. ⊎_elim (λ (e : finish c (x ∷ l) ≡ Some t). e) (λ (j : In (Topo t) (after_up c q x l (sent c q l))). three x l s t j)
      (in_down (is_claimed (on_port q (x ∷ l))) (finish c l) (finish c (x ∷ l)) t (after_up c q x l (sent c q l)) i);
}
  where
    one : (x : OnPort) (l : Log) → Finished c q l (sent c q l) → Finished c q (x ∷ l) (after_told c q x l (sent c q l))
    one x l s t i = finish_stays c x l t (s t (in_told (has_moved c x l) (told_on (version c (x ∷ l)) (position c (x ∷ l)) q) t (sent c q l) i))

    two : (x : OnPort) (l : Log) → Finished c q l (sent c q l) → Finished c q (x ∷ l) (after_answer c q x l (sent c q l))
    two x l s t i = one x l s t (in_answer (x.port == q) q (position c (x ∷ l)) x.body t (after_told c q x l (sent c q l)) i)

    three : (x : OnPort) (l : Log) → Finished c q l (sent c q l) → Finished c q (x ∷ l) (after_up c q x l (sent c q l))
    three x l s t i = two x l s t (in_up (reports c x l) ((position c (x ∷ l)).port == q) (report c (x ∷ l)) t (after_answer c q x l (sent c q l)) i)

-- What counts answers alone passes over the other bodies.
record PassesOver {A : Type 0} (f : List Body → A) : Type 0 where
  told : (b : PosOf) (r : List Body) → f (Pos b ∷ r) ≡ f r
  up : (es : List EntryOf) (r : List Body) → f (Stable es ∷ r) ≡ f r
  down : (t : TopoOf) (r : List Body) → f (Topo t ∷ r) ≡ f r

module _ {A : Type 0} (f : List Body → A) (passes : PassesOver f) where
  over_told : (g : Bool) (b : PosOf) (r : List Body) → f (cond g (Pos b ∷ []) [] ++ r) ≡ f r
  over_told false b r = refl
  over_told true b r = passes.told b r

  over_up : (g h : Bool) (es : List EntryOf) (r : List Body) → f (cond g (cond h (Stable es ∷ []) []) [] ++ r) ≡ f r
  over_up false h es r = refl
  over_up true false es r = refl
  over_up true true es r = passes.up es r

  over_down : (g : Bool) (a b : Option TopoOf) (r : List Body) → f (cond g (topo_of a b) [] ++ r) ≡ f r
  over_down false a b r = refl
  over_down true None None r = refl
  over_down true None (Some t) r = passes.down t r
  over_down true (Some t) b r = refl

counting : PassesOver answers_in
counting = record { told = λ b r. refl; up = λ es r. refl; down = λ t r. refl }

answering : PassesOver answered
answering = record { told = λ b r. refl; up = λ es r. refl; down = λ t r. refl }

-- There are as many answers as positions came.

one_for_each : (g : Bool) (q : ℕ) (p : Place) (b : Body) (r heard : List Body) → answers_in r ≡ positions_in heard → answers_in (cond g (answer_on q p b) [] ++ r) ≡ positions_in (cond g (b ∷ heard) heard)
one_for_each false q p b r heard e = e
one_for_each true q p (Pos b) r heard e = ap suc e
one_for_each true q p (Answer b) r heard e = e
one_for_each true q p (Stable es) r heard e = e
one_for_each true q p (Topo t) r heard e = e

pub answers_sent : (c : CardOf) (q : ℕ) (l : Log) → HasLink c q → answers_in (sent c q l) ≡ positions_in (on_port q l)
answers_sent c q [] k = ap answers_in (sent_is_first c q k)
answers_sent c q (x ∷ l) k =
    ap answers_in (sent_is c q x l k)
    ∙ over_down answers_in counting (is_claimed (on_port q (x ∷ l))) (finish c l) (finish c (x ∷ l)) (after_up c q x l (sent c q l))
    ∙ over_up answers_in counting (reports c x l) ((position c (x ∷ l)).port == q) (report c (x ∷ l)) (after_answer c q x l (sent c q l))
    ∙ one_for_each (x.port == q) q (position c (x ∷ l)) x.body (after_told c q x l (sent c q l)) (on_port q l)
    (over_told answers_in counting (has_moved c x l) (told_on (version c (x ∷ l)) (position c (x ∷ l)) q) (sent c q l) ∙ answers_sent c q l k)

-- The last answer names the position that it answers, at a moment at which the version was at most the one shown.
abbrev Replied : CardOf → ℕ → Log → List Body → Type 0
Replied c q k r = HasNoAnswer r ⊎ AnswersFrom c q k r

replied_same : (c : CardOf) (q : ℕ) (k : Log) (r s : List Body) → answers_in s ≡ answers_in r → answered s ≡ answered r → Replied c q k r → Replied c q k s
replied_same c q k r s a e (inl x) = inl (record { count = a ∙ x.count; answered = e ∙ x.answered })
replied_same c q k r s a e (inr x) =
    inr (record { moment = x.moment; told = x.told; earlier = x.earlier; version = x.version; count = x.count ∙ sym a; last = x.last; answered = e ∙ x.answered })

pub version_step : (moved : Bool) (v : ℕ) → v ≤ cond moved (suc v) v
version_step true v = omega arith
version_step false v = omega arith

replied_older : (c : CardOf) (q : ℕ) (x : OnPort) (l : Log) (r : List Body) → Replied c q l r → Replied c q (x ∷ l) r
replied_older c q x l r (inl y) = inl y
replied_older c q x l r (inr y) =
    let up : version c l ≤ version c (x ∷ l) = version_step (has_moved c x l) (version c l) in
    let low = y.version in
    inr (record { moment = y.moment; told = y.told; earlier = inr y.earlier; version = omega (arith, up, low); count = y.count; last = y.last; answered = y.answered })

replied_answer : (c : CardOf) (q : ℕ) (k : Log) (g : Bool) (p : Place) (b : Body) (heard r : List Body) → on_port q k ≡ cond g (b ∷ heard) heard → answers_in r ≡ positions_in heard → Replied c q k r → Replied c q k (cond g (answer_on q p b) [] ++ r)
replied_answer c q k false p b heard r e a old = old
replied_answer c q k true p (Pos b) heard r e a old =
    inr (record { moment = k; told = b; earlier = earlier_itself k; version = omega arith; count = ap positions_in e ∙ ap suc (sym a); last = ap last_pos e; answered = refl })
replied_answer c q k true p (Answer b) heard r e a old = old
replied_answer c q k true p (Stable es) heard r e a old = old
replied_answer c q k true p (Topo t) heard r e a old = old

replied_staged : (c : CardOf) (q : ℕ) → HasLink c q → Staged c q (Replied c q)
replied_staged c q k = record { first = inl (record { count = refl; answered = refl }); told = one; answer = two; up = three; down = four }
  where
    one : (x : OnPort) (l : Log) → Replied c q l (sent c q l) → Replied c q (x ∷ l) (after_told c q x l (sent c q l))
    one x l s =
        let b = told_on (version c (x ∷ l)) (position c (x ∷ l)) q in
        replied_same c q (x ∷ l) (sent c q l) (after_told c q x l (sent c q l)) (over_told answers_in counting (has_moved c x l) b (sent c q l)) (over_told answered answering (has_moved c x l) b (sent c q l)) (replied_older c q x l (sent c q l) s)

    two : (x : OnPort) (l : Log) → Replied c q l (sent c q l) → Replied c q (x ∷ l) (after_answer c q x l (sent c q l))
    two x l s =
        replied_answer c q (x ∷ l) (x.port == q) (position c (x ∷ l)) x.body (on_port q l) (after_told c q x l (sent c q l)) refl
        (over_told answers_in counting (has_moved c x l) (told_on (version c (x ∷ l)) (position c (x ∷ l)) q) (sent c q l) ∙ answers_sent c q l k) (one x l s)

    three : (x : OnPort) (l : Log) → Replied c q l (sent c q l) → Replied c q (x ∷ l) (after_up c q x l (sent c q l))
    three x l s =
        let g = reports c x l in
        let h = (position c (x ∷ l)).port == q in
        let r = after_answer c q x l (sent c q l) in
        replied_same c q (x ∷ l) r (after_up c q x l (sent c q l)) (over_up answers_in counting g h (report c (x ∷ l)) r) (over_up answered answering g h (report c (x ∷ l)) r) (two x l s)

    four : (x : OnPort) (l : Log) → Replied c q l (sent c q l) → Replied c q (x ∷ l) (after_down c q x l (sent c q l))
    four x l s =
        let g = is_claimed (on_port q (x ∷ l)) in
        let r = after_up c q x l (sent c q l) in
        replied_same c q (x ∷ l) r (after_down c q x l (sent c q l)) (over_down answers_in counting g (finish c l) (finish c (x ∷ l)) r) (over_down answered answering g (finish c l) (finish c (x ∷ l)) r) (three x l s)

-- all of these of one moment
abbrev All_shown : CardOf → ℕ → Log → List Body → Type 0
All_shown c q k r = (Now c q k r) × (Reported c q k r) × (Replied c q k r) × (Finished c q k r)

all_staged : (c : CardOf) (q : ℕ) → HasLink c q → Staged c q (All_shown c q)
all_staged c q k =
    let a = now_staged c q in
    let b = reported_staged c q in
    let d = replied_staged c q k in
    let e = finished_staged c q in
    record {
      first = (a.first, b.first, d.first, e.first);
      told = λ x l h. (a.told x l h.0, b.told x l h.1, d.told x l h.2, e.told x l h.3);
      answer = λ x l h. (a.answer x l h.0, b.answer x l h.1, d.answer x l h.2, e.answer x l h.3);
      up = λ x l h. (a.up x l h.0, b.up x l h.1, d.up x l h.2, e.up x l h.3);
      down = λ x l h. (a.down x l h.0, b.down x l h.1, d.down x l h.2, e.down x l h.3);
    }

-- what was heard of a sender shows it at some moment
pub shown : (c : CardOf) (q : ℕ) → HasLink c q → (k : Log) (r : List Body) → Earlier r (sent c q k) → (r ≡ []) ⊎ ((h : Log) × (Earlier h k) × (Shows c q h r))
shown c q link k r e =
    ⊎_elim (λ (w : r ≡ []). inl w)
    (λ (w : (h : Log) × (Earlier h k) × (All_shown c q h r)).
    inr (w.0, w.1, record { count = w.2.0.0; place = w.2.0.1; claimed = w.2.0.2; report = w.2.1; answer = w.2.2; topology = λ t i. w.2.3 t (in_from (Topo t) r i) }))
    (views c q (All_shown c q) link (all_staged c q link) k r e)

-- and all that was sent shows it as it is
pub shown_whole : (c : CardOf) (q : ℕ) → HasLink c q → (l : Log) → Shows c q l (sent c q l)
shown_whole c q link l =
    let w = whole c q (All_shown c q) link (all_staged c q link) l in
    record { count = w.0.0; place = w.0.1; claimed = w.0.2; report = w.1; answer = w.2; topology = λ t i. w.3 t (in_from (Topo t) (sent c q l) i) }
