use Rattle.std.proofs.Common.{◌≡◌, inl, inr, ℕ, List, [], ◌∷◌, ◌++◌, Option, Some, None, Bool, true, false, true≢false, cond, refl, sym, ap, ◌∙◌, subst, ⊎_elim, arith}
use Rattle.std.specs.Prelude.{◌==◌, ◌&&◌, ◌||◌, not, is_some}
use Rattle.std.specs.List.{list_any}
use Rattle.std.specs.Ordering.{is_eq}
use Rattle.an_base.specs.Values.{LifeId, Place, EntryOf, PosOf, TopoOf}
use Rattle.an_base.specs.Order.{life_cmp}
use Rattle.an_base.specs.declared.body.Body.{Body}
use Rattle.an_base.specs.declared.body.Body.TheVariants.{Pos, Answer, Stable, Topo}
use Rattle.an_base.proofs.LifeLemmas.{life_passes}
use Rattle.tree_position.specs.Position.{self_root}
use Rattle.topo_report.proofs.Members.{In, in_right}
use Rattle.epoch_core.specs.Log.{CardOf, OnPort, Log, on_port, is_claimed, answered, fresh_report}
use Rattle.std.specs.Option.{option_or}
use Rattle.epoch_core.specs.Epoch.{version, position, report, is_same, is_stable, is_root, is_named, has_moved, finish, finished_as_root, given_by, sent}
use Rattle.epoch_core.proofs.EpochLemmas.{IsQuiet, has_moved-quiet, is_same-itself, stable_root-unfinished}
use Rattle.epoch_core.proofs.AcceptLemmas.{finish-finished}
use Rattle.epoch_game.specs.Slice.{Earlier}
use Rattle.epoch_game.proofs.Basics.{bool_cases, some_same, none_some, number_itself}
use Rattle.epoch_game.proofs.SentLemmas.{answer_on, answer_part, told_part, reports, up_part, topo_of, down_part}
use Rattle.epoch_game.proofs.ViewLemmas.{not_moved, after_told, after_answer, after_up, HasLink, sent_is, finish_stays}
use Rattle.epoch_game.proofs.Moments.{version_cases}
use Rattle.epoch_game.proofs.Nodes.{link_found}
use Rattle.epoch_game.proofs.StateLemmas.{stable_at}

-- A life with a link is stable only once the link is settled.
settled_link : (c : CardOf) (q : ℕ) (l : Log) → HasLink c q → is_stable c l ≡ true → answered (on_port q l) ≡ Some (version c l)
settled_link c q l k st =
    let f = link_found q c.links k.end k.at in
    subst (λ (p : ℕ). answered (on_port p l) ≡ Some (version c l)) f.port (stable_at c l f.link st f.in_links).answered

-- An item that moves the position leaves the last answers as they were, so the life is not stable both before and after it.
same_answers : (c : CardOf) (x : OnPort) (l : Log) (q : ℕ) → has_moved c x l ≡ true → answered (on_port q (x ∷ l)) ≡ answered (on_port q l)
same_answers c x l q moved = by x.body refl
  where
    absent : (b : Body) → b ≡ x.body → IsQuiet b → ⊥
    absent b e quiet = true≢false (sym moved ∙ has_moved-quiet c x l (subst IsQuiet e quiet))

    told : (g : Bool) (b : PosOf) → answered (cond g (Pos b ∷ on_port q l) (on_port q l)) ≡ answered (on_port q l)
    told true b = refl
    told false b = refl

    by : (b : Body) → b ≡ x.body → answered (on_port q (x ∷ l)) ≡ answered (on_port q l)
    by (Pos b) e = ap (λ (a : Body). answered (cond (x.port == q) (a ∷ on_port q l) (on_port q l))) (sym e) ∙ told (x.port == q) b
    by (Answer b) e = absurd (absent (Answer b) e (record { quiet = λ bs. refl }))
    by (Stable es) e = absurd (absent (Stable es) e (record { quiet = λ bs. refl }))
    by (Topo t) e = absurd (absent (Topo t) e (record { quiet = λ bs. refl }))

not_again : (c : CardOf) (x : OnPort) (l : Log) (q : ℕ) → HasLink c q → has_moved c x l ≡ true → is_stable c l ≡ true → is_stable c (x ∷ l) ≡ true → ⊥
not_again c x l q k moved before after =
    ⊎_elim (λ w. true≢false (sym moved ∙ w.0))
    (λ w.
    let up = w.1 in
    let same : version c (x ∷ l) ≡ version c l = some_same _ _ (sym (settled_link c q (x ∷ l) k after) ∙ same_answers c x l q moved ∙ settled_link c q l k before) in
    omega (arith, up, same))
    (version_cases c x l)

-- A stable life that is no root has reported to its parent since its last position.
abbrev pub HasFresh : List Body → Type 0
HasFresh r = is_some (fresh_report r) ≡ true

fresh_down : (g : Bool) (f h : Option TopoOf) (r : List Body) → HasFresh r → HasFresh (cond g (topo_of f h) [] ++ r)
fresh_down false f h r old = old
fresh_down true None None r old = old
fresh_down true None (Some t) r old = old
fresh_down true (Some t) h r old = old

fresh_up : (g h : Bool) (es : List EntryOf) (r : List Body) → HasFresh r → HasFresh (cond g (cond h (Stable es ∷ []) []) [] ++ r)
fresh_up false h es r old = old
fresh_up true false es r old = old
fresh_up true true es r old = refl

fresh_answer : (g : Bool) (q : ℕ) (p : Place) (b : Body) (r : List Body) → HasFresh r → HasFresh (cond g (answer_on q p b) [] ++ r)
fresh_answer false q p b r old = old
fresh_answer true q p (Pos b) r old = old
fresh_answer true q p (Answer b) r old = old
fresh_answer true q p (Stable es) r old = old
fresh_answer true q p (Topo t) r old = old

fresh_told : (g : Bool) (b : PosOf) (r : List Body) → g ≡ false → HasFresh r → HasFresh (cond g (Pos b ∷ []) [] ++ r)
fresh_told true b r still old = absurd (true≢false still)
fresh_told false b r still old = old

fresh_new : (g h : Bool) (es : List EntryOf) (r : List Body) → g ≡ true → h ≡ true → HasFresh (cond g (cond h (Stable es ∷ []) []) [] ++ r)
fresh_new true true es r a b = refl
fresh_new true false es r a b = absurd (true≢false (sym b))
fresh_new false h es r a b = absurd (true≢false (sym a))

pub fresh_sent : (c : CardOf) (q : ℕ) → HasLink c q → (l : Log) → is_stable c l ≡ true → is_root c l ≡ false → (position c l).port ≡ q → HasFresh (sent c q l)
fresh_sent c q k [] st below at = absurd (none_some (settled_link c q [] k st))
fresh_sent c q k (x ∷ l) st below at =
    by (λ was root port. fresh_sent c q k l was root port)
  where
    rest : HasFresh (after_up c q x l (sent c q l)) → HasFresh (sent c q (x ∷ l))
    rest now =
        subst HasFresh (sym (sent_is c q x l k))
        (fresh_down (is_claimed (on_port q (x ∷ l))) (finish c l) (finish c (x ∷ l)) (after_up c q x l (sent c q l)) now)

    reports_now : is_stable c l ≡ false → reports c x l ≡ true
    reports_now was =
        ap (λ (g : Bool). g && not (is_stable c l) && not (is_root c (x ∷ l))) st
        ∙ ap (λ (g : Bool). not g && not (is_root c (x ∷ l))) was
        ∙ ap not below

    by : (is_stable c l ≡ true → is_root c l ≡ false → (position c l).port ≡ q → HasFresh (sent c q l)) → HasFresh (sent c q (x ∷ l))
    by old =
        ⊎_elim
        (λ (was : is_stable c l ≡ true).
        ⊎_elim
        (λ (moved : has_moved c x l ≡ true). absurd (not_again c x l q k moved was st))
        (λ (still : has_moved c x l ≡ false).
        let same = not_moved c x l still in
        let before = old was (ap (λ (p : Place). is_same p (self_root c.me)) (sym same) ∙ below) (ap (λ (p : Place). p.port) (sym same) ∙ at) in
        rest
        (fresh_up (reports c x l) ((position c (x ∷ l)).port == q) (report c (x ∷ l)) (after_answer c q x l (sent c q l))
        (fresh_answer (x.port == q) q (position c (x ∷ l)) x.body (after_told c q x l (sent c q l))
        (fresh_told (has_moved c x l) (record { version = version c (x ∷ l); root = (position c (x ∷ l)).root; level = (position c (x ∷ l)).level; to_parent = (q == (position c (x ∷ l)).port) }) (sent c q l) still before))))
        (bool_cases (has_moved c x l)))
        (λ (was : is_stable c l ≡ false).
        rest
        (fresh_new (reports c x l) ((position c (x ∷ l)).port == q) (report c (x ∷ l)) (after_answer c q x l (sent c q l)) (reports_now was)
        (ap (λ (n : ℕ). n == q) at ∙ number_itself q)))
        (bool_cases (is_stable c l))

-- A life that has finished has sent its topology on a link that claimed whenever it had finished.
in_down_part : (g : Bool) (f h : Option TopoOf) (t : TopoOf) (r : List Body) → g ≡ true → f ≡ None → h ≡ Some t → In (Topo t) (cond g (topo_of f h) [] ++ r)
in_down_part g f h t r claims before now =
    subst (λ (a : Bool). In (Topo t) (cond a (topo_of f h) [] ++ r)) (sym claims)
    (subst (λ (a : Option TopoOf). In (Topo t) (topo_of a h ++ r)) (sym before) (subst (λ (a : Option TopoOf). In (Topo t) (topo_of None a ++ r)) (sym now) (inl refl)))

pub topo_passed : (c : CardOf) (q : ℕ) → HasLink c q → (l : Log) (t : TopoOf) → ((h : Log) → Earlier h l → finish c h ≡ Some t → is_claimed (on_port q h) ≡ true) → finish c l ≡ Some t → In (Topo t) (sent c q l)
topo_passed c q k [] t claims done = absurd (true≢false (sym (claims [] refl done)))
topo_passed c q k (x ∷ l) t claims done = by (finish c l) refl (λ e. topo_passed c q k l t (λ h i f. claims h (inr i) f) e)
  where
    by : (o : Option TopoOf) → finish c l ≡ o → (finish c l ≡ Some t → In (Topo t) (sent c q l)) → In (Topo t) (sent c q (x ∷ l))
    by (Some u) e old =
        let same : u ≡ t = some_same u t (sym (finish_stays c x l u e) ∙ done) in
        subst (In (Topo t)) (sym (sent_is c q x l k))
        (in_right (Topo t) (down_part c x l q) (after_up c q x l (sent c q l))
        (in_right (Topo t) (up_part c x l q) (after_answer c q x l (sent c q l))
        (in_right (Topo t) (answer_part c x l q) (after_told c q x l (sent c q l)) (in_right (Topo t) (told_part c x l q) (sent c q l) (old (e ∙ ap Some same))))))
    by None e old =
        subst (In (Topo t)) (sym (sent_is c q x l k))
        (in_down_part (is_claimed (on_port q (x ∷ l))) (finish c l) (finish c (x ∷ l)) t (after_up c q x l (sent c q l)) (claims (x ∷ l) (inl refl) done) e done)

-- A stable root has finished.
pub root_finishes : (c : CardOf) (l : Log) → is_stable c l ≡ true → position c l ≡ self_root c.me → is_some (finish c l) ≡ true
root_finishes c l st own = by (finish c l) refl
  where
    both : (is_stable c l && is_root c l) ≡ true
    both = ap (λ (g : Bool). g && is_root c l) st ∙ ap (λ (p : Place). is_same p (self_root c.me)) own ∙ is_same-itself (self_root c.me)

    by : (o : Option TopoOf) → finish c l ≡ o → is_some o ≡ true
    by (Some t) e = refl
    by None e = absurd (true≢false (sym both ∙ stable_root-unfinished c l e))

-- And so has a life that accepted a topology that names it.
pub entry_names : (me : LifeId) (es : List EntryOf) (e : EntryOf) → In e es → e.life ≡ me → list_any (λ f. is_eq (life_cmp f.life me)) es ≡ true
entry_names me [] e i is = absurd i
entry_names me (f ∷ es) e (inl same) is =
    ap (λ (g : Bool). g || list_any (λ f. is_eq (life_cmp f.life me)) es) (life_passes f.life me (ap (λ (a : EntryOf). a.life) (sym same) ∙ is))
entry_names me (f ∷ es) e (inr j) is = more (is_eq (life_cmp f.life me)) (entry_names me es e j is)
  where
    more : (g : Bool) → list_any (λ f. is_eq (life_cmp f.life me)) es ≡ true → g || list_any (λ f. is_eq (life_cmp f.life me)) es ≡ true
    more true rest = refl
    more false rest = rest

some_last : {A : Type 0} (a b c : Option A) (t : A) → c ≡ Some t → is_some (option_or a (option_or b c)) ≡ true
some_last (Some v) b c t e = refl
some_last None (Some v) c t e = refl
some_last None None c t e = ap is_some e

pub named_finishes : (c : CardOf) (p : ℕ) (t : TopoOf) (l : Log) → is_named c.me t ≡ true → In (Topo t) (on_port p l) → is_some (finish c l) ≡ true
named_finishes c p t [] named i = absurd i
named_finishes c p t (x ∷ l) named i = by (x.port == p) i (λ j. named_finishes c p t l named j)
  where
    given : given_by c.me (Topo t) ≡ Some t
    given = ap (λ (g : Bool). cond g (Some t) None) named

    by : (g : Bool) → In (Topo t) (cond g (x.body ∷ on_port p l) (on_port p l)) → (In (Topo t) (on_port p l) → is_some (finish c l) ≡ true) → is_some (finish c (x ∷ l)) ≡ true
    by true (inl e) rest = some_last (finish c l) (finished_as_root c (x ∷ l)) (given_by c.me x.body) t (ap (given_by c.me) (sym e) ∙ given)
    by true (inr j) rest = ap is_some (finish-finished c x l (rest j)) ∙ rest j
    by false j rest = ap is_some (finish-finished c x l (rest j)) ∙ rest j
