use Rattle.std.proofs.Common.{◌≡◌, ◌≢◌, ◌++◌, ◌∙◌, sym, ap, refl, ℕ, List, [], ◌∷◌, Option, Some, None, true, cond, ◌&&◌, codes}
use Rattle.std.specs.Str.{bytes_eq}
use Rattle.std.specs.Option.{option_map}
use Rattle.std.proofs.lemmas.Bool.{and_parts}
use Rattle.net_script.specs.declared.setting.Setting.{Setting}
use Rattle.net_script.specs.declared.setting.Setting.TheVariants.{Ticks, Events, Blocks, Epoch, Pace}
use Rattle.net_script.specs.declared.command.LinkChange.{LinkChange}
use Rattle.net_script.specs.declared.command.LinkChange.TheVariants as link
use Rattle.net_script.specs.declared.command.WireChange.{WireChange}
use Rattle.net_script.specs.declared.command.WireChange.TheVariants as wire
use Rattle.net_script.specs.Settings.{setting_words}
use Rattle.net_script.specs.Commands.{link_word, wire_word}
use Rattle.net_script.specs.Forms.{Form, Number, AnyRoutes, SwitchLine, LinkLine, HostLine, ChangesLink, ChangesWire, Sends, Restarts, End, form_words}
use Rattle.common_lines.specs.Grammar.{HasNoFormBy}
use Rattle.common_lines.proofs.ChoiceLemmas.{word_is, branch, mapped}

-- a limit, a change of a link and one of a wire, by their words
abbrev pub limit_of : List ℕ → Option Setting
limit_of w = cond (bytes_eq w (codes "ticks")) (Some Ticks) (cond (bytes_eq w (codes "events")) (Some Events) (cond (bytes_eq w (codes "blocks")) (Some Blocks) None))

abbrev pub link_of : List ℕ → Option LinkChange
link_of w = cond (bytes_eq w (codes "fail")) (Some link.Fail) (cond (bytes_eq w (codes "repair")) (Some link.Repair) None)

abbrev pub wire_of : List ℕ → Option WireChange
wire_of w = cond (bytes_eq w (codes "lose")) (Some wire.Lose) (cond (bytes_eq w (codes "again")) (Some wire.Again) (cond (bytes_eq w (codes "swap")) (Some wire.Swap) (cond (bytes_eq w (codes "noise")) (Some wire.Noise) None)))

-- the form of words
abbrev pub form_of : List (List ℕ) → Option Form
form_of [] = None
form_of (a ∷ []) = cond (bytes_eq a (codes "end")) (Some End) None
form_of (a ∷ b ∷ []) = cond (bytes_eq a (codes "epoch")) (Some (Number Epoch b)) (cond (bytes_eq a (codes "pace")) (Some (Number Pace b)) (cond (bytes_eq a (codes "routes") && bytes_eq b (codes "any")) (Some AnyRoutes) None))
form_of (a ∷ b ∷ c ∷ []) = cond (bytes_eq a (codes "switch")) (Some (SwitchLine b c None)) (cond (bytes_eq a (codes "limit")) (option_map (λ k. Number k c) (limit_of b)) None)
form_of (a ∷ b ∷ c ∷ d ∷ []) = cond (bytes_eq a (codes "at") && bytes_eq c (codes "restart")) (Some (Restarts b d)) None
form_of (a ∷ b ∷ c ∷ d ∷ e ∷ []) = cond (bytes_eq a (codes "switch") && bytes_eq d (codes "had")) (Some (SwitchLine b c (Some e))) (cond (bytes_eq a (codes "link")) (Some (LinkLine b c d e)) (cond (bytes_eq a (codes "host")) (Some (HostLine b c d e)) (cond (bytes_eq a (codes "at") && bytes_eq c (codes "send")) (Some (Sends b d e)) (cond (bytes_eq a (codes "at")) (option_map (λ k. ChangesLink k b d e) (link_of c)) None))))
form_of (a ∷ b ∷ c ∷ d ∷ e ∷ f ∷ []) = cond (bytes_eq a (codes "at")) (option_map (λ k. ChangesWire k b d e f) (wire_of c)) None
form_of (a ∷ b ∷ c ∷ d ∷ e ∷ f ∷ g ∷ more) = None

-- the form of a form's words
pub form_of-form_words : (form : Form) → form_of (form_words form) ≡ Some form
form_of-form_words (Number Ticks n) = refl
form_of-form_words (Number Events n) = refl
form_of-form_words (Number Blocks n) = refl
form_of-form_words (Number Epoch n) = refl
form_of-form_words (Number Pace n) = refl
form_of-form_words AnyRoutes = refl
form_of-form_words (SwitchLine name uid None) = refl
form_of-form_words (SwitchLine name uid (Some had)) = refl
form_of-form_words (LinkLine a p b q) = refl
form_of-form_words (HostLine name uid s p) = refl
form_of-form_words (ChangesLink link.Fail t s p) = refl
form_of-form_words (ChangesLink link.Repair t s p) = refl
form_of-form_words (ChangesWire wire.Lose t s p n) = refl
form_of-form_words (ChangesWire wire.Again t s p n) = refl
form_of-form_words (ChangesWire wire.Swap t s p n) = refl
form_of-form_words (ChangesWire wire.Noise t s p n) = refl
form_of-form_words (Sends t h g) = refl
form_of-form_words (Restarts t s) = refl
form_of-form_words End = refl

-- forms of the same words are one
pub one_form : (f g : Form) → form_words f ≡ form_words g → f ≡ g
one_form f g same = let h : Some f ≡ Some g = sym (form_of-form_words f) ∙ ap form_of same ∙ form_of-form_words g in cc

-- words for which no form is found have none
pub no_form : (words : List (List ℕ)) → form_of words ≡ None → HasNoFormBy form_words words
no_form words none form same = let h : ◌≡◌ {A = Option Form} None (Some form) = sym none ∙ ap form_of same ∙ form_of-form_words form in absurd (cc)

limit_is : (w : List ℕ) (k : Setting) → limit_of w ≡ Some k → codes "limit" ∷ w ∷ [] ≡ setting_words k
limit_is w k found =
    branch (bytes_eq w (codes "ticks")) _ _ k _ (λ t e. let h : Ticks ≡ k = cc in rw (word_is w (codes "ticks") t, ← h) refl)
    (λ n. branch (bytes_eq w (codes "events")) _ _ k _ (λ t e. let h : Events ≡ k = cc in rw (word_is w (codes "events") t, ← h) refl)
    (λ n. branch (bytes_eq w (codes "blocks")) _ _ k _ (λ t e. let h : Blocks ≡ k = cc in rw (word_is w (codes "blocks") t, ← h) refl)
    (λ n e. absurd (cc)))) found

link_is : (w : List ℕ) (k : LinkChange) → link_of w ≡ Some k → w ≡ link_word k
link_is w k found =
    branch (bytes_eq w (codes "fail")) _ _ k _ (λ t e. let h : link.Fail ≡ k = cc in rw (word_is w (codes "fail") t, ← h) refl)
    (λ n. branch (bytes_eq w (codes "repair")) _ _ k _ (λ t e. let h : link.Repair ≡ k = cc in rw (word_is w (codes "repair") t, ← h) refl)
    (λ n e. absurd (cc))) found

pub wire_is : (w : List ℕ) (k : WireChange) → wire_of w ≡ Some k → w ≡ wire_word k
wire_is w k found =
    branch (bytes_eq w (codes "lose")) _ _ k _ (λ t e. let h : wire.Lose ≡ k = cc in rw (word_is w (codes "lose") t, ← h) refl)
    (λ n. branch (bytes_eq w (codes "again")) _ _ k _ (λ t e. let h : wire.Again ≡ k = cc in rw (word_is w (codes "again") t, ← h) refl)
    (λ n. branch (bytes_eq w (codes "swap")) _ _ k _ (λ t e. let h : wire.Swap ≡ k = cc in rw (word_is w (codes "swap") t, ← h) refl)
    (λ n. branch (bytes_eq w (codes "noise")) _ _ k _ (λ t e. let h : wire.Noise ≡ k = cc in rw (word_is w (codes "noise") t, ← h) refl)
    (λ n e. absurd (cc))))) found

-- two words that compare alike
words_are : (a v b w : List ℕ) → (bytes_eq a v && bytes_eq b w) ≡ true → (a ≡ v) × (b ≡ w)
words_are a v b w both = let parts = and_parts (bytes_eq a v) (bytes_eq b w) both in (word_is a v parts.0, word_is b w parts.1)

-- the words of the form that is found
pub form_is : (words : List (List ℕ)) (f : Form) → form_of words ≡ Some f → words ≡ form_words f
form_is [] f found = absurd (cc)
form_is (a ∷ []) f found =
    branch (bytes_eq a (codes "end")) _ _ f _ (λ t e. let h : End ≡ f = cc in rw (word_is a (codes "end") t, ← h) refl)
    (λ n e. absurd (cc)) found
form_is (a ∷ b ∷ []) f found =
    branch (bytes_eq a (codes "epoch")) _ _ f _ (λ t e. let h : Number Epoch b ≡ f = cc in rw (word_is a (codes "epoch") t, ← h) refl)
    (λ n. branch (bytes_eq a (codes "pace")) _ _ f _ (λ t e. let h : Number Pace b ≡ f = cc in rw (word_is a (codes "pace") t, ← h) refl)
    (λ n. branch (bytes_eq a (codes "routes") && bytes_eq b (codes "any")) _ _ f _ (λ t e. let h : AnyRoutes ≡ f = cc in let ws = words_are a (codes "routes") b (codes "any") t in rw (ws.0, ws.1, ← h) refl)
    (λ n e. absurd (cc)))) found
form_is (a ∷ b ∷ c ∷ []) f found =
    branch (bytes_eq a (codes "switch")) _ _ f _ (λ t e. let h : SwitchLine b c None ≡ f = cc in rw (word_is a (codes "switch") t, ← h) refl)
    (λ n. branch (bytes_eq a (codes "limit")) _ _ f _ (λ t e. mapped (limit_of b) (λ k. Number k c) f _ (λ k l h. rw (word_is a (codes "limit") t, ← h) (ap (λ (ws : List (List ℕ)). ws ++ c ∷ []) (limit_is b k l))) e)
    (λ n e. absurd (cc))) found
form_is (a ∷ b ∷ c ∷ d ∷ []) f found =
    branch (bytes_eq a (codes "at") && bytes_eq c (codes "restart")) _ _ f _ (λ t e. let h : Restarts b d ≡ f = cc in let ws = words_are a (codes "at") c (codes "restart") t in rw (ws.0, ws.1, ← h) refl)
    (λ n e. absurd (cc)) found
form_is (a ∷ b ∷ c ∷ d ∷ e ∷ []) f found =
    branch (bytes_eq a (codes "switch") && bytes_eq d (codes "had")) _ _ f _ (λ t x. let h : SwitchLine b c (Some e) ≡ f = cc in let ws = words_are a (codes "switch") d (codes "had") t in rw (ws.0, ws.1, ← h) refl)
    (λ n. branch (bytes_eq a (codes "link")) _ _ f _ (λ t x. let h : LinkLine b c d e ≡ f = cc in rw (word_is a (codes "link") t, ← h) refl)
    (λ n. branch (bytes_eq a (codes "host")) _ _ f _ (λ t x. let h : HostLine b c d e ≡ f = cc in rw (word_is a (codes "host") t, ← h) refl)
    (λ n. branch (bytes_eq a (codes "at") && bytes_eq c (codes "send")) _ _ f _ (λ t x. let h : Sends b d e ≡ f = cc in let ws = words_are a (codes "at") c (codes "send") t in rw (ws.0, ws.1, ← h) refl)
    (λ n. branch (bytes_eq a (codes "at")) _ _ f _ (λ t x. mapped (link_of c) (λ k. ChangesLink k b d e) f _ (λ k l h. rw (word_is a (codes "at") t, ← h, link_is c k l) refl) x)
    (λ n x. absurd (cc)))))) found
form_is (a ∷ b ∷ c ∷ d ∷ e ∷ g ∷ []) f found =
    branch (bytes_eq a (codes "at")) _ _ f _ (λ t x. mapped (wire_of c) (λ k. ChangesWire k b d e g) f _ (λ k l h. rw (word_is a (codes "at") t, ← h, wire_is c k l) refl) x)
    (λ n x. absurd (cc)) found
form_is (a ∷ b ∷ c ∷ d ∷ e ∷ g ∷ h ∷ more) f found = absurd (cc)

-- where a word is none of these, none is found
none_found : {K : Type 0} (o : Option K) (Has : K → Type 0) → ((k : K) → o ≡ Some k → Has k) → ((k : K) → Has k → ⊥) → o ≡ None
none_found None Has is none = refl
none_found (Some k) Has is none = absurd (none k (is k refl))

pub no_limit : (w : List ℕ) → ((k : Setting) → codes "limit" ∷ w ∷ [] ≢ setting_words k) → limit_of w ≡ None
no_limit w none = none_found (limit_of w) (λ k. codes "limit" ∷ w ∷ [] ≡ setting_words k) (limit_is w) none

pub no_link : (w : List ℕ) → ((k : LinkChange) → w ≢ link_word k) → link_of w ≡ None
no_link w none = none_found (link_of w) (λ k. w ≡ link_word k) (link_is w) none

pub no_wire : (w : List ℕ) → ((k : WireChange) → w ≢ wire_word k) → wire_of w ≡ None
no_wire w none = none_found (wire_of w) (λ k. w ≡ wire_word k) (wire_is w) none
