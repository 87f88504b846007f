use Rattle.std.proofs.Common.{◌≡◌, ◌∙◌, sym, ap, ℕ, List, [], ◌∷◌, ◌++◌, append-nil}
use Rattle.common_lines.specs.Lines.{line_text}
use Rattle.common_lines.proofs.FormTexts.{go_on}
use Rattle.net_script.specs.Forms.{form_words, End, header_words}
use Rattle.net_script.specs.Scripts.{ScriptOf}
use Rattle.script_text.specs.Canonical.{forms_text, setting_forms, switch_forms, link_forms, host_forms, command_forms, forms_of, canonical_text}

-- the parts of a canonical text
pub canonical_parts : (s : ScriptOf) (none header settings switches links hosts commands all : List ℕ) → none ≡ [] → header ≡ none ++ line_text header_words → settings ≡ header ++ forms_text (setting_forms s) → switches ≡ settings ++ forms_text (switch_forms s) → links ≡ switches ++ forms_text (link_forms s) → hosts ≡ links ++ forms_text (host_forms s) → commands ≡ hosts ++ forms_text (command_forms s) → all ≡ commands ++ line_text (form_words End) → all ≡ canonical_text s
unfolding canonical_text forms_of
canonical_parts s none header settings switches links hosts commands all nothing e0 e1 e2 e3 e4 e5 e6 =
    let last : all ≡ commands ++ forms_text (End ∷ []) = e6 ∙ ap (λ (b : List ℕ). commands ++ b) (sym (append-nil (line_text (form_words End)))) in
    let cs = command_forms s in
    let hs = host_forms s in
    let ls = link_forms s in
    let ss = switch_forms s in
    let from_hosts = go_on form_words cs (End ∷ []) hosts commands all e5 last in
    let from_links = go_on form_words hs (cs ++ End ∷ []) links hosts all e4 from_hosts in
    let from_switches = go_on form_words ls (hs ++ (cs ++ End ∷ [])) switches links all e3 from_links in
    let from_settings = go_on form_words ss (ls ++ (hs ++ (cs ++ End ∷ []))) settings switches all e2 from_switches in
    go_on form_words (setting_forms s) (ss ++ (ls ++ (hs ++ (cs ++ End ∷ [])))) header settings all e1 from_settings
    ∙ ap (λ (b : List ℕ). b ++ forms_text (setting_forms s ++ (ss ++ (ls ++ (hs ++ (cs ++ End ∷ [])))))) (e0 ∙ ap (λ (b : List ℕ). b ++ line_text header_words) nothing)
