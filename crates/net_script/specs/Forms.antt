use Rattle.std.specs.Prelude.{ℕ, List, [], ◌∷◌, ◌++◌, Option, Some, None, codes}
use Rattle.net_script.specs.declared.setting.Setting.{Setting}
use Rattle.net_script.specs.declared.command.LinkChange.{LinkChange}
use Rattle.net_script.specs.declared.command.WireChange.{WireChange}
use Rattle.net_script.specs.Settings.{setting_words}
use Rattle.net_script.specs.Commands.{link_word, wire_word}

-- The forms of the lines of a script.

-- the forms of lines after the first, with the words in their fields
pub data Form : Type 0 where
  Number : (setting : Setting) (number : List ℕ) → Form
  AnyRoutes : Form
  SwitchLine : (name uid : List ℕ) (had : Option (List ℕ)) → Form
  LinkLine : (switch port far_switch far_port : List ℕ) → Form
  HostLine : (name uid switch port : List ℕ) → Form
  ChangesLink : (change : LinkChange) (time name port : List ℕ) → Form
  ChangesWire : (change : WireChange) (time name port number : List ℕ) → Form
  Sends : (time host to : List ℕ) → Form
  Restarts : (time name : List ℕ) → Form
  End : Form

-- the words of `had N`, if there is a number
abbrev pub had_words : Option (List ℕ) → List (List ℕ)
had_words None = []
had_words (Some number) = codes "had" ∷ number ∷ []

-- the words of a form
abbrev pub form_words : Form → List (List ℕ)
form_words (Number setting number) = setting_words setting ++ number ∷ []
form_words AnyRoutes = codes "routes" ∷ codes "any" ∷ []
form_words (SwitchLine name uid had) = codes "switch" ∷ name ∷ uid ∷ had_words had
form_words (LinkLine switch port far_switch far_port) =
    codes "link" ∷ switch ∷ port ∷ far_switch ∷ far_port ∷ []
form_words (HostLine name uid switch port) = codes "host" ∷ name ∷ uid ∷ switch ∷ port ∷ []
form_words (ChangesLink change time name port) = codes "at" ∷ time ∷ link_word change ∷ name ∷ port ∷ []
form_words (ChangesWire change time name port number) =
    codes "at" ∷ time ∷ wire_word change ∷ name ∷ port ∷ number ∷ []
form_words (Sends time host to) = codes "at" ∷ time ∷ codes "send" ∷ host ∷ to ∷ []
form_words (Restarts time name) = codes "at" ∷ time ∷ codes "restart" ∷ name ∷ []
form_words End = codes "end" ∷ []

-- the words of the first line
abbrev pub header_words : List (List ℕ)
header_words = codes "autonet" ∷ codes "1" ∷ []
