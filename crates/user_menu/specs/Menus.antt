-- An entry of a menu (mc(1), "Menu File Edit").
use Rattle.std.specs.Prelude.{ℕ, List, [], ◌∷◌, ◌++◌, Option, Some, None, unwrap_or}
use Rattle.user_menu.specs.declared.line.Asked.{Asked}

-- what an entry asks, line by line; its title; and its command lines, joined by newlines, if it has any
pub record MenuEntry : Type 0 where
  pub conditions : List Asked
  pub title : List ℕ
  pub commands : Option (List ℕ)

-- command lines with one more behind a newline, the byte 10
abbrev pub with_line : Option (List ℕ) → List ℕ → Option (List ℕ)
with_line None line = Some line
with_line (Some commands) line = Some (commands ++ 10 ∷ line)

-- what is run: the command lines, which may be none
abbrev pub command_text : MenuEntry → List ℕ
command_text entry = unwrap_or entry.commands []
