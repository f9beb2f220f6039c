-- Entries as far as they are read: one more, or one more line at the last.
use Rattle.std.proofs.Common.{◌≡◌, ℕ, zero, suc, ◌+◌, ◌<◌, true, List, [], ◌∷◌, ◌++◌, length, get_or, set, Option, Some, None, refl, ap, ◌∙◌, sym, arith, append_assoc, length-set}
use Rattle.std.specs.List.{join_with_byte}
use Rattle.std.proofs.lemmas.List.{append-nil}
use Rattle.user_menu.specs.Menus.{MenuEntry}
use Rattle.user_menu.specs.MenuFiles.{conditions_ahead, commands_ahead, joined_lines, entries_behind}
use Rattle.user_menu.specs.Drafts.{is_some_entry, with_lines, extended_entries, continued_entries}
use Rattle.user_menu.specs.declared.file.Draft.{Draft}
use Rattle.user_menu.specs.declared.line.Asked as one
use Rattle.user_menu.specs.declared.line.LineRead.{LineRead}
use Rattle.user_menu.specs.declared.line.LineRead.TheVariants.{Title}

abbrev pub with_more : MenuEntry → List (List ℕ) → MenuEntry
with_more entry more = record { conditions = entry.conditions; title = entry.title; commands = with_lines entry.commands more }

extended-cons : (entry : MenuEntry) (entries : List MenuEntry) (more : List (List ℕ)) → 0 < length entries
    → extended_entries (entry ∷ entries) more ≡ entry ∷ extended_entries entries more
extended-cons entry [] more some = absurd (omega arith)
extended-cons entry (next ∷ entries) more some = refl

-- a line that is put at the end of the last entry
pub extended-put : (entries : List MenuEntry) (last : ℕ) (entry : MenuEntry) (line : List ℕ) (more : List (List ℕ))
    → length entries ≡ last + 1 → get_or entries last entry ≡ entry
    → extended_entries (set entries last (with_more entry (line ∷ []))) more ≡ extended_entries entries (line ∷ more)
extended-put [] last entry line more len is = absurd (omega arith)
extended-put (first ∷ []) zero entry line more len is = ap (λ one. with_more one (line ∷ more) ∷ []) (sym is)
extended-put (first ∷ []) (suc last) entry line more len is = absurd (omega arith)
extended-put (first ∷ next ∷ entries) zero entry line more len is = absurd (omega arith)
extended-put (first ∷ next ∷ entries) (suc last) entry line more len is =
    extended-cons first (set (next ∷ entries) last (with_more entry (line ∷ []))) more (simp length-set (omega arith))
    ∙ ap (λ others. first ∷ others) (extended-put (next ∷ entries) last entry line more (omega arith) is)

-- no more lines
pub extended-nothing : (entries : List MenuEntry) → extended_entries entries [] ≡ entries
extended-nothing [] = refl
extended-nothing (entry ∷ []) = refl
extended-nothing (entry ∷ next ∷ entries) = ap (λ others. entry ∷ others) (extended-nothing (next ∷ entries))

-- an entry more at the end
extended-push : (entries : List MenuEntry) (entry : MenuEntry) (more : List (List ℕ))
    → extended_entries (entries ++ entry ∷ []) more ≡ entries ++ with_more entry more ∷ []
extended-push [] entry more = refl
extended-push (first ∷ []) entry more = refl
extended-push (first ∷ next ∷ entries) entry more = ap (λ others. first ∷ others) (extended-push (next ∷ entries) entry more)

pub is_some_entry-push : (entries : List MenuEntry) (entry : MenuEntry) → is_some_entry (entries ++ entry ∷ []) ≡ true
is_some_entry-push [] entry = refl
is_some_entry-push (first ∷ entries) entry = refl

-- lines put one by one are joined
joined-onto : (text line : List ℕ) (more : List (List ℕ))
    → join_with_byte 10 ((text ++ 10 ∷ line) ∷ more) ≡ join_with_byte 10 (text ∷ line ∷ more)
joined-onto text line [] = refl
joined-onto text line (next ∷ more) = append_assoc text (10 ∷ line) (10 ∷ join_with_byte 10 (next ∷ more))

with_lines-some : (text : List ℕ) (lines : List (List ℕ)) → with_lines (Some text) lines ≡ Some (join_with_byte 10 (text ∷ lines))
with_lines-some text [] = refl
with_lines-some text (line ∷ lines) = with_lines-some (text ++ 10 ∷ line) lines ∙ ap Some (joined-onto text line lines)

with_lines-joined : (lines : List (List ℕ)) → with_lines None lines ≡ joined_lines lines
with_lines-joined [] = refl
with_lines-joined (line ∷ lines) = with_lines-some line lines

begun : (entries : List MenuEntry) (waiting : List one.Asked) (title : List ℕ) (lines : List LineRead)
    → extended_entries (entries ++ record { conditions = waiting; title = title; commands = None } ∷ []) (commands_ahead lines) ++ entries_behind (conditions_ahead lines) lines
    ≡ extended_entries entries [] ++ entries_behind (waiting ++ []) (Title title ∷ lines)
begun entries waiting title lines =
    let new : MenuEntry = record { conditions = waiting; title = title; commands = None } in
    let said : List one.Asked → Option (List ℕ) → MenuEntry = λ conditions commands. record { conditions = conditions; title = title; commands = commands } in
    ap (λ all. all ++ entries_behind (conditions_ahead lines) lines)
    (extended-push entries new (commands_ahead lines)
    ∙ ap (λ commands. entries ++ said waiting commands ∷ []) (with_lines-joined (commands_ahead lines)))
    ∙ append_assoc entries (said waiting (joined_lines (commands_ahead lines)) ∷ []) (entries_behind (conditions_ahead lines) lines)
    ∙ ap (λ all. all ++ said waiting (joined_lines (commands_ahead lines)) ∷ entries_behind (conditions_ahead lines) lines) (sym (extended-nothing entries))
    ∙ ap (λ conditions. extended_entries entries [] ++ said conditions (joined_lines (commands_ahead lines)) ∷ entries_behind (conditions_ahead lines) lines)
    (sym (append-nil waiting))

-- a title begins an entry
pub continued-begun : (old new : Draft) (title : List ℕ) (lines : List LineRead)
    → new.entries.items ≡ old.entries.items ++ record { conditions = old.waiting.items; title = title; commands = None } ∷ []
    → new.waiting.items ≡ []
    → continued_entries new lines ≡ continued_entries old (Title title ∷ lines)
continued-begun old new title lines more none =
    ap (λ waiting. extended_entries new.entries.items (commands_ahead lines) ++ entries_behind (waiting ++ conditions_ahead lines) lines) none
    ∙ ap (λ entries. extended_entries entries (commands_ahead lines) ++ entries_behind (conditions_ahead lines) lines) more
    ∙ begun old.entries.items old.waiting.items title lines

-- at the end nothing more is said
pub continued-ended : (draft : Draft) → continued_entries draft [] ≡ draft.entries.items
continued-ended draft = append-nil (extended_entries draft.entries.items []) ∙ extended-nothing draft.entries.items
