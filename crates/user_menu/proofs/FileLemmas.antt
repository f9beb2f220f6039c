-- The faults of bytes that are or aren't text, and what is read of them.
use Rattle.std.proofs.Common.{◌≡◌, ℕ, Bool, false, true, cond, List, Some, None, Result, Ok, Err, IfOk, refl, ap, ◌∙◌, sym}
use Rattle.std.specs.Str.{IsUtf8, is_utf8}
use Rattle.std.specs.Str.Lossy.{utf8_valid_len}
use Rattle.std.proofs.lemmas.Str.{is_utf8-from_IsUtf8, IsUtf8-from_is_utf8}
use Rattle.user_menu.specs.declared.error.MenuError.{MenuError}
use Rattle.user_menu.specs.declared.error.MenuError.TheVariants.{NotText}
use Rattle.user_menu.specs.Menus.{MenuEntry}
use Rattle.user_menu.specs.MenuFiles.{menu_fault, fault_from, kind_first, readings, entries_of, IsMenuFile}

module _ (shell : Bool) (bytes : List ℕ) where
  pub menu_fault-text : IsUtf8 bytes → menu_fault shell bytes ≡ fault_from 1 false (readings (kind_first shell) bytes)
  menu_fault-text text =
      ap (λ test. cond test (fault_from 1 false (readings (kind_first shell) bytes)) (Some (NotText (utf8_valid_len bytes)))) (is_utf8-from_IsUtf8 bytes text)

  pub menu_fault-no_text : ¬ (IsUtf8 bytes) → menu_fault shell bytes ≡ Some (NotText (utf8_valid_len bytes))
  menu_fault-no_text none = go (is_utf8 bytes) refl
    where
      go : (test : Bool) → is_utf8 bytes ≡ test
          → cond test (fault_from 1 false (readings (kind_first shell) bytes)) (Some (NotText (utf8_valid_len bytes))) ≡ Some (NotText (utf8_valid_len bytes))
      go true is = absurd (none (IsUtf8-from_is_utf8 bytes is))
      go false is = refl

  -- entries that were read are those of the file
  pub read_is : (text : List ℕ) (r : Result (List MenuEntry) MenuError) → text ≡ bytes → IsUtf8 bytes
      → IfOk r (λ menu. menu ≡ entries_of (readings (kind_first shell) text))
      → IfOk r (λ _. fault_from 1 false (readings (kind_first shell) text) ≡ None)
      → IfOk r (λ menu. IsMenuFile shell bytes menu)
  read_is text (Ok menu) same utf8 is faultless =
      record {
        faultless = menu_fault-text utf8 ∙ ap (λ t. fault_from 1 false (readings (kind_first shell) t)) (sym same) ∙ faultless;
        entries_are = is ∙ ap (λ t. entries_of (readings (kind_first shell) t)) same;
      }
  read_is text (Err e) same utf8 is faultless = is
