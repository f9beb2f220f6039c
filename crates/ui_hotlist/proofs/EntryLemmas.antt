-- A folder that is added is one line more.
use Rattle.std.proofs.Common.{◌≡◌, ℕ, Bool, true, false, ◌==◌, ◌||◌, List, [], ◌∷◌, refl}
use Rattle.std.specs.List.{list_any}
use Rattle.text_scan.specs.Lines.{IsWithout}
use Rattle.hotlist.specs.HotLists.{HotList, NoMore, AnEntry, AGroup, AreOneLine}
use Rattle.hotlist.specs.Places.{followed_by}
use Rattle.ui_hotlist.specs.HotlistFiles.{with_entry}

neither : (a b : Bool) → (a || b) ≡ false → (a ≡ false) × (b ≡ false)
neither true b is = absurd (cc)
neither false b is = (refl, is)

without : (text : List ℕ) → list_any (λ byte. byte == 10) text ≡ false → IsWithout 10 text
without [] none = tt
without (byte ∷ text) none =
    let parts = neither (byte == 10) (list_any (λ byte. byte == 10) text) none in
    (parts.0, without text parts.1)

followed : (list second : HotList) → AreOneLine list → AreOneLine second → AreOneLine (followed_by list second)
followed NoMore second a b = b
followed (AnEntry label path others) second a b = (a.0, a.1, followed others second a.2 b)
followed (AGroup label items others) second a b = (a.0, a.1, followed others second a.2 b)

pub one_line-added : (text : List ℕ) (list : HotList) → list_any (λ byte. byte == 10) text ≡ false → AreOneLine list
    → AreOneLine (with_entry text list)
one_line-added text list none one =
    followed list (AnEntry text text NoMore) one (without text none, without text none, tt)
