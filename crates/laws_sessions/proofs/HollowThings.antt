-- A thing that holds nothing, a file or an empty folder, and what its removal leaves of all paths.
use Rattle.std.proofs.Common.{◌≡◌, ◌⊎◌, ℕ, ◌<◌, Bool, true, false, List, [], ◌∷◌, ◌++◌, length, refl, sym, ◌∙◌, ap, subst, inl, inr, Option, Some, None, arith, cond, length-append}
use Rattle.std.specs.Prelude.{is_some, option_and_then}
use Rattle.std.proofs.lemmas.Bool.{false≢true, both_ways}
use Rattle.mc_text.specs.Routes.{Route, same_path}
use Rattle.tree_trait.specs.declared.file_system.FileSystem.{FileSystem}
use Rattle.tree_trait.specs.FileSystem.{lookup, find, node}
use Rattle.tree_trait.specs.Shape.{IsTree, IsRemovable}
use Rattle.tree_trait.specs.Refusals.{is_folder}
use Rattle.tree_trait.specs.Change.{Change, Removes, CallLog, current, with_change}
use Rattle.tree_trait.specs.CrashImages.{says, same_name}
use Rattle.tree_trait.proofs.Kept.{folder_there}
use Rattle.tree_trait.proofs.Finding.{same_name-true, same_name-self}
use Rattle.tree_trait.proofs.Visible.{same_path-self, same_path-true}
use Rattle.laws_crash.proofs.Guarding.{find_same, found_there, said}
use Rattle.laws_crash.proofs.Leading.{current_more}
use Rattle.laws_crash.proofs.Tops.{under_removed, none_below}
use Rattle.laws_sessions.specs.Doubt.{way_waits}
use Rattle.laws_sessions.proofs.Quiet.{folder_same, kind_same}
use Rattle.laws_sessions.proofs.Resting.{IsSureFolder, folder_at, folder_at_of, stands_at, sure_still}

pub some_none : {A : Type 0} (x : ℕ) → (let o : Option ℕ = Some x in o) ≡ None → A
some_none x h = absurd (let e : ⊥ = cc in e)

pub some_is : (x y : ℕ) → (let o : Option ℕ = Some x in o) ≡ Some y → y ≡ x
some_is x y h = cc

pub off_itself : (p q : Route) → p ≡ q → same_path p q ≡ false → ⊥
off_itself p q e off = both_ways _ off (subst (λ r. same_path r q ≡ true) (sym e) (same_path-self q))

pub said_one : (b : Bool) (to : Option ℕ) → is_some (let o : Option (Option ℕ) = cond b (Some to) None in o) ≡ true → b ≡ true
said_one true to h = refl
said_one false to h = absurd (false≢true h)

-- A thing that holds nothing stands under a name: a file, or an empty folder.
pub record IsHollow (s : FileSystem) (path : Route) : Type 0 where
  pub up : Route
  pub name : List ℕ
  pub f : ℕ
  pub i : ℕ
  pub path_is : path ≡ name ∷ up
  pub folder : find s up ≡ Some f
  pub leads : lookup s.names f name ≡ Some i
  pub empty : (m : List ℕ) → lookup s.names i m ≡ None

-- what is no folder holds no names
pub holds_none : (s : FileSystem) → IsTree s → (i : ℕ) → is_folder (node s i) ≡ false → (m : List ℕ) → lookup s.names i m ≡ None
holds_none s tree i bare m = by (lookup s.names i m) refl
  where
    by : (o : Option ℕ) → lookup s.names i m ≡ o → lookup s.names i m ≡ None
    by None is = is
    by (Some j) is = absurd (both_ways _ bare (tree.in_folders i m j is))

abbrev pub hollow_file : (s : FileSystem) (path : Route) → IsTree s → IsRemovable s path → IsHollow s path
hollow_file s path tree r = record {
  up = r.up;
  name = r.name;
  f = r.f;
  i = r.i;
  path_is = r.path_is;
  folder = r.folder;
  leads = r.leads;
  empty = holds_none s tree r.i r.no_folder;
}

-- below it nothing stands
pub none_below_hollow : (s : FileSystem) (top : Route) (i : ℕ) → find s top ≡ Some i → ((m : List ℕ) → lookup s.names i m ≡ None) → (name : List ℕ) (rest : Route) → find s (name ∷ rest ++ top) ≡ None
none_below_hollow s top i at empty name [] = ap (option_and_then (λ f. lookup s.names f name)) at ∙ empty name
none_below_hollow s top i at empty name (more ∷ rest) = ap (option_and_then (λ f. lookup s.names f name)) (none_below_hollow s top i at empty more rest)

-- below what is no folder nothing stands
pub none_below_file : (s : FileSystem) → IsTree s → (top : Route) (i : ℕ) → find s top ≡ Some i → is_folder (node s i) ≡ false → (name : List ℕ) (rest : Route) → find s (name ∷ rest ++ top) ≡ None
none_below_file s tree top i at bare name rest = none_below_hollow s top i at (holds_none s tree i bare) name rest

-- Once it is removed nothing stands there, and all other paths lead where they led.
module _ (log : CallLog) (tree : IsTree (current log)) (path : Route) (r : IsHollow (current log) path) (k : ℕ) where
  abbrev removes : Change
  removes = Removes r.f r.name k

  abbrev now : CallLog
  now = with_change log removes

  removed_at : find (current log) (r.name ∷ r.up) ≡ Some r.i
  removed_at = ap (option_and_then (λ g. lookup (current log).names g r.name)) r.folder ∙ r.leads

  no_longer : (rest : Route) → r.up ≡ rest ++ r.name ∷ r.up → ⊥
  no_longer rest e = let l = ap (λ (q : Route). length q) e in let n = length-append rest (r.name ∷ r.up) in absurd (omega (arith, l, n))

  pub folder_stands : find (current now) r.up ≡ Some r.f
  folder_stands = elim (find_same log removes r.up) [
    | inl same ↦ same ∙ r.folder
    | inr under ↦ let u = under_removed log tree r.up r.f r.folder r.name k r.up under in absurd (no_longer u.0 u.1)
  ]

  pub name_gone : lookup (current now).names r.f r.name ≡ None
  name_gone = said log removes r.f r.name None (ap (λ (b : Bool). let o : Option (Option ℕ) = cond b (Some None) None in o) (same_name-self r.f r.name))

  gone_at : find (current now) (r.name ∷ r.up) ≡ None
  gone_at = ap (option_and_then (λ g. lookup (current now).names g r.name)) folder_stands ∙ name_gone

  pub path_gone : find (current now) path ≡ None
  path_gone = ap (find (current now)) r.path_is ∙ gone_at

  -- a path leads where it led, or nowhere
  pub found_or_gone : (q : Route) → (find (current now) q ≡ find (current log) q) ⊎ (find (current now) q ≡ None)
  found_or_gone q = elim (find_same log removes q) [
    | inl same ↦ inl same
    | inr under ↦
        let u = under_removed log tree r.up r.f r.folder r.name k q under in
        inr (ap (find (current now)) u.1 ∙ none_below now u.0 (r.name ∷ r.up) gone_at)
  ]

  pub found_elsewhere : (p : Route) → same_path p path ≡ false → find (current now) p ≡ find (current log) p
  found_elsewhere p off = elim (find_same log removes p) [
    | inl same ↦ same
    | inr under ↦ let u = under_removed log tree r.up r.f r.folder r.name k p under in below u.0 u.1
  ]
    where
      below : (rest : Route) → p ≡ rest ++ r.name ∷ r.up → find (current now) p ≡ find (current log) p
      below [] e = absurd (off_itself p path (e ∙ sym r.path_is) off)
      below (name ∷ rest) e =
          ap (find (current now)) e ∙ none_below now (name ∷ rest) (r.name ∷ r.up) gone_at
          ∙ sym (ap (find (current log)) e ∙ none_below_hollow (current log) (r.name ∷ r.up) r.i removed_at r.empty name rest)

  pub folder_before : (i : ℕ) → is_folder (node (current now) i) ≡ true → is_folder (node (current log) i) ≡ true
  folder_before i is =
      sym (kind_same log removes i (subst (λ n. i < n) (ap (λ (s : FileSystem). length s.nodes) (current_more log removes)) (folder_there (current now).nodes i is))) ∙ is

  -- the change is of this name
  pub says_name : (g : ℕ) (m : List ℕ) → is_some (says removes 0 g m) ≡ true → (r.f ≡ g) × (r.name ≡ m)
  says_name g m h = same_name-true r.f g r.name m (said_one (same_name r.f r.name g m) None h)

  pub leads_as_before : (q : Route) (g h : ℕ) → find (current log) q ≡ Some g → is_folder (node (current log) g) ≡ true → find (current now) q ≡ Some h → h ≡ g
  leads_as_before q g h before holds then = elim (found_or_gone q) [
    | inl same ↦ let e : (let o : Option ℕ = Some g in o) ≡ Some h = sym before ∙ (sym same ∙ then) in cc
    | inr gone ↦ some_none h (sym then ∙ gone)
  ]

  -- a folder that isn't in doubt and stays is in none then
  pub way_sure_still : (p : Route) (j : ℕ) → find (current log) p ≡ Some j → is_folder (node (current log) j) ≡ true → find (current now) p ≡ Some j → way_waits log p ≡ false → way_waits now p ≡ false
  way_sure_still p j at folder stays sure = sure_still log removes tree leads_as_before
      (λ g m i said before then holds.
      let same = says_name g m said in
      some_none i (sym then ∙ (ap (λ h. lookup (current now).names h m) (sym same.0) ∙ (ap (lookup (current now).names r.f) (sym same.1) ∙ name_gone))))
      p j at folder stays sure

  pub sure_elsewhere : (p : Route) → same_path p path ≡ false → IsSureFolder log p → IsSureFolder now p
  sure_elsewhere p off firm =
      let there = stands_at (current log) p firm.stands in
      record {
        stands = folder_same log removes p (found_elsewhere p off) (λ i is. found_there (current log) tree p i is) ∙ firm.stands;
        sure = way_sure_still p there.i there.at there.folder (found_elsewhere p off ∙ there.at) firm.sure;
      }

  -- a folder that stands then is another one, and stood before
  pub folder_stood : (p : Route) → folder_at (current now) p ≡ true → (same_path p path ≡ false) × (folder_at (current log) p ≡ true)
  folder_stood p stands = by (same_path p path) refl
    where
      by : (b : Bool) → same_path p path ≡ b → (same_path p path ≡ false) × (folder_at (current log) p ≡ true)
      by true same = let there = stands_at (current now) p stands in some_none there.i (sym there.at ∙ (ap (find (current now)) (same_path-true p path same) ∙ path_gone))
      by false off = let there = stands_at (current now) p stands in (off, folder_at_of (current log) p there.i (sym (found_elsewhere p off) ∙ there.at) (folder_before there.i there.folder))
