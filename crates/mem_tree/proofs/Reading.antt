-- What a reading call tells of what stands it tells of the tree; and how it is counted.
use Rattle.std.proofs.Common.{◌≡◌, ℕ, ◌≤◌, Bool, true, false, List, [], ◌∷◌, length, refl, sym, ◌∙◌, ap, subst, Some, None, Result, Ok, Err}
use Rattle.std.specs.Prelude.{IfOk, IsSome, unwrap_or, is_none, not, ◌^◌}
use Rattle.std.proofs.lemmas.Bool.{false≢true, true≢false}
use Rattle.mc_text.specs.Routes.{Route}
use Rattle.tree_trait.specs.declared.file_system.FileSystem.{FileSystem}
use Rattle.tree_trait.specs.declared.file_system.Node.{Node}
use Rattle.tree_trait.specs.declared.calls.Meta.{Meta}
use Rattle.tree_trait.specs.declared.calls.Children.{Children}
use Rattle.tree_trait.specs.declared.calls.TreeError.{TreeError}
use Rattle.tree_trait.specs.declared.calls.TreeError.TheVariants.{Missing, NotFolder, Denied, Exists, IsFolder, NotEmpty, IntoItself, Mounted, CrossMount, NoSpace, Special, Fault, Memory}
use Rattle.tree_trait.specs.Calls.{Call, ReadLink}
use Rattle.tree_trait.specs.FileSystem.{lookup, node}
use Rattle.tree_trait.specs.Refusals.{Place, walk, first_of, thing, missing, is_link, refusal_of}
use Rattle.tree_trait.specs.Change.{found_node}
use Rattle.tree_trait.specs.Answers.{Reads, IsMeta, IsListing, IsRead, IsInRange, IsCause, mount_number, one_more}
use Rattle.tree_trait.proofs.Causes.{Reads-err, refusal_of-cause, err_same}
use Rattle.tree_trait.proofs.Walking.{passed_walk, check_passes, some_there, walk-find}
use Rattle.tree_rules.specs.Told.{IsTold}
use Rattle.mem_tree.specs.declared.record.Record.{Record}
use Rattle.mem_tree.specs.Records.{changes_by, after}
use Rattle.mem_tree.specs.Live.{standing}
use Rattle.mem_tree.specs.Sound.{FitsNode, IsSound, IsLink}
use Rattle.mem_tree.specs.Held.{Held, log_of, IsKept}
use Rattle.mem_tree.specs.Counted.{failed_if, is_due, IsCounted}
use Rattle.mem_tree.proofs.Leading.{lookup_leading}
use Rattle.mem_tree.proofs.Agree.{refusal_standing, found_standing, mount_standing}
use Rattle.mem_tree.proofs.Sounds.{sound_after}

module _ (s : FileSystem) (old : List Record) (stands : FileSystem) (kept : IsKept s old stands) where
  pub sound_now : IsSound (after s old)
  sound_now = sound_after s (changes_by old) kept.sound kept.fits

  pub node_now : (i : ℕ) → node stands i ≡ node (after s old) i
  node_now i = ap (λ (t : FileSystem). node t i) kept.stands_is

  pub found_now : (path : Route) → found_node stands path ≡ found_node (after s old) path
  found_now path = ap (λ (t : FileSystem). found_node t path) kept.stands_is ∙ found_standing (after s old) path

  pub bytes_now : (path : Route) → (node stands (found_node stands path)).bytes ≡ (node (after s old) (found_node (after s old) path)).bytes
  bytes_now path = ap (λ i. (node stands i).bytes) (found_now path) ∙ ap (λ (n : Node). n.bytes) (node_now (found_node (after s old) path))

  pub few_mounts : length stands.mounts ≤ 1000
  few_mounts = subst (λ (t : FileSystem). length t.mounts ≤ 1000) (sym kept.stands_is) sound_now.mounts

  pub link_now : (i : ℕ) → is_link (node stands i) ≡ true → IsLink (node stands i).bytes
  link_now i h = (subst (λ (n : Node). FitsNode n) (sym (node_now i)) (sound_now.nodes i)).link h

  pub meta_now : (path : Route) (meta : Meta) → IsMeta stands path meta → IsMeta (after s old) path meta
  meta_now path meta h = subst (λ (t : FileSystem). IsMeta t path meta → IsMeta (after s old) path meta) (sym kept.stands_is) go h
    where
      t : FileSystem
      t = after s old

      go : IsMeta (standing (after s old)) path meta → IsMeta (after s old) path meta
      go m = record {
        kind = m.kind ∙ ap (λ i. (node (after s old) i).kind) (found_standing (after s old) path);
        size = m.size ∙ ap (λ i. length (node (after s old) i).bytes) (found_standing (after s old) path);
        mode = m.mode ∙ ap (λ i. (node (after s old) i).mode) (found_standing (after s old) path);
        mtime = m.mtime ∙ ap (λ i. (node (after s old) i).mtime) (found_standing (after s old) path);
        mount = m.mount ∙ ap (mount_number (after s old).mounts) (mount_standing (after s old) path);
      }

  pub meta_fits : (path : Route) (meta : Meta) → IsMeta stands path meta → IsInRange meta
  meta_fits path meta h =
      let fits : FitsNode (node stands (found_node stands path)) = subst (λ (n : Node). FitsNode n) (sym (node_now (found_node stands path))) (sound_now.nodes (found_node stands path)) in
      record { mode = subst (λ m. m ≤ 0o7777) (sym h.mode) fits.mode; size = subst (λ z. z ≤ 2 ^ 63) (sym h.size) fits.size }

  pub listing_now : (path : Route) (children : Children) → IsListing stands (found_node stands path) children → IsListing (after s old) (found_node (after s old) path) children
  listing_now path children h = subst (λ (t : FileSystem). IsListing t (found_node t path) children → IsListing (after s old) (found_node (after s old) path) children) (sym kept.stands_is) go h
    where
      go : IsListing (standing (after s old)) (found_node (standing (after s old)) path) children → IsListing (after s old) (found_node (after s old) path) children
      go m = subst (λ f. IsListing (after s old) f children) (found_standing (after s old) path) (record {
        names = λ name. (
          λ among. subst (λ o. IsSome o) (lookup_leading (after s old).names (found_node (standing (after s old)) path) name) ((m.names name).0 among),
          λ some. (m.names name).1 (subst (λ o. IsSome o) (sym (lookup_leading (after s old).names (found_node (standing (after s old)) path) name)) some),
        );
        unnamed = m.unnamed;
      })

  refusal_now : (call : Call) → refusal_of stands call ≡ refusal_of (after s old) call
  refusal_now call = ap (λ t. refusal_of t call) kept.stands_is ∙ refusal_standing (after s old) call

  pub Reads-told : (A : Type 0) (call : Call) (due : Bool) (read result : Result A TreeError) (P Q : A → Type 0) → ((x : A) → P x → Q x)
      → IsTold stands call read P → result ≡ failed_if due read → Reads (log_of s old) call result Q
  Reads-told A call due read result P Q turn told is = subst (λ r. Reads (log_of s old) call r Q) (sym is) (go due read told)
    where
      refused : (e : TreeError) → refusal_of stands call ≡ Some e → Reads {A = A} (log_of s old) call (Err e) Q
      refused e h = Reads-err A (log_of s old) call Q e (sym (refusal_now call) ∙ h)

      go : (due : Bool) (read : Result A TreeError) → IsTold stands call read P → Reads (log_of s old) call (failed_if due read) Q
      go true (Ok x) h = sym (refusal_now call) ∙ h.0
      go false (Ok x) h = (sym (refusal_now call) ∙ h.0, turn x h.1)
      go due (Err Memory) h = tt
      go due (Err e) h = refused e h

pub ok_failed : (A : Type 0) (due : Bool) (read result : Result A TreeError) (P : A → Type 0) → IfOk read P → result ≡ failed_if due read → IfOk result P
ok_failed A due read result P h is = subst (λ r. IfOk r P) (sym is) (go due read h)
  where
    go : (due : Bool) (read : Result A TreeError) → IfOk read P → IfOk (failed_if due read) P
    go true (Ok x) h = tt
    go false (Ok x) h = h
    go due (Err e) h = tt

pub ok_told : (A : Type 0) (s : FileSystem) (call : Call) (read : Result A TreeError) (P Q : A → Type 0) → ((x : A) → P x → Q x) → IsTold s call read P → IfOk read Q
ok_told A s call (Ok x) P Q turn h = turn x h.1
ok_told A s call (Err e) P Q turn h = tt

pub told_no_fault : (A : Type 0) (s : FileSystem) (call : Call) (read : Result A TreeError) (P : A → Type 0) → IsTold s call read P → read ≡ Err Fault → ⊥
told_no_fault A s call read P h is = refusal_of-cause s call Fault (subst (λ r. IsTold s call r P) is h)

pub counted_read : (A : Type 0) (old new before : Held) (due : Bool) (read result : Result A TreeError) → before ≡ old → result ≡ failed_if due read → (read ≡ Err Fault → ⊥)
    → due ≡ is_due before.fails before.called → new.called ≡ one_more before.called → new.fails ≡ before.fails → new.time ≡ before.time
    → IsCounted old new result
counted_read A old new before due read result same is calm was called fails time =
    subst (λ h. IsCounted h new result) same (record {
      called = called;
      fails = fails;
      time = time;
      due = λ h. sym was ∙ went due read calm (sym is ∙ h);
      done = λ x h. sym was ∙ stayed due read x (sym is ∙ h);
    })
  where
    ok_err : (x : A) (e : TreeError) → (let r : Result A TreeError = Ok x in r) ≡ Err e → ⊥
    ok_err x e h = cc

    went : (due : Bool) (read : Result A TreeError) → (read ≡ Err Fault → ⊥) → failed_if due read ≡ Err Fault → due ≡ true
    went true read calm h = refl
    went false (Ok x) calm h = absurd (ok_err x Fault h)
    went false (Err e) calm h = absurd (calm h)

    err_ok : (x : A) (e : TreeError) → (let r : Result A TreeError = Err e in r) ≡ Ok x → ⊥
    err_ok x e h = cc

    stayed : (due : Bool) (read : Result A TreeError) (x : A) → failed_if due read ≡ Ok x → due ≡ false
    stayed false read x h = refl
    stayed true (Ok y) x h = absurd (err_ok x Fault h)
    stayed true (Err e) x h = absurd (err_ok x e h)

-- what `read_link` reads is a link
pub link_found : (s : FileSystem) (path : Route) → refusal_of s (ReadLink path) ≡ None → is_link (node s (found_node s path)) ≡ true
link_found s path h =
    let w = passed_walk (walk s path) (λ p. first_of (missing p ∷ (not (is_link (thing s p)), Special) ∷ [])) h in
    let a = check_passes (is_none w.0.there) Missing _ w.2 in
    let b = check_passes (not (is_link (thing s w.0))) Special _ a.1 in
    let i = some_there w.0.there a.0 in
    let same : thing s w.0 ≡ node s (found_node s path) =
    ap (λ o. node s (unwrap_or o (length s.nodes))) i.1 ∙ sym (ap (λ o. node s (unwrap_or o 0)) (walk-find s path w.0 w.1 ∙ i.1)) in
    subst (λ (n : Node). is_link n ≡ true) same (not_false (is_link (thing s w.0)) b.0)
  where
    not_false : (b : Bool) → not b ≡ false → b ≡ true
    not_false true h = refl
    not_false false h = absurd (true≢false h)
