-- What is read of a file is what opening says of it.
use Rattle.std.proofs.Common.{◌≡◌, ℕ, ◌<◌, ◌≤◌, List, length, take, Option, Result, Ok, Err, IfErr, IfOk, refl, sym, ap, ◌∙◌, arith, subst}
use Rattle.std.proofs.lemmas.List.{length-take, take_all, take_min}
use Rattle.mc_text.specs.Routes.{Route}
use Rattle.tree_trait.specs.declared.calls.TreeError.{TreeError}
use Rattle.tree_trait.specs.declared.calls.TreeError.TheVariants as tree
use Rattle.tree_trait.specs.Calls.{ReadAt}
use Rattle.tree_trait.specs.Change.{CallLog}
use Rattle.tree_trait.specs.Answers.{IfKnown, Reads}
use Rattle.mc_edit.specs.Edits.{largest_text, begun_text}
use Rattle.mc_edit.proofs.ChangeLemmas.{largest_is}
use Rattle.ui_editor.specs.EditorScreens.{EditorScreen, opened}
use Rattle.ui_editor.specs.EditorOpenings.{IsBeginning, IsFront, IsOpened, IsRefused, IsUnread, bytes_at}

-- a refusal of a read is the one that the tree gives
pub read_refused : {A : Type 0} (log : CallLog) (path : Route) (e : TreeError) (P : A → Type 0)
    → Reads {A = A} log (ReadAt path 0 0) (Err e) P → IsUnread log path e
read_refused log path tree.Missing P h = h
read_refused log path tree.NotFolder P h = h
read_refused log path tree.Denied P h = h
read_refused log path tree.Exists P h = h
read_refused log path tree.IsFolder P h = h
read_refused log path tree.NotEmpty P h = h
read_refused log path tree.IntoItself P h = h
read_refused log path tree.Mounted P h = h
read_refused log path tree.CrossMount P h = h
read_refused log path tree.NoSpace P h = h
read_refused log path tree.Special P h = h
read_refused log path tree.Fault P h = tt
read_refused log path tree.Memory P h = tt

-- what came of a file with so much room are its first bytes
front_is : (room : ℕ) (bytes read : List ℕ) → IsBeginning bytes room read → read ≡ take room bytes
front_is room bytes read came = came.0 ∙ ap (λ n. take n bytes) came.1 ∙ take_min room bytes

module _ {A : Type 0} (items : A → List ℕ) (path : Route) (most : ℕ) (contents after : Option CallLog) where
  pub front_of : (r : Result A TreeError) → after ≡ contents
      → IfKnown after (λ log. Reads log (ReadAt path 0 0) r (λ x. IsBeginning (bytes_at log path) most (items x)))
      → IfOk r (λ x. IsFront contents path most (items x))
  front_of (Ok x) same answer = λ log known.
      let read = answer log (same ∙ known) in (read.0, front_is most (bytes_at log path) (items x) read.1)
  front_of (Err e) same answer = tt

  pub refused_of : (r : Result A TreeError) → after ≡ contents
      → IfKnown after (λ log. Reads log (ReadAt path 0 0) r (λ x. IsBeginning (bytes_at log path) most (items x)))
      → IfErr r (IsRefused contents path)
  refused_of (Ok x) same answer = tt
  refused_of (Err e) same answer = λ log known.
      read_refused log path e (λ x. IsBeginning (bytes_at log path) most (items x)) (answer log (same ∙ known))

-- where fewer bytes came than there was room for, these are all
all_of : (room : ℕ) (bytes read : List ℕ) → read ≡ take room bytes → length read < room → read ≡ bytes
all_of room bytes read is few = is ∙ take_all room bytes (omega (arith, few, ap length is, length-take room bytes))

-- a text that has all bytes of the file
pub opened_is : (contents : Option CallLog) (path : Route) (lines : ℕ) (bytes : List ℕ) (screen : EditorScreen) → screen ≡ opened lines path (begun_text bytes)
    → IsFront contents path 16777217 bytes → length bytes ≤ largest_text → IsOpened contents path lines screen
opened_is contents path lines bytes screen is front small =
    let few : length bytes < 16777217 = omega (arith, small, largest_is) in
    subst (IsOpened contents path lines) (sym is) (record {
      begins = refl;
      small = small;
      readable = λ log known. (front log known).0;
      whole = λ log known. all_of 16777217 (bytes_at log path) bytes (front log known).1 few;
    })

-- a file of which more bytes came than a text may have is too large
pub large_is : (bytes read : List ℕ) → read ≡ take 16777217 bytes → largest_text < length read → largest_text < length bytes
large_is bytes read is large = omega (arith, large, ap length is, length-take 16777217 bytes)
