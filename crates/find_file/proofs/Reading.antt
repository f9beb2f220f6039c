-- A file that is read piece by piece: what is kept, the piece, and what is still to be read.
use Rattle.std.proofs.Common.{◌≡◌, ℕ, ◌+◌, ◌-◌, ◌<◌, ◌≤◌, true, false, List, ◌++◌, length, take, drop, sym, ap, subst, ◌∙◌, arith, append_assoc, length-drop}
use Rattle.std.specs.Prelude.{Option, Some, None, MatchOption, Err}
use Rattle.std.proofs.lemmas.List.{append-nil, take-append-drop, drop-drop, drop_all, drop-take, take-take, length-take}
use Rattle.mc_text.specs.Routes.{Route}
use Rattle.tree_trait.specs.declared.calls.TreeError.{TreeError}
use Rattle.tree_trait.specs.declared.calls.TreeError.TheVariants.{Missing, NotFolder, Denied, Exists, IsFolder, NotEmpty, IntoItself, Mounted, CrossMount, NoSpace, Special, Fault, Memory}
use Rattle.tree_trait.specs.Calls.{ReadAt}
use Rattle.tree_trait.specs.Change.{CallLog}
use Rattle.tree_trait.specs.Answers.{Reads}
use Rattle.find_file.specs.FoundList.{holds}
use Rattle.find_file.proofs.Places.{holds-short, holds-more, holds-kept}

module _ (content file : List ℕ) (offset : ℕ) (some : 1 ≤ length content) (kept : List ℕ) (left : holds content file ≡ holds content (kept ++ drop offset file)) where
  -- at the end
  pub read-end : length file ≤ offset → length kept < length content → false ≡ holds content file
  read-end past short =
      sym (left ∙ (ap (λ l. holds content (kept ++ l)) (drop_all offset file past) ∙ (ap (holds content) (append-nil kept) ∙ holds-short content some kept short)))

  module _ (piece stretch : List ℕ) (is : piece ≡ take (length piece) (drop offset file)) (joined : stretch ≡ kept ++ piece) where
    seam : drop offset file ≡ piece ++ drop (offset + length piece) file
    seam =
        sym (take-append-drop (length piece) (drop offset file))
        ∙ (ap (λ l. l ++ drop (length piece) (drop offset file)) (sym is)
        ∙ ap (λ l. piece ++ l) (drop-drop (length piece) offset file))

    whole : holds content file ≡ holds content (stretch ++ drop (offset + length piece) file)
    whole =
        left
        ∙ (ap (λ l. holds content (kept ++ l)) seam
        ∙ (sym (ap (holds content) (append_assoc kept piece (drop (offset + length piece) file)))
        ∙ ap (λ l. holds content (l ++ drop (offset + length piece) file)) (sym joined)))

    pub read-found : holds content stretch ≡ true → true ≡ holds content file
    read-found stands = sym (whole ∙ holds-more content some stretch (drop (offset + length piece) file) stands)

    pub read-on : (width count : ℕ) (last : List ℕ) → width ≡ length content → count ≡ length piece → holds content stretch ≡ false
        → last ≡ drop (length stretch - (width - 1)) stretch → holds content file ≡ holds content (last ++ drop (offset + count) file)
    read-on width count last wide counted nowhere kept_is =
        whole
        ∙ (holds-kept content some stretch (drop (offset + length piece) file) nowhere
        ∙ (ap (λ w. holds content (drop (length stretch - (w - 1)) stretch ++ drop (offset + length piece) file)) (sym wide)
        ∙ (ap (λ l. holds content (l ++ drop (offset + length piece) file)) (sym kept_is)
        ∙ ap (λ n. holds content (last ++ drop (offset + n) file)) (sym counted))))

pub last-short : (stretch last : List ℕ) (width : ℕ) → 1 ≤ width → last ≡ drop (length stretch - (width - 1)) stretch → length last < width
last-short stretch last width some is = omega (arith, ap length is, length-drop (length stretch - (width - 1)) stretch)

-- ---- the first bytes of a file

-- what is read of a file before so many bytes is read of these
pub first-piece : (file piece : List ℕ) (size offset : ℕ) → offset ≤ size → length piece ≤ size - offset
    → piece ≡ take (length piece) (drop offset file) → piece ≡ take (length piece) (drop offset (take size file))
first-piece file piece size offset passed few is =
    let whole : size ≡ offset + (size - offset) = omega arith in
    is
    ∙ (sym (take-take (length piece) (size - offset) (drop offset file) few)
    ∙ (sym (ap (take (length piece)) (drop-take offset (size - offset) file))
    ∙ sym (ap (λ n. take (length piece) (drop offset (take n file))) whole)))

-- where the file is at its end, so are these
pub first-end : (file : List ℕ) (size offset : ℕ) → length file ≤ offset → length (take size file) ≤ offset
first-end file size offset past = omega (arith, past, length-take size file)

pub first-all : (file : List ℕ) (size offset : ℕ) → size ≤ offset → length (take size file) ≤ offset
first-all file size offset past = omega (arith, past, length-take size file)

-- ---- what the tree answers

pub at_none : {A : Type 0} (o : Option A) (P : Type 0) (Q : A → Type 0) → o ≡ None → MatchOption o P Q → P
at_none o P Q is h = subst (λ x. MatchOption x P Q) is h

pub at_some : {A : Type 0} (o : Option A) (x : A) (P : Type 0) (Q : A → Type 0) → o ≡ Some x → MatchOption o P Q → Q x
at_some o x P Q is h = subst (λ y. MatchOption y P Q) is h

-- an error says nothing of where was read
pub read-error : (A B : Type 0) (log : CallLog) (path : Route) (offset count : ℕ) (P : A → Type 0) (Q : B → Type 0) (e : TreeError)
    → Reads {A = A} log (ReadAt path offset count) (Err e) P → Reads {A = B} log (ReadAt path 0 0) (Err e) Q
read-error A B log path offset count P Q Fault h = h
read-error A B log path offset count P Q Memory h = tt
read-error A B log path offset count P Q Missing h = h
read-error A B log path offset count P Q NotFolder h = h
read-error A B log path offset count P Q Denied h = h
read-error A B log path offset count P Q Exists h = h
read-error A B log path offset count P Q IsFolder h = h
read-error A B log path offset count P Q NotEmpty h = h
read-error A B log path offset count P Q IntoItself h = h
read-error A B log path offset count P Q Mounted h = h
read-error A B log path offset count P Q CrossMount h = h
read-error A B log path offset count P Q NoSpace h = h
read-error A B log path offset count P Q Special h = h
