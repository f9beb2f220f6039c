-- What a key was refused while things are sought has its cause in the tree, and tells of a fault only where the tree's count has risen.
use Rattle.std.proofs.Common.{◌≡◌, ℕ, true, false, List, [], ◌∷◌, refl, sym, ◌∙◌, ap, subst, arith, Option, Result, Ok, Err}
use Rattle.std.specs.Prelude.{◌≤◌, IfOk}
use Rattle.std.proofs.lemmas.Bool.{false≢true}
use Rattle.mc_text.specs.declared.error.NoMemory.{NoMemory}
use Rattle.tree_trait.specs.Change.{CallLog}
use Rattle.tree_trait.specs.Answers.{HasRisen}
use Rattle.resolving.specs.declared.error.ResolveError.TheVariants as resolve
use Rattle.key_screen.specs.declared.keys.Key.{Key}
use Rattle.job_reports.proofs.Runs.{risen_before}
use Rattle.session_entries.specs.declared.refusal.Refusal.{Refusal}
use Rattle.session_entries.specs.Refusals.{AreRefused}
use Rattle.ui_plans.specs.Refused.{has_fault}
use Rattle.ui_plans.specs.Reading.{ReadsTree}
use Rattle.ui_find.specs.declared.act.FindAct.{FindAct}
use Rattle.ui_find.specs.declared.act.FindAct.TheVariants.{Refused}
use Rattle.ui_find.specs.declared.act.FindRefusal.{FindRefusal}
use Rattle.ui_find.specs.declared.act.FindRefusal.TheVariants.{NoWay, NoPattern}
use Rattle.ui_find.specs.FindScreens.{FindScreen, KeyLeads}
use Rattle.ui_find.specs.FindScreens as find
use Rattle.mc_ui.specs.Findings.{find_refusal}
use Rattle.mc_ui.specs.declared.asks.KeyAct.{KeyAct}
use Rattle.mc_ui.proofs.FindFollowing.{told_act}
use Rattle.mc_ui.proofs.FindLemmas.{Tells, key_tells}

find_fault : (why : FindRefusal) (f0 f1 : ℕ) → (Refused why ≡ Refused (NoWay resolve.Fault) → HasRisen f0 f1) → has_fault (find_refusal why ∷ []) ≡ true
    → HasRisen f0 f1
find_fault (NoWay resolve.Fault) f0 f1 risen h = risen refl
find_fault (NoWay (resolve.Tree path e)) f0 f1 risen h = absurd (false≢true h)
find_fault (NoWay resolve.TooManyLinks) f0 f1 risen h = absurd (false≢true h)
find_fault (NoWay resolve.TooLong) f0 f1 risen h = absurd (false≢true h)
find_fault (NoWay resolve.BadName) f0 f1 risen h = absurd (false≢true h)
find_fault (NoWay resolve.Memory) f0 f1 risen h = absurd (false≢true h)
find_fault NoPattern f0 f1 risen h = absurd (false≢true h)

-- a key that is refused, as it is told
pub refused_reads : (contents after : Option CallLog) (key : Key) (before page : FindScreen) (act : FindAct) (why : FindRefusal) (refusal : Refusal) (f0 f1 : ℕ)
    (told : Result KeyAct NoMemory) → act ≡ Refused why → refusal ≡ find_refusal why → IfOk told (λ deed. deed ≡ told_act refusal) → KeyLeads contents key act before page
    → find.ReadsTree {E = NoMemory} (Ok act) contents after f0 f1 → ReadsTree {A = KeyAct} {E = NoMemory} (λ deed. deed.refusals) told contents after f0 f1
refused_reads contents after key before page act why refusal f0 f1 (Err e) is refusal_is deed_is leads reads =
    record { same = reads.same; later = reads.later; called = λ log known. tt; fault = tt }
refused_reads contents after key before page act why refusal f0 f1 (Ok deed) is refusal_is deed_is leads reads =
    let tells = subst (λ a. Tells contents before page a) is (key_tells contents before page key act leads) in
    let refusals_are = ap (λ (d : KeyAct). d.refusals) deed_is ∙ ap (λ r. r ∷ []) refusal_is in
    record {
      same = reads.same;
      later = reads.later;
      called = λ log known. subst (λ told. AreRefused log told) (sym refusals_are) (tells.1 log known);
      fault = λ h. find_fault why f0 f1 (λ fault. reads.fault (is ∙ fault)) (subst (λ told. has_fault told ≡ true) refusals_are h);
    }

-- a call that reads behind one that was refused nothing
pub reads_behind : {D : Type 0} (refusals : D → List Refusal) (contents between after : Option CallLog) (f0 f1 f2 : ℕ) (told : Result D NoMemory)
    → between ≡ contents → f0 ≤ f1 → ReadsTree {A = D} {E = NoMemory} refusals told between after f1 f2
    → ReadsTree {A = D} {E = NoMemory} refusals told contents after f0 f2
reads_behind refusals contents between after f0 f1 f2 (Err e) same later reads = record {
  same = reads.same ∙ same;
  later = (let l = reads.later in omega arith);
  called = λ log known. tt;
  fault = tt;
}
reads_behind refusals contents between after f0 f1 f2 (Ok deed) same later reads = record {
  same = reads.same ∙ same;
  later = (let l = reads.later in omega arith);
  called = λ log known. reads.called log (same ∙ known);
  fault = λ h. risen_before f0 f1 f2 later (reads.fault h);
}
