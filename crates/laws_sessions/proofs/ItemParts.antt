-- A part that was made stands beside the target that is met next.
use Rattle.std.proofs.Common.{◌≡◌, ◌⊎◌, ℕ, false, List, [], ◌∷◌, refl, sym, ◌∙◌, ap, subst, inl, inr, None}
use Rattle.mc_text.specs.Routes.{Route}
use Rattle.tree_trait.specs.declared.file_system.Node.{Node}
use Rattle.tree_trait.specs.Change.{Makes, CallLog, current, found_node, with_change}
use Rattle.tree_trait.specs.CrashImages.{Among}
use Rattle.tree_trait.specs.FileSystem.{find}
use Rattle.tree_trait.specs.Refusals.{is_folder}
use Rattle.tree_trait.specs.Shape.{IsTree}
use Rattle.job_reports.proofs.PermittedCalls.{IsMaking}
use Rattle.copy_folders.specs.Levels.{Levels, coming, passed_levels}
use Rattle.laws_sessions.proofs.AtWork.{HasItem}
use Rattle.laws_sessions.proofs.PartMade.{made_bare, made_beside, made_is, made_leads}
use Rattle.laws_sessions.proofs.Untouched.{IsBare}
use Rattle.laws_sessions.proofs.TreeKnows.{fewer_coming}

module _ (name : List ℕ) (l : Levels) where
  abbrev up : Route
  up = l.inner.copy.target

  -- the names that are met once the next one is done with
  abbrev rest : List (List ℕ)
  rest = (let p : Levels = passed_levels false l in coming name p.inner.names p.around)

  -- the target is that of the next name, and no other has its name
  pub record IsMetNext (target : Route) : Type 0 where
    pub n : List ℕ
    pub is : target ≡ n ∷ up
    pub once : Among rest n → ⊥

  pub has_made : (log now : CallLog) (k : List ℕ) (made : Node) (target : Route) → IsTree (current log) → IsMaking (current log) k up → now ≡ with_change log (Makes (found_node (current log) up) k made) → is_folder made ≡ false
      → (Among (coming name l.inner.names l.around) k → ⊥) → IsMetNext target → (k ∷ up ≡ target → ⊥) → IsBare (current log) target → (find (current log) target ≡ None) ⊎ (l.around ≡ []) → HasItem now name l (k ∷ up) target
  has_made log now k made target tree making is bare off met apart bare_there free =
      let differs : k ≡ met.n → ⊥ = λ same. apart (ap (λ m. m ∷ up) same ∙ sym met.is) in
      subst (λ (x : CallLog). HasItem x name l (k ∷ up) target) (sym is) record {
        work = record {
          k = k;
          n = met.n;
          i = _;
          part_is = refl;
          target_is = met.is;
          apart = differs;
          leads = made_leads log tree k up made making;
          file = ap is_folder (made_is log tree k up made making) ∙ bare;
          bare = subst (λ r. IsBare (current (with_change log (Makes (found_node (current log) up) k made))) r) (sym met.is)
              (made_bare log tree k up made making met.n differs (subst (λ r. IsBare (current log) r) met.is bare_there));
          part_off = λ among. off (fewer_coming name l.inner.names (let p : Levels = passed_levels false l in p.inner.names) l.around refl k among);
          target_off = met.once;
        };
        off = off;
        free = elim free [
          | inl none ↦ inl (ap (find (current (with_change log (Makes (found_node (current log) up) k made)))) met.is ∙ (made_beside log tree k up made making met.n differs ∙ (ap (find (current log)) (sym met.is) ∙ none)))
          | inr outermost ↦ inr outermost
        ];
      }
