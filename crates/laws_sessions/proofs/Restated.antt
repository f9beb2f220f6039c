-- What a history says of folders that are on the disk, and of calm paths, may be any that are so.
use Rattle.std.specs.Prelude.{◌≡◌, Bool, true, List}
use Rattle.mc_text.specs.Routes.{Route}
use Rattle.tree_trait.specs.Change.{CallLog}
use Rattle.laws_crash.specs.Guarded.{Marks}
use Rattle.laws_sessions.proofs.Knowing.{HasMode, IsCalmPath, IsKept, HistoryFacts}
use Rattle.laws_sessions.proofs.Resting.{IsSureFolder}

abbrev pub restated : HistoryFacts → (Route → Bool) → (Route → Bool) → HistoryFacts
restated told folders calm = record told { folders = folders; calm = calm }

module _ (told : HistoryFacts) (folders calm : Route → Bool) where
  abbrev other : HistoryFacts
  other = restated told folders calm

  pub restated_kept : (dirty : List Route) (marks : Marks) (log : CallLog) → IsKept told dirty marks log → ((p : Route) → folders p ≡ true → IsSureFolder log p) → ((p : Route) → calm p ≡ true → IsCalmPath marks log p)
      → IsKept other dirty marks log
  restated_kept dirty marks log kept firm quiet =
      let k = kept.known in
      record {
        known = record {
          guarded = k.guarded;
          files = k.files;
          moded = λ i before is unclean.
              let h : HasMode told dirty marks log i before = k.moded i before is unclean in
              record { path = h.path; leads = h.leads; out = h.out; listed = h.listed; told = h.told; shown = h.shown };
          calm = quiet;
          folders = k.folders;
          aside = k.aside;
          left = k.left;
          was_there = k.was_there;
          was_shown = k.was_shown;
          shows = k.shows;
          part = k.part;
          tracked = k.tracked;
          joint = k.joint;
          doubts = k.doubts;
          written = k.written;
          stand = firm;
        };
        aside = kept.aside;
        was = kept.was;
        modes = kept.modes;
        roams = kept.roams;
      }
