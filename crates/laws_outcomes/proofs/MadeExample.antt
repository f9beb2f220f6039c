-- Small sessions in which a folder is made, and a link, so that the premises can be met.
use Rattle.std.proofs.Common.{◌≡◌, ℕ, pos, false, List, [], ◌∷◌, refl, inl, inr}
use Rattle.mc_text.specs.Routes.{Route}
use Rattle.mc_text.specs.declared.kind.Kind.TheVariants as kind
use Rattle.tree_trait.specs.declared.file_system.Node.{Node}
use Rattle.tree_trait.specs.Change.{Makes, CallLog}
use Rattle.job_answers.specs.Decisions.{no_replies}
use Rattle.job_reports.specs.declared.job.Job.{Job}
use Rattle.job_reports.specs.declared.job.Job.TheVariants as plan
use Rattle.job_reports.specs.declared.report.Did.TheVariants.{Made}
use Rattle.job_reports.specs.Jobs.{new_folder_mode}
use Rattle.session_entries.specs.declared.history.Event.TheVariants.{Began, Step}
use Rattle.session_entries.specs.declared.history.Entry.{Entry}
use Rattle.make_job.specs.declared.making.MakingStage.{MakingStage}
use Rattle.make_job.specs.declared.making.MakingStage.TheVariants.{Make, Sync}
use Rattle.make_job.specs.declared.new_thing.NewThing.{NewThing}
use Rattle.make_job.specs.declared.new_thing.NewThing.TheVariants as thing
use Rattle.make_job.specs.Makings.{Making}
use Rattle.copy_move.specs.declared.work.Work.{Work}
use Rattle.copy_move.specs.declared.work.Work.TheVariants as work
use Rattle.copy_move.specs.declared.run.Course.TheVariants.{GoesOn}
use Rattle.copy_move.specs.Jobs.{Running}
use Rattle.laws_sessions.specs.Traces.{IsTraced, Stand, nothing_live}
use Rattle.laws_sessions.proofs.Example.{log}
use Rattle.laws_sessions.proofs.ExampleParts.{entry, own_step, stand}

-- the root holds two files, and nothing under the name 3
abbrev pub new_path : Route
new_path = (3 ∷ []) ∷ []

abbrev pub text : List ℕ
text = 120 ∷ []

abbrev making : NewThing → MakingStage → Work
making new stage = work.Make (let m : Making = record { path = new_path; thing = new; stage = stage } in m)

abbrev job : NewThing → MakingStage → Running
job new stage = record { id = 1; work = making new stage; course = GoesOn; replies = no_replies }

abbrev standing : NewThing → MakingStage → List Route → Stand
standing new stage dirty = stand (job new stage ∷ []) dirty

abbrev pub begun_with : Job → List Entry
begun_with planned = entry 0 (Began 1 planned false) ∷ []

abbrev pub made_with : Job → List Entry
made_with planned = entry 1 (Step 1 (Made new_path)) ∷ begun_with planned

-- a folder is made
abbrev pub folder_plan : Job
folder_plan = plan.MakeFolder new_path

abbrev pub folder_node : Node
folder_node = record { kind = kind.Folder; bytes = []; mode = new_folder_mode; mtime = pos 0; unnamed = 0 }

abbrev pub folder_log : CallLog
folder_log = log (Makes 0 (3 ∷ []) folder_node ∷ [])

abbrev pub folder_stand : Stand
folder_stand = standing thing.Folder Sync ([] ∷ [])

folder_begun : IsTraced (log []) (begun_with folder_plan) (standing thing.Folder Make []) (log [])
folder_begun = (nothing_live, log [], (refl, refl), record { after = standing thing.Folder Make []; leads = record { none_live = refl; after_is = refl; now_is = refl }; stand_is = refl; counts = refl })

pub folder_traced : IsTraced (log []) (made_with folder_plan) folder_stand folder_log
folder_traced =
    own_step (log []) 1 1 (Made new_path) (begun_with folder_plan) (standing thing.Folder Make []) folder_stand (log []) folder_log (job thing.Folder Make) (job thing.Folder Sync) folder_begun (inl (refl, refl))
    (record {
      tells = (making thing.Folder Sync, (refl, refl, refl), refl);
      called = (refl, (pos 0, refl));
      settled = λ goes fresh kept among. absurd among;
      cleared = λ goes fresh kept among. absurd among;
      leaves = refl;
      walks = (1, 0, 0, tt);
    }) refl refl refl

-- and a link
abbrev pub link_plan : Job
link_plan = plan.MakeLink new_path text

abbrev pub link_node : Node
link_node = record { kind = kind.Link; bytes = text; mode = 0; mtime = pos 0; unnamed = 0 }

abbrev pub link_log : CallLog
link_log = log (Makes 0 (3 ∷ []) link_node ∷ [])

abbrev pub link_stand : Stand
link_stand = standing (thing.Link text) Sync ([] ∷ [])

link_begun : IsTraced (log []) (begun_with link_plan) (standing (thing.Link text) Make []) (log [])
link_begun = (nothing_live, log [], (refl, refl), record { after = standing (thing.Link text) Make []; leads = record { none_live = refl; after_is = refl; now_is = refl }; stand_is = refl; counts = refl })

pub link_traced : IsTraced (log []) (made_with link_plan) link_stand link_log
link_traced =
    own_step (log []) 1 1 (Made new_path) (begun_with link_plan) (standing (thing.Link text) Make []) link_stand (log []) link_log (job (thing.Link text) Make) (job (thing.Link text) Sync) link_begun (inl (refl, refl))
    (record {
      tells = (making (thing.Link text) Sync, (refl, refl, refl), refl);
      called = (refl, (pos 0, refl));
      settled = λ goes fresh kept among. absurd among;
      cleared = λ goes fresh kept among. absurd among;
      leaves = refl;
      walks = (1, 0, 0, tt);
    }) refl refl refl
