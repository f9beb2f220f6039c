-- What a key comes to in each box of a job (mc(1), "Copy, Rename", "Miscellaneous Keys"; F5
-- to F8 of its bottom line).
use Rattle.std.specs.Prelude.{◌≡◌, ◌⊎◌, ⊤, ℕ, Bool, true, false, MatchBool}
use Rattle.std.specs.Prelude.{if◌then◌else◌, List, [], ◌∷◌, Option}
use Rattle.mc_text.specs.Routes.{Route}
use Rattle.resolving.specs.Homes.{with_home}
use Rattle.tree_trait.specs.Change.{CallLog}
use Rattle.key_screen.specs.declared.keys.Key.{Key}
use Rattle.job_reports.specs.declared.job.Job.{Job}
use Rattle.job_reports.specs.declared.row.JobRow.{JobRow}
use Rattle.session_entries.specs.Sources.{are_workable}
use Rattle.session_entries.specs.declared.refusal.BeginError.TheVariants.{Full}
use Rattle.session_entries.specs.declared.refusal.Refusal.{Refusal}
use Rattle.session_entries.specs.declared.refusal.Refusal.TheVariants.{Begin}
use Rattle.mc_dialogs.specs.InputKeys.{input_after, input_shut}
use Rattle.mc_dialogs.specs.ModeKeys.{mode_after, mode_shut}
use Rattle.ui_words.specs.declared.carry.Carry.{Carry}
use Rattle.ui_words.specs.declared.replies.AnswerReply.{AnswerReply}
use Rattle.ui_words.specs.declared.replies.AnswerReply.TheVariants as answer
use Rattle.ui_words.specs.declared.replies.DeleteReply.{DeleteReply}
use Rattle.ui_words.specs.declared.replies.DeleteReply.TheVariants as delete
use Rattle.ui_words.specs.declared.replies.LineReply.{LineReply}
use Rattle.ui_words.specs.declared.replies.LineReply.TheVariants as line
use Rattle.ui_words.specs.declared.replies.ModeReply.{ModeReply}
use Rattle.ui_words.specs.declared.replies.ModeReply.TheVariants as asked
use Rattle.ui_words.specs.BoxKeys.{answer_reply_to, delete_reply_to, line_reply, mode_reply}
use Rattle.ui_words.specs.BoxLines.{link_name_line, target_line}
use Rattle.ui_plans.specs.declared.carrying.JobPlan.{JobPlan}
use Rattle.ui_plans.specs.declared.carrying.JobPlan.TheVariants as plan
use Rattle.ui_plans.specs.Plans.{delete_plan, mode_plan}
use Rattle.ui_plans.specs.Carrying.{CarryLeads}
use Rattle.ui_plans.specs.Folders.{FolderLeads}
use Rattle.ui_plans.specs.Links.{LinkLeads}
use Rattle.ui_job_boxes.specs.declared.job_box.JobReply.{JobReply}
use Rattle.ui_job_boxes.specs.declared.job_box.JobReply.TheVariants.{Stays, Shuts, Opens}
use Rattle.ui_job_boxes.specs.declared.job_box.JobReply.TheVariants.{Begins, Answers, Refuses}
use Rattle.ui_job_boxes.specs.JobBoxes.{Around, JobBoxState, DeleteBox, MaskBox, TargetBox, FolderBox}
use Rattle.ui_job_boxes.specs.JobBoxes.{LinkTextBox, LinkNameBox, NewModeBox, AnswerBox, seen_job_box}
use Rattle.ui_job_boxes.specs.LiveJobs.{can_answer, none_live}

-- JOBS THAT ARE CONFIRMED

-- a job is to be begun while none is live; beside a live one it is refused, since as many are live as may be
abbrev pub begun_alone : List JobRow → Job → JobReply
begun_alone rows job = if none_live rows then Begins job else Refuses (Begin Full)

-- the job of a plan is to be begun, or what refused the plan is told
abbrev pub IsPlanned : (JobPlan → Type 0) → JobReply → Type 0
IsPlanned Leads (Begins job) = Leads (plan.Begins job)
IsPlanned Leads (Refuses refusal) = Leads (plan.Refuses refusal)
IsPlanned Leads Stays = ⊥
IsPlanned Leads Shuts = ⊥
IsPlanned Leads (Opens next) = ⊥
IsPlanned Leads (Answers answer) = ⊥

-- a job is planned while none is live; beside a live one it is refused
abbrev pub PlansAlone : List JobRow → (JobPlan → Type 0) → JobReply → Type 0
PlansAlone rows Leads reply =
    MatchBool (none_live rows) (IsPlanned Leads reply) (reply ≡ Refuses (Begin Full))

-- WHAT EACH BOX ANSWERS

-- another box stands in its place
abbrev pub OpensBox : JobBoxState → JobReply → Type 0
OpensBox box (Opens next) = seen_job_box next ≡ box
OpensBox box Stays = ⊥
OpensBox box Shuts = ⊥
OpensBox box (Begins job) = ⊥
OpensBox box (Answers answer) = ⊥
OpensBox box (Refuses refusal) = ⊥

-- whether to delete things
abbrev pub delete_answer : List JobRow → List Route → DeleteReply → JobReply
delete_answer rows paths delete.Stays = Stays
delete_answer rows paths delete.Shuts = Shuts
delete_answer rows paths delete.Deletes = begun_alone rows (delete_plan paths)

-- the source mask: with any mask that is typed the destination is asked for, at first the
-- folder of the other panel
abbrev pub MaskLeads : LineReply → Carry → List Route → Route → JobReply → Type 0
MaskLeads line.Stays how paths other reply = reply ≡ Stays
MaskLeads line.Shuts how paths other reply = reply ≡ Shuts
MaskLeads (line.Takes text) how paths other reply =
    OpensBox (TargetBox how paths text (target_line how other)) reply

-- what a new link is to say: with any text that is typed its name is asked for
abbrev pub LinkTextLeads : LineReply → JobReply → Type 0
LinkTextLeads line.Stays reply = reply ≡ Stays
LinkTextLeads line.Shuts reply = reply ≡ Shuts
LinkTextLeads (line.Takes text) reply = OpensBox (LinkNameBox text link_name_line) reply

-- a line by whose text a job is planned that comes to this
abbrev pub PathLeads : LineReply → List JobRow → (List ℕ → JobPlan → Type 0) → JobReply → Type 0
PathLeads line.Stays rows Leads reply = reply ≡ Stays
PathLeads line.Shuts rows Leads reply = reply ≡ Shuts
PathLeads (line.Takes text) rows Leads reply = PlansAlone rows (Leads text) reply

-- a mode
abbrev pub mode_answer : List JobRow → List Route → ModeReply → JobReply
mode_answer rows paths asked.Stays = Stays
mode_answer rows paths asked.Shuts = Shuts
mode_answer rows paths (asked.Takes mode) = begun_alone rows (mode_plan paths mode)

-- what a job waits with, which is answered where the live job can be answered so
abbrev pub given_answer : List JobRow → AnswerReply → JobReply
given_answer rows answer.Stays = Stays
given_answer rows answer.Shuts = Shuts
given_answer rows (answer.Gives given) = if can_answer rows given then Answers given else Stays

-- KEYS

-- What a key comes to in a box. A typed path leads from the folder of the current panel, with HOME in
-- place of a tilde: the destination of those things that match the mask, the new folder's path, and that
-- of the link with its text.
abbrev pub BoxLeads : JobBoxState → Option CallLog → Around → Key → JobReply → Type 0
BoxLeads (DeleteBox paths) contents around key reply =
    reply ≡ delete_answer around.rows paths (delete_reply_to key)
BoxLeads (MaskBox how paths typed) contents around key reply =
    MaskLeads (line_reply (input_shut typed key)) how paths around.other reply
BoxLeads (TargetBox how paths mask typed) contents around key reply =
    PathLeads (line_reply (input_shut typed key)) around.rows
    (λ text planned. CarryLeads how contents paths mask around.current (with_home around.home text) planned)
    reply
BoxLeads (FolderBox typed) contents around key reply =
    PathLeads (line_reply (input_shut typed key)) around.rows
    (λ text planned. FolderLeads contents around.current (with_home around.home text) planned) reply
BoxLeads (LinkTextBox typed) contents around key reply =
    LinkTextLeads (line_reply (input_shut typed key)) reply
BoxLeads (LinkNameBox text typed) contents around key reply =
    PathLeads (line_reply (input_shut typed key)) around.rows
    (λ name planned. LinkLeads contents around.current (with_home around.home name) text planned) reply
BoxLeads (NewModeBox paths typed) contents around key reply =
    reply ≡ mode_answer around.rows paths (mode_reply (mode_shut typed key))
BoxLeads (AnswerBox waits) contents around key reply =
    reply ≡ given_answer around.rows (answer_reply_to waits key)

-- a box after a key
abbrev pub box_after : JobBoxState → Key → JobBoxState
box_after (DeleteBox paths) key = DeleteBox paths
box_after (MaskBox how paths typed) key = MaskBox how paths (input_after typed key)
box_after (TargetBox how paths mask typed) key = TargetBox how paths mask (input_after typed key)
box_after (FolderBox typed) key = FolderBox (input_after typed key)
box_after (LinkTextBox typed) key = LinkTextBox (input_after typed key)
box_after (LinkNameBox text typed) key = LinkNameBox text (input_after typed key)
box_after (NewModeBox paths typed) key = NewModeBox paths (mode_after typed key)
box_after (AnswerBox waits) key = AnswerBox waits

-- The box stays, and the key has worked in it. In all other cases it is as it was.
abbrev pub stays : JobReply → Bool
stays Stays = true
stays other = false

-- neither a job nor an answer is asked for, and nothing is refused
abbrev pub AsksNothing : JobReply → Type 0
AsksNothing Stays = ⊤
AsksNothing Shuts = ⊤
AsksNothing (Opens next) = ⊤
AsksNothing (Begins job) = ⊥
AsksNothing (Answers answer) = ⊥
AsksNothing (Refuses refusal) = ⊥

-- a job is begun while none is live, and is one that can be worked; one that waits is answered as it may be
abbrev pub IsAllowed : List JobRow → JobReply → Type 0
IsAllowed rows (Begins job) = (rows ≡ []) × (are_workable job ≡ true)
IsAllowed rows (Answers answer) = can_answer rows answer ≡ true
IsAllowed rows Stays = ⊤
IsAllowed rows Shuts = ⊤
IsAllowed rows (Opens next) = ⊤
IsAllowed rows (Refuses refusal) = ⊤

-- REFUSALS

-- what was refused
abbrev pub reply_refusals : JobReply → List Refusal
reply_refusals (Refuses refusal) = refusal ∷ []
reply_refusals other = []

-- nothing but that a job is live
abbrev pub IsFullAtMost : List Refusal → Type 0
IsFullAtMost refusals = (refusals ≡ []) ⊎ (refusals ≡ Begin Full ∷ [])
