-- A key that is none leaves a box as it was, and it stays.
use Rattle.std.proofs.Common.{◌≡◌, Bool, true, false, refl, Option}
use Rattle.key_screen.specs.declared.keys.Key.{Key}
use Rattle.key_screen.specs.declared.keys.Base.TheVariants.{Unknown}
use Rattle.tree_trait.specs.Change.{CallLog}
use Rattle.ui_job_boxes.specs.declared.job_box.JobReply.{JobReply}
use Rattle.ui_job_boxes.specs.declared.job_box.JobReply.TheVariants.{Stays}
use Rattle.ui_job_boxes.specs.JobBoxes.{Around, JobBoxState, DeleteBox, MaskBox, TargetBox, FolderBox, LinkTextBox, LinkNameBox, NewModeBox, AnswerBox}
use Rattle.ui_job_boxes.specs.Replies.{BoxLeads, box_after}

abbrev unknown_key : Bool → Key
unknown_key meta = record { meta = meta; base = Unknown }

-- it stays, and is as it was
pub unknown_stays : (box : JobBoxState) (contents : Option CallLog) (around : Around) (meta : Bool) (reply : JobReply)
    → BoxLeads box contents around (unknown_key meta) reply → (reply ≡ Stays) × (box_after box (unknown_key meta) ≡ box)
unknown_stays (DeleteBox paths) contents around true reply h = (h, refl)
unknown_stays (DeleteBox paths) contents around false reply h = (h, refl)
unknown_stays (MaskBox how paths typed) contents around true reply h = (h, refl)
unknown_stays (MaskBox how paths typed) contents around false reply h = (h, refl)
unknown_stays (TargetBox how paths mask typed) contents around true reply h = (h, refl)
unknown_stays (TargetBox how paths mask typed) contents around false reply h = (h, refl)
unknown_stays (FolderBox typed) contents around true reply h = (h, refl)
unknown_stays (FolderBox typed) contents around false reply h = (h, refl)
unknown_stays (LinkTextBox typed) contents around true reply h = (h, refl)
unknown_stays (LinkTextBox typed) contents around false reply h = (h, refl)
unknown_stays (LinkNameBox text typed) contents around true reply h = (h, refl)
unknown_stays (LinkNameBox text typed) contents around false reply h = (h, refl)
unknown_stays (NewModeBox paths typed) contents around true reply h = (h, refl)
unknown_stays (NewModeBox paths typed) contents around false reply h = (h, refl)
unknown_stays (AnswerBox waits) contents around true reply h = (h, refl)
unknown_stays (AnswerBox waits) contents around false reply h = (h, refl)
