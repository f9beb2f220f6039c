-- What is asked of the text by a splice.
use Rattle.std.specs.Prelude.{Result}
use Rattle.mc_edit.specs.declared.editor.Splice.{Splice}
use Rattle.mc_edit.specs.declared.error.EditError.{EditError}
use Rattle.mc_edit.specs.Edits.{EditedText}
use Rattle.mc_edit.specs.Commands.{replaced_text}

-- the bytes from one place up to another give way to new ones
abbrev pub after_splice : Splice → EditedText → Result EditedText EditError
after_splice splice edited = replaced_text edited splice.from splice.to splice.new splice.point
