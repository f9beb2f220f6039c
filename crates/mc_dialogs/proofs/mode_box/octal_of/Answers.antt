use Rattle.std.proofs.Common.{sym, subst}
use Rattle.std.specs.Str.{IsUtf8}
use Rattle.mc_dialogs.proofs.AsciiLines.{octal-utf8}
use Rattle.mc_dialogs.proofs.mode_box.octal_of.Goals as goal

pub text_of-requires : goal.text_of-requires
text_of-requires c = subst IsUtf8 (sym c.digits_of.ensures) (octal-utf8 c.args.mode)
