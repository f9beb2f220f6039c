use Rattle.std.proofs.Common.{sym, subst}
use Rattle.std.specs.Str.{IsUtf8}
use Rattle.panel_listing.proofs.RowLemmas.{letters-utf8}
use Rattle.panel_listing.proofs.telling.permissions_told.Goals as goal

pub text_of-requires : goal.text_of-requires
text_of-requires c = subst IsUtf8 (sym c.perm_text.ensures) (letters-utf8 c.in-Some.item.now.kind c.in-Some.item.now.mode)
