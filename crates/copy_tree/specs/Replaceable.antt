-- Which things may be replaced.
use Rattle.std.specs.Prelude.{⊤}
use Rattle.mc_text.specs.declared.kind.Kind.{Kind}
use Rattle.mc_text.specs.declared.kind.Kind.TheVariants as kind

-- a thing of this kind may be replaced by a file or a link, where an answer says so, and replace one
abbrev pub IsReplaceable : Kind → Type 0
IsReplaceable kind.File = ⊤
IsReplaceable kind.Link = ⊤
IsReplaceable kind.Folder = ⊥
IsReplaceable kind.Other = ⊥
