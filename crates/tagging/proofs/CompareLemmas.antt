-- The last file of a name decides.
use Rattle.std.proofs.Common.{◌≡◌, ℕ, Bool, true, false, cond, if◌then◌else◌, List, [], ◌∷◌, ◌++◌, Some, None, refl, ap, ◌∙◌}
use Rattle.std.specs.Str.{bytes_eq}
use Rattle.tagging.specs.Compared.{or_else, stamp_of}
use Rattle.tagging.specs.declared.compare.FileFact.{FileFact}

pub stamp_of-push : (facts : List FileFact) (fact : FileFact) (name : List ℕ)
    → stamp_of (facts ++ fact ∷ []) name ≡ (if bytes_eq fact.name name then Some (record { size = fact.size; mtime = fact.mtime }) else stamp_of facts name)
stamp_of-push [] fact name = refl
stamp_of-push (first ∷ facts) fact name =
    ap (λ stamp. or_else stamp (if bytes_eq first.name name then Some (record { size = first.size; mtime = first.mtime }) else None)) (stamp_of-push facts fact name)
    ∙ go (bytes_eq fact.name name)
  where
    go : (same : Bool) → or_else (cond same (Some (record { size = fact.size; mtime = fact.mtime })) (stamp_of facts name)) (cond (bytes_eq first.name name) (Some (record { size = first.size; mtime = first.mtime })) None)
        ≡ cond same (Some (record { size = fact.size; mtime = fact.mtime })) (stamp_of (first ∷ facts) name)
    go true = refl
    go false = refl
