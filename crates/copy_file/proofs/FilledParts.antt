-- What a part holds as it is filled, and that it is a copy once it is full.
use Rattle.std.proofs.Common.{◌≡◌, ℕ, ◌+◌, ◌-◌, ◌≤◌, zero, suc, List, [], ◌∷◌, ◌++◌, length, refl, sym, ◌∙◌, ap, arith}
use Rattle.std.specs.Prelude.{take, drop, replicate}
use Rattle.std.proofs.lemmas.List.{append-nil, length-take-le}
use Rattle.std.proofs.Math.Seq.{take-append_seam, take-add}
use Rattle.std.proofs.Math.ListN.{drop_of_length-le}
use Rattle.mc_text.specs.declared.kind.Kind.TheVariants.{File}
use Rattle.tree_trait.specs.declared.file_system.Node.{Node}
use Rattle.tree_trait.specs.FileSystem.{value}
use Rattle.tree_trait.specs.Change.{overwritten_bytes}
use Rattle.copy_file.specs.Copied.{copied_value}

take_as_long : {A : Type 0} (n : ℕ) (xs : List A) → take (length (take n xs)) xs ≡ take n xs
take_as_long zero xs = refl
take_as_long (suc n) [] = refl
take_as_long (suc n) (x ∷ xs) = ap (λ ys. x ∷ ys) (take_as_long n xs)

-- the next bytes are written behind the first
pub written_on : (source : List ℕ) (done count : ℕ) → done ≤ length source
    → overwritten_bytes (take done source) done (take count (drop done source)) ≡ take (done + length (take count (drop done source))) source
written_on source done count few =
    let long : length (take done source) ≡ done = length-take-le done source few in
    let bytes : List ℕ = take count (drop done source) in
    let front : take done (take done source ++ replicate (done - length (take done source)) 0) ≡ take done source =
    ap (λ n. take n (take done source ++ replicate (done - length (take done source)) 0)) (sym long) ∙ take-append_seam (take done source) (replicate (done - length (take done source)) 0) in
    let rest : drop (done + length bytes) (take done source) ≡ [] = drop_of_length-le (take done source) (omega (arith, long)) in
    rw (front, rest) (append-nil (take done source ++ bytes) ∙ (ap (λ ys. take done source ++ ys) (sym (take_as_long count (drop done source))) ∙ sym (take-add done (length bytes) source)))

-- a node is a file with these bytes and this mode
pub record Holds (n : Node) (bytes : List ℕ) (mode : ℕ) : Type 0 where
  pub kind : n.kind ≡ File
  pub bytes_are : n.bytes ≡ bytes
  pub mode_is : n.mode ≡ mode
  pub unnamed : n.unnamed ≡ 0

pub holds_copy : (n from : Node) → from.kind ≡ File → Holds n from.bytes from.mode → value n ≡ copied_value (value from)
holds_copy n from file h = rw (h.kind, h.bytes_are, h.mode_is, h.unnamed, file) refl
