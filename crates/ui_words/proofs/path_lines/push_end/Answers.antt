-- a cluster was put, or left out
use Rattle.std.proofs.Common.{rules, ◌≡◌, ◌++◌, ◌∷◌, [], sym, ◌∙◌, ap, sum_by, string_bytes, arith, List, ℕ}
use Rattle.std.specs.Prelude.{nat_le, if◌then◌else◌}
use Rattle.std.specs.List.{concat}
use Rattle.std.proofs.lemmas.List.Sums.{sum_by-cons}
use Rattle.unicode_segmentation.specs.Iter.{graphemes_left}
use Rattle.mc_text.specs.Fit.{cluster_columns}
use Rattle.ui_words.specs.PathLines.{end_within}
use Rattle.ui_words.proofs.Ends.{next_of_end}
use Rattle.ui_words.proofs.path_lines.push_end.Goals as goal

pub loop-cluster-preserved : goal.loop-cluster-preserved
loop-cluster-preserved c =
    let cluster = c.in-Some.cluster.now in
    let rest = graphemes_left c.next.new.self in
    let before = string_bytes c.loop-cluster.line in
    let steps : graphemes_left c.loop-cluster.cluster-iterator ≡ cluster ∷ rest = search rules in
    let put : string_bytes c.push_where.new.line ≡ before ++ (if nat_le c.loop-cluster.left c.args.room then cluster else []) = search rules in
    let left = c.loop-cluster.invariant.2 ∙ ap (sum_by cluster_columns) steps in
    let all = sum_by-cons cluster_columns cluster rest in
    let columns = c.columns_of_cluster-left.ensures in (
      tt,
      tt,
      omega (arith, left, all, columns),
      ap (λ line. line ++ concat (end_within c.args.room rest)) put
          ∙ (next_of_end c.args.room c.loop-cluster.left before cluster rest left
          ∙ (ap (λ clusters. before ++ concat (end_within c.args.room clusters)) (sym steps) ∙ c.loop-cluster.invariant.3)),
    )
