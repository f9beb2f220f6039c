-- A cluster that can't be drawn is replaced by one that can.
use Rattle.std.proofs.Common.{◌≡◌, ℕ, Bool, true, false, All, List, [], ◌∷◌, refl, if◌then◌else◌}
use Rattle.std.specs.Str.{chars}
use Rattle.std.proofs.lemmas.List.Elements.{All-map}
use Rattle.unicode_segmentation.specs.Grapheme.{graphemes}
use Rattle.unicode_width.specs.Width.{str_width, step, past_emoji}
use Rattle.mc_text.specs.Fit.{cluster_columns}
use Rattle.mc_text.specs.Drawn.{is_drawable, drawn_cluster, drawn_clusters}

question_mark : is_drawable (63 ∷ []) ≡ true
unfolding is_drawable cluster_columns chars str_width step past_emoji
question_mark = refl

drawable-piece : (cluster : List ℕ) → is_drawable (drawn_cluster cluster) ≡ true
drawable-piece cluster = by_cases (is_drawable cluster) refl
  where
    by_cases : (b : Bool) → is_drawable cluster ≡ b → is_drawable (if b then cluster else 63 ∷ []) ≡ true
    by_cases true e = e
    by_cases false e = question_mark

pub each_is_drawable : (text : List ℕ) → All (λ piece. is_drawable piece ≡ true) (drawn_clusters text)
each_is_drawable text =
    All-map (λ piece. is_drawable piece ≡ true) drawn_cluster (graphemes true text) (λ k d h. drawable-piece _)
