-- sorted names are strictly ascending once no name stands beside its like, and each name is one of those before
use Rattle.std.proofs.Common.{rules, sym}
use Rattle.std.proofs.lemmas.Fn.{dedup_same}
use Rattle.std.proofs.lemmas.List.Kept.{IsStrictlySortedBy-dedup, Contains-dedup, Contains-from_dedup}
use Rattle.std.proofs.lemmas.List.Sorted.{ranks_by, answers_always, Contains-permutation, IsPermutation-sym}
use Rattle.std.specs.Cmp.Lexicographic.{nat_list_cmp_total, nat_list_eq_equiv, texts_ties, same_text}
use Rattle.std.specs.Ordering.{is_lt}
use Rattle.std.specs.Str.{bytes_eq}
use Rattle.tree_trait.specs.Answers.{name_cmp}
use Rattle.host_tree.proofs.Ascending.{IsAscending-from_strict}
use Rattle.host_tree.proofs.listing.sorted_once.Goals as goal

pub returns : goal.returns
returns c =
    let sorted = c.sort_unstable_by.ensures.sorted (λ x y. is_lt (name_cmp x y))
    (ranks_by nat_list_cmp_total (λ x. x)) (answers_always _ _ _ (λ f a r f' k. search rules)) in
    let moved = c.sort_unstable_by.ensures.permutation in
    let is = dedup_same _ bytes_eq _ (λ x y b f' x' y' k. search rules) _ _ c.dedup_by.ensures.filtered in
    record {
      ascending = rw is (IsAscending-from_strict _
          (IsStrictlySortedBy-dedup nat_list_cmp_total texts_ties _ sorted));
      keeps = λ name h. rw is (Contains-dedup nat_list_eq_equiv (λ x y e. same_text x y (sym e)) _ name
          (Contains-permutation _ _ name moved h));
      adds_none = λ name h. Contains-permutation _ _ name (IsPermutation-sym _ _ moved)
          (Contains-from_dedup _ _ name (rw is at h));
    }
