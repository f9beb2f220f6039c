use Rattle.std.proofs.Common.{◌≡◌, true, Option, Some, None, MatchOption, IfNone, sym, subst}
use Rattle.hotlist.specs.HotLists.{list_of, is_within}
use Rattle.hotlist.specs.Places.{list_without_item}
use Rattle.hotlist.proofs.EditLemmas.{removed-within}
use Rattle.hotlist.proofs.list.Hotlist.remove.Goals as goal

-- what holds where there is a value and where there is none
either_way : {A Q R X : Type 0} (P : Type 0) (r : Option A) → MatchOption r P (λ _. Q) → IfNone r R → (Q → X) → (R → X) → X
either_way P None found none after_some after_none = after_none none
either_way P (Some x) found none after_some after_none = after_some found

pub invariant_of-self : goal.invariant_of-self
invariant_of-self c = record {
  nested = either_way (list_without_item c.args.place.now (list_of c.args.self.now.items.items) ≡ None) c.remove_in.result c.remove_in.ensures.removed c.remove_in.ensures.same
      (λ gone. removed-within c.args.place.now 32 (list_of c.args.self.now.items.items) (list_of c.remove_in.new.items.items) gone c.args.self.now.nested)
      (λ same. subst (λ list. is_within 32 list ≡ true) (sym same) c.args.self.now.nested);
}
