use Rattle.std.proofs.Common.{◌≡◌, ◌-◌, true, length, Result, Ok, Err, OnOk, OnErr, sym, subst}
use Rattle.hotlist.specs.HotLists.{NoMore, before, list_of, is_within}
use Rattle.hotlist.proofs.EditLemmas.{added-within}
use Rattle.hotlist.proofs.list.Hotlist.add.Goals as goal

-- what holds after an Ok and after an Err
either_way : {T E P Q R X : Type 0} (r : Result T E) → OnOk r P → OnOk r Q → OnErr r R → (P → Q → X) → (R → X) → X
either_way (Ok x) ok too err after_ok after_err = after_ok ok too
either_way (Err e) ok too err after_ok after_err = after_err err

pub invariant_of-self : goal.invariant_of-self
invariant_of-self c =
    let item = before c.args.item NoMore in
    let levels : c.saturating_sub-levels.result ≡ 32 - length c.args.group.now = c.saturating_sub-levels.ensures in
    record {
      nested = either_way c.add_in.result c.add_in.ensures.added c.add_in.ensures.fits c.add_in.ensures.same
          (λ added fits. added-within c.args.group.now 32 item (list_of c.args.self.now.items.items) (list_of c.add_in.new.items.items) added
          c.args.self.now.nested (subst (λ r. is_within r item ≡ true) levels fits))
          (λ same. subst (λ list. is_within 32 list ≡ true) (sym same) c.args.self.now.nested);
    }
