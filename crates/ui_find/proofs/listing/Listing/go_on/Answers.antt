-- What the list comes to is the same behind what the search tells.
use Rattle.std.proofs.Common.{◌≡◌, ◌∙◌, ap, Ok, refl, rules}
use Rattle.tree_trait.specs.Change.{current}
use Rattle.ui_find.specs.declared.findings.Course.TheVariants.{GoesOn, Ends}
use Rattle.ui_find.specs.Listings.{ListingState, comes_to_by}
use Rattle.ui_find.proofs.KeptLists.{fewer_on, kept_on}
use Rattle.ui_find.proofs.listing.Listing.go_on.Goals as goal

pub returns-in-Ok-GoesOn-clause-kept : goal.returns-in-Ok-GoesOn-clause-kept
returns-in-Ok-GoesOn-clause-kept g c =
    let goes_on : c.next-course.result ≡ Ok GoesOn = search rules in
    kept_on (g.T.ReadTree.contents c.args.tree.now) (g.T.ReadTree.fault_count c.args.tree.now) (g.T.ReadTree.fault_count c.next-course.new.tree)
    c.args.finder c.next-course.new.finder c.self.inside.findings c.next-course.new.self
    c.next-course.result GoesOn GoesOn c.args.self.now.findings goes_on refl
    (ap (λ (l : ListingState). l.findings) c.self.view_is) c.next-course.ensures.told

pub returns-in-Ok-Ends-clause-kept : goal.returns-in-Ok-Ends-clause-kept
returns-in-Ok-Ends-clause-kept g c = λ log tells steady.
    let ends : c.next-course.result ≡ Ok Ends = search rules in
    ap (λ search. comes_to_by (current log) search c.next-course.new.self) (ap (λ (l : ListingState). l.search) c.self.view_is ∙ c.requires)
    ∙ kept_on (g.T.ReadTree.contents c.args.tree.now) (g.T.ReadTree.fault_count c.args.tree.now) (g.T.ReadTree.fault_count c.next-course.new.tree)
    c.args.finder c.next-course.new.finder c.self.inside.findings c.next-course.new.self
    c.next-course.result Ends Ends c.args.self.now.findings ends refl
    (ap (λ (l : ListingState). l.findings) c.self.view_is) c.next-course.ensures.told log tells steady

pub returns-in-Ok-GoesOn-clause-falls : goal.returns-in-Ok-GoesOn-clause-falls
returns-in-Ok-GoesOn-clause-falls g c =
    let goes_on : c.next-course.result ≡ Ok GoesOn = search rules in
    fewer_on (g.T.ReadTree.contents c.args.tree.now) (g.T.ReadTree.fault_count c.args.tree.now) (g.T.ReadTree.fault_count c.next-course.new.tree)
    c.args.finder c.next-course.new.finder c.self.inside.findings c.next-course.new.self c.next-course.result GoesOn goes_on c.next-course.ensures.told
