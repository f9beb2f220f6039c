-- What was found last is found again, at the place where the viewer landed.
use Rattle.std.proofs.Common.{◌≡◌, ℕ, List, Option, Some, Ok, ap, sym, subst, ◌∙◌}
use Rattle.mc_viewer.specs.declared.search.Hit.{Hit}
use Rattle.mc_viewer.specs.declared.state.State.{State}
use Rattle.mc_viewer.specs.declared.subject.Subject.{Subject}
use Rattle.mc_viewer.specs.Viewing.{held_bytes}
use Rattle.mc_viewer.specs.ViewerSteps.{Viewing}
use Rattle.mc_viewer.specs.Searches.{moved_on, landed_again, after_next}
use Rattle.mc_viewer.proofs.viewer.Viewer.next_to_page.Goals as goal

abbrev viewing_of : Subject → State → Option Hit → Viewing
viewing_of subject state last = record { subject = subject; state = state; last = last }

pub returns-clause-found : goal.returns-clause-found
returns-clause-found g c =
    let contents = g.T.ReadTree.contents c.args.tree.now in
    let here = c.self.inside in
    let landing = c.in_ok-landing.landing in
    let last_is : c.moved_on.result ≡ moved_on here.last landing.place = c.moved_on.ensures ∙ ap (λ (l : Option Hit). moved_on l landing.place) c.take.ensures.value in
    subst (λ (v : Viewing). (bytes : List ℕ) → held_bytes contents v.subject ≡ Some bytes → after_next bytes v ≡ Ok (viewing_of here.subject landing.state c.moved_on.result)) c.self.view_is
    (λ bytes known.
    ap (landed_again (viewing_of here.subject here.state here.last)) (c.in_ok-landing.ensures.shown bytes known)
    ∙ ap (λ last. Ok (viewing_of here.subject landing.state last)) (sym last_is))
