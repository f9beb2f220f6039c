-- A child is passed over, or taken up.
use Rattle.std.proofs.Common.{◌∷◌, ◌∙◌, ◌≤◌, ◌<◌, length, subst, sym, ap}
use Rattle.mc_text.specs.Routes.{Route, spelled_route}
use Rattle.find_file.proofs.Standing.{passes-name, passes-path, takes}
use Rattle.find_file.proofs.walk.Walk.meet.Goals as goal

pub returns-then-leaves_out : goal.returns-then-leaves_out
returns-then-leaves_out c =
    passes-name c.args.search.now c.args.self.now c.requires c.in-Some.child.now c.in-Some.ensures.some c.pass.new.self c.pass.result c.pass.ensures.none c.pass.ensures.passed
    (sym c.leaves_out.ensures ∙ c.if-leaves_out.true)

pub returns-in-Ok : goal.returns-in-Ok
returns-in-Ok c =
    let name = c.in-Some.child.now.name in
    let same = c.path.ensures in
    takes c.args.search.now c.args.self.now c.requires c.in-Some.child.now c.in-Some.ensures.some c.take_up.new.self c.in-Ok.path c.take_up.result
    (sym c.leaves_out.ensures ∙ c.if-leaves_out.false)
    (c.in-Ok.ensures.joined ∙ ap (λ (folder : Route). name ∷ folder) same)
    (subst (λ (folder : Route). length (spelled_route (name ∷ folder)) ≤ 4096) same c.in-Ok.ensures.fits)
    c.take_up.ensures.told c.take_up.ensures.next c.take_up.ensures.refused

pub returns-in-Err-TooLong : goal.returns-in-Err-TooLong
returns-in-Err-TooLong c =
    let name = c.in-Some.child.now.name in
    passes-path c.args.search.now c.args.self.now c.requires c.in-Some.child.now c.in-Some.ensures.some c.pass-in-Err-TooLong.new.self c.pass-in-Err-TooLong.result
    c.pass-in-Err-TooLong.ensures.none c.pass-in-Err-TooLong.ensures.passed
    (subst (λ (folder : Route). 4096 < length (spelled_route (name ∷ folder))) c.path.ensures (c.in-Err-TooLong.ensures.too_long (λ h. absurd (cc))).1)
