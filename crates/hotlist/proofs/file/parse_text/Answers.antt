use Rattle.std.proofs.Common.{◌≡◌, ◌-◌, ◌∷◌, ◌++◌, [], List, Some, None, length, map, reverse, drop, ap, ◌∙◌, sym, arith}
use Rattle.std.specs.List.{flat_map, slice_get}
use Rattle.std.proofs.lemmas.Grind.{common_steps}
use Rattle.std.proofs.lemmas.List.{append-nil}
use Rattle.text_scan.specs.Lines.{lines_of}
use Rattle.hotlist.specs.declared.draft.OpenGroup.{OpenGroup}
use Rattle.hotlist.specs.HotLists.{list_of}
use Rattle.hotlist.specs.HotFiles.{fault_from, said_by, lines_that_say}
use Rattle.hotlist.specs.Drafts.{said_so_far, room_in, unclosed_in, with_said, lines_to_group}
use Rattle.hotlist.proofs.GrammarLemmas.{nested-faultless, fault-unclosed, first_is}
use Rattle.hotlist.proofs.file.parse_text.Goals as goal

pub invariant_of-result : goal.invariant_of-result
invariant_of-result c =
    let here = c.loop-line.invariant in
    let draft = c.loop-line.draft in
    let nothing : c.loop-line.rest.now ≡ [] = c.in_default.ensures.first in
    let none : draft.groups.items ≡ [] = grind (arith, common_steps) in
    let faultless : fault_from 1 (lines_of c.args.text.now) 32 [] ≡ None =
    sym here.faults ∙ ap (λ rest. fault_from c.loop-line.at (lines_of rest) (room_in draft) (unclosed_in draft)) nothing
    ∙ ap (λ (groups : List OpenGroup). fault_from c.loop-line.at [] (32 - length groups) (reverse (map (λ (group : OpenGroup). group.line) groups))) none in
    let says : said_by (lines_of c.args.text.now) ≡ Some (lines_that_say (list_of draft.items.items)) =
    sym here.said ∙ ap (λ rest. with_said (said_so_far draft) (said_by (lines_of rest))) nothing ∙ ap Some (append-nil (said_so_far draft))
    ∙ ap (λ groups. Some (flat_map lines_to_group groups ++ lines_that_say (list_of draft.items.items))) none in
    record { nested = nested-faultless (lines_of c.args.text.now) (list_of draft.items.items) faultless says }

pub returns-in-Some-first-clause-refused : goal.returns-in-Some-first-clause-refused
returns-in-Some-first-clause-refused c = λ _.
    let here = c.loop-line.invariant in
    let draft = c.loop-line.draft in
    let group = c.in-Some-first.group.now in
    let nothing : c.loop-line.rest.now ≡ [] = c.in_default.ensures.first in
    let groups : draft.groups.items ≡ group ∷ drop 1 draft.groups.items = first_is draft.groups.items group (c.in-Some-first.ensures.value ∙ ap (λ (gs : List OpenGroup). slice_get gs 0) c.deref.ensures.value) in
    sym here.faults ∙ ap (λ rest. fault_from c.loop-line.at (lines_of rest) (room_in draft) (unclosed_in draft)) nothing
    ∙ ap (λ (gs : List OpenGroup). fault_from c.loop-line.at [] (room_in draft) (reverse (map (λ (g : OpenGroup). g.line) gs))) groups
    ∙ fault-unclosed c.loop-line.at (room_in draft) group.line (map (λ (g : OpenGroup). g.line) (drop 1 draft.groups.items))
