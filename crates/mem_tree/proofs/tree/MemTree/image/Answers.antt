use Rattle.std.proofs.Common.{rules, to_z, of_z, w64, ◌≡◌, ℕ, Bool, List, [], take, sym, ◌∙◌, ap, subst}
use Rattle.std.proofs.lemmas.List.{take-map}
use Rattle.tree_trait.specs.declared.file_system.FileSystem.{FileSystem}
use Rattle.tree_trait.specs.Change.{Change}
use Rattle.tree_trait.specs.CrashImages.{MayLeave, image_by_bits}
use Rattle.tree_trait.proofs.Choosing.{chosen_leaves}
use Rattle.mem_tree.specs.declared.choice.Choice.{Choice}
use Rattle.mem_tree.specs.declared.record.Record.{Record}
use Rattle.mem_tree.specs.Records.{change_by, changes_by}
use Rattle.mem_tree.specs.Live.{standing}
use Rattle.mem_tree.specs.Held.{Held, IsKept, unused_tree, image_chosen}
use Rattle.mem_tree.specs.Sound.{AllFit}
use Rattle.mem_tree.specs.Fills.{filled_bytes}
use Rattle.mem_tree.proofs.Sounds.{fit_take, kept_image}
use Rattle.mem_tree.proofs.tree.MemTree.image.Goals as goal
use Rattle.mem_tree.proofs.tree.MemTree.image.Goals.{After-unused}

eq : (records : List Record) (items : List Record) (k : ℕ) → records ≡ items → changes_by (take k records) ≡ take k (changes_by items)
eq records items k same = sym (take-map change_by k records) ∙ ap (λ (rs : List Record). take k (changes_by rs)) same

pub unused-requires : goal.unused-requires
unused-requires c =
    let s = c.self.inside.opening in
    let k = c.args.at_call in
    let cs = changes_by (take k c.deref.result.now) in
    let items = c.self.inside.records.items in
    subst (λ (x : FileSystem). IsKept x [] c.in_ok-stands.stands) (sym c.in_ok-image.ensures)
    (kept_image _ s c.in_ok-stands.stands cs c.as_slice.result.now c.self.invariant.sound
    (subst (λ (ds : List Change). AllFit s ds) (sym (eq c.deref.result.now items k c.deref.ensures.value)) (fit_take k s (changes_by items) c.self.invariant.fits))
    (c.in_ok-stands.ensures ∙ ap (λ (x : FileSystem). standing x) c.in_ok-image.ensures))

chosen_by : (h tree : Held) (read choice : Choice) (k : ℕ) (cs : List Change) (bits : List Bool) (image : FileSystem)
    → image ≡ image_by_bits (filled_bytes read.fill) h.log.opening cs bits → bits ≡ read.keep → cs ≡ take k h.log.changes
    → h ≡ tree → read ≡ choice → image ≡ image_chosen tree.log k choice
chosen_by h tree read choice k cs bits image is kept changes held chosen_is =
    is ∙ (ap (image_by_bits (filled_bytes read.fill) h.log.opening cs) kept
    ∙ (ap (λ (cs : List Change). image_by_bits (filled_bytes read.fill) h.log.opening cs read.keep) changes
    ∙ (ap (λ (h : Held). image_chosen h.log k read) held ∙ ap (image_chosen tree.log k) chosen_is)))

is_chosen : (c : After-unused) → c.in_ok-image.image ≡ image_chosen c.args.self.now.log c.args.at_call c.args.choice.now
is_chosen c = chosen_by _ _ _ _ c.args.at_call _ _ _ c.in_ok-image.ensures c.as_slice.ensures.value
    (eq c.deref.result.now c.self.inside.records.items c.args.at_call c.deref.ensures.value) c.self.view_is c.choice.view_is

same_time : (c : After-unused) → to_z w64 (of_z w64 c.self.inside.time) ≡ c.args.self.now.time
same_time c = search rules

pub returns-clause-chosen : goal.returns-clause-chosen
returns-clause-chosen c =
    c.unused.ensures
    ∙ (ap (λ (x : FileSystem). unused_tree x (to_z w64 (of_z w64 c.self.inside.time))) (is_chosen c)
    ∙ ap (unused_tree (image_chosen c.args.self.now.log c.args.at_call c.args.choice.now)) (same_time c))

pub returns-clause-member : goal.returns-clause-member
returns-clause-member c =
    let t = c.args.self.now.log in
    subst (λ (x : FileSystem). MayLeave t.opening (take c.args.at_call t.changes) x)
    (sym (ap (λ (h : Held). h.log.opening) c.unused.ensures ∙ is_chosen c))
    (chosen_leaves (filled_bytes c.args.choice.now.fill) t.opening (take c.args.at_call t.changes) c.args.choice.now.keep)
