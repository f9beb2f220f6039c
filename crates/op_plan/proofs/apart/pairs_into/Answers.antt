-- The pairs have the sources and the targets that they are made of.
use Rattle.std.proofs.Common.{◌≡◌, ◌∷◌, ◌∙◌, sym, ap, length, List, ℕ}
use Rattle.std.specs.List.{list_any}
use Rattle.std.proofs.lemmas.List.{length-map}
use Rattle.job_reports.specs.declared.job.Pair.{Pair}
use Rattle.op_plan.specs.Meeting.{meet, has_two}
use Rattle.op_plan.specs.Checks.{sources_in, targets_from}
use Rattle.op_plan.proofs.CheckLemmas.{sources-paired, targets-paired}
use Rattle.op_plan.proofs.PlanLemmas.{pairs-some}
use Rattle.op_plan.proofs.apart.pairs_into.Goals as goal

pub refuse_into-requires : goal.refuse_into-requires
refuse_into-requires c =
    let made = c.in_ok-targets.ensures.joined in
    let size : length c.in_ok-targets.targets ≡ length c.args.sources =
    ap length made ∙ (length-map c.args.names.now (λ (name : List ℕ). name ∷ c.args.folder.now) ∙ c.requires.named) in
    ap targets_from (c.as_slice.ensures ∙ c.in_ok-pairs.ensures) ∙ (targets-paired c.args.sources c.in_ok-targets.targets size ∙ made)

pub refuse_twice-requires-clause-placed : goal.refuse_twice-requires-clause-placed
refuse_twice-requires-clause-placed c =
    let made = c.in_ok-targets.ensures.joined in
    let size : length c.in_ok-targets.targets ≡ length c.args.sources =
    ap length made ∙ (length-map c.args.names.now (λ (name : List ℕ). name ∷ c.args.folder.now) ∙ c.requires.named) in
    (c.args.folder.now, ap targets_from (c.as_slice-2.ensures ∙ c.in_ok-pairs.ensures) ∙ (targets-paired c.args.sources c.in_ok-targets.targets size ∙ made))

pub refuse_twice-requires-clause-apart : goal.refuse_twice-requires-clause-apart
refuse_twice-requires-clause-apart c =
    let targets = c.in_ok-targets.targets in
    let size : length targets ≡ length c.args.sources =
    ap length c.in_ok-targets.ensures.joined ∙ (length-map c.args.names.now (λ (name : List ℕ). name ∷ c.args.folder.now) ∙ c.requires.named) in
    ap (λ (l : List Pair). has_two meet (sources_in l)) (c.as_slice-2.ensures ∙ c.in_ok-pairs.ensures)
    ∙ (ap (has_two meet) (sources-paired c.args.sources targets size) ∙ c.requires.apart)

pub returns-clause-apart : goal.returns-clause-apart
returns-clause-apart c =
    let targets = c.in_ok-targets.targets in
    let made = c.in_ok-targets.ensures.joined in
    let size : length targets ≡ length c.args.sources =
    ap length made ∙ (length-map c.args.names.now (λ (name : List ℕ). name ∷ c.args.folder.now) ∙ c.requires.named) in
    record {
      some = λ none. pairs-some c.args.sources targets c.requires.some size (sym c.in_ok-pairs.ensures ∙ none);
      sources = ap (λ (l : List Pair). has_two meet (sources_in l)) c.in_ok-pairs.ensures
          ∙ (ap (has_two meet) (sources-paired c.args.sources targets size) ∙ c.requires.apart);
      targets = ap (λ (l : List Pair). has_two meet (targets_from l)) (sym c.as_slice-2.ensures) ∙ c.in_ok-refuse_twice.ensures.apart;
      across = ap (λ (l : List Pair). list_any (λ source. list_any (meet source) (targets_from l)) (sources_in l)) (sym c.as_slice.ensures)
          ∙ c.in_ok-refuse_into.ensures.apart;
    }

pub returns-clause-sources : goal.returns-clause-sources
returns-clause-sources c =
    let made = c.in_ok-targets.ensures.joined in
    let size : length c.in_ok-targets.targets ≡ length c.args.sources =
    ap length made ∙ (length-map c.args.names.now (λ (name : List ℕ). name ∷ c.args.folder.now) ∙ c.requires.named) in
    ap sources_in c.in_ok-pairs.ensures ∙ sources-paired c.args.sources c.in_ok-targets.targets size

pub returns-clause-placed : goal.returns-clause-placed
returns-clause-placed c =
    let made = c.in_ok-targets.ensures.joined in
    let size : length c.in_ok-targets.targets ≡ length c.args.sources =
    ap length made ∙ (length-map c.args.names.now (λ (name : List ℕ). name ∷ c.args.folder.now) ∙ c.requires.named) in
    ap targets_from c.in_ok-pairs.ensures ∙ (targets-paired c.args.sources c.in_ok-targets.targets size ∙ made)
