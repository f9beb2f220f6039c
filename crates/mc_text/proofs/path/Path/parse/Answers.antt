-- Each step cuts a component off, and reads its name.
use Rattle.std.proofs.Common.{◌≡◌, ◌≢◌, ◌+◌, ◌≤◌, [], ◌∷◌, ◌++◌, None, length, drop, Some, append_assoc, reverse, arith, lit<, ap, sym, ◌∙◌, refl}
use Rattle.std.proofs.lemmas.Str.Pattern.{strip_prefix_char}
use Rattle.std.proofs.lemmas.List.{length-append, append-nil, drop-drop}
use Rattle.std.proofs.lemmas.Iterator.Splits.{YieldsList-from_str_split}
use Rattle.std.proofs.lemmas.Grind.{common_steps}
use Rattle.mc_text.specs.declared.error.PathError.TheVariants.{Memory}
use Rattle.mc_text.specs.Routes.{components_of, bad_component, path_fault}
use Rattle.mc_text.proofs.Components.{bytes_of, names_of, bytes-components, bytes-cons, yields-next, yields-end, names-empty, names-some, fault-empty, fault-name, fault-bad, fault-components, fault-not_absolute, spelled-more}
use Rattle.mc_text.proofs.path.Path.parse.Goals.{then-not-is_empty+in_ok-name_at+in_ok-push, else-not-is_empty}
use Rattle.mc_text.proofs.path.Path.parse.Goals as goal

pub loop-component-init : goal.loop-component-init
loop-component-init c =
    let relative = c.in-Some.relative.now in
    let e : c.args.text.now ≡ 47 ∷ relative = strip_prefix_char 47 c.args.text.now (Some c.in-Some.relative) c.in-Some.ensures.cases (lit< tt) in
    let split = c.split-component-items.ensures in
    rw (c.into_iter-component-iterator.ensures.into_iter_gives, e, c.new-names.ensures.items)
    (record {
      can_next = tt;
      is_finite = tt;
      comes = YieldsList-from_str_split 47 relative (lit< tt) split.text split.has_more split.pattern;
      names = refl;
      fault = refl;
      bytes = omega (arith, bytes-components relative);
      spelled_bytes = refl;
      within = omega arith;
    })

pub loop-component-preserved : goal.loop-component-preserved
loop-component-preserved c =
    let component = c.in-Some-component.component.now in
    let left = drop (length c.loop-component.yielded + 1) (components_of c.args.text.now) in
    let here = c.loop-component.invariant in
    let step = yields-next {t = c.next.new.self} {x = c.in-Some-component.component} here.comes c.in-Some-component.ensures.steps in
    let cut : left ≡ component ∷ drop 1 left = step.0 in
    let next : drop (length (c.loop-component.yielded ++ (c.in-Some-component.component ∷ [])) + 1) (components_of c.args.text.now) ≡ drop 1 left =
    rw (length-append c.loop-component.yielded (c.in-Some-component.component ∷ []))
    (sym (drop-drop 1 (length c.loop-component.yielded + 1) (components_of c.args.text.now))) in
    let bytes : c.loop-component.at + (length component + 1 + bytes_of (drop 1 left)) ≡ length c.args.text.now + 1 =
    ap (λ n. c.loop-component.at + n) (sym (ap bytes_of cut ∙ bytes-cons component (drop 1 left))) ∙ here.bytes in
    rw next
    (elim c.if-not-is_empty.branch [
      | then-not-is_empty+in_ok-name_at+in_ok-push w ↦
          let some : length component ≢ 0 = grind (arith, common_steps) in
          let name : c.if-not-is_empty.names.items ≡ c.loop-component.names.items ++ component ∷ [] = grind (arith, common_steps) in
          record {
            can_next = tt;
            is_finite = tt;
            comes = step.1;
            names = rw name (append_assoc c.loop-component.names.items (component ∷ []) (names_of (drop 1 left))
                ∙ ap (λ n. c.loop-component.names.items ++ n) (sym (ap names_of cut ∙ names-some component (drop 1 left) some)) ∙ here.names);
            fault = sym (ap (bad_component c.loop-component.at) cut ∙ fault-name c.loop-component.at component (drop 1 left) some w.in_ok-name_at.ensures.sound) ∙ here.fault;
            bytes = omega (arith, bytes);
            spelled_bytes = rw name (w.spelled_bytes-is ∙ ap (λ n. n + (1 + length component)) here.spelled_bytes
                ∙ sym (spelled-more c.loop-component.names.items component));
            within = omega arith;
          }
      | else-not-is_empty w ↦
          let none : length component ≡ 0 = grind (arith, common_steps) in
          record {
            can_next = tt;
            is_finite = tt;
            comes = step.1;
            names = rw w.names-is (sym (ap (λ n. c.loop-component.names.items ++ n) (ap names_of cut ∙ names-empty component (drop 1 left) none)) ∙ here.names);
            fault = sym (ap (bad_component c.loop-component.at) cut ∙ fault-empty c.loop-component.at component (drop 1 left) none) ∙ here.fault;
            bytes = omega (arith, bytes);
            spelled_bytes = rw w.names-is (w.spelled_bytes-is ∙ here.spelled_bytes);
            within = omega arith;
          }
    ])

pub returns-in_err-name_at-clause-refused : goal.returns-in_err-name_at-clause-refused
returns-in_err-name_at-clause-refused c =
    let component = c.in-Some-component.component.now in
    let left = drop (length c.loop-component.yielded + 1) (components_of c.args.text.now) in
    let here = c.loop-component.invariant in
    let cut : left ≡ component ∷ drop 1 left = (yields-next {t = c.next.new.self} {x = c.in-Some-component.component} here.comes c.in-Some-component.ensures.steps).0 in
    let some : length component ≢ 0 = grind (arith, common_steps) in
    let short : length c.args.text.now ≤ 4096 = omega arith in
    let begins : c.args.text.now ≡ 47 ∷ c.in-Some.relative.now =
    strip_prefix_char 47 c.args.text.now (Some c.in-Some.relative) c.in-Some.ensures.cases (lit< tt) in
    let whole : path_fault c.args.text.now ≡ bad_component c.loop-component.at left =
    fault-components c.args.text.now c.in-Some.relative.now begins short ∙ sym here.fault in
    let bad : c.in_err-name_at.field-0.0 ≢ Memory → path_fault c.args.text.now ≡ Some c.in_err-name_at.field-0.0 = λ e.
    let found = c.in_err-name_at.ensures.refused e in
    whole ∙ ap (bad_component c.loop-component.at) cut ∙ fault-bad c.loop-component.at component (drop 1 left) some found.1 ∙ ap Some (sym found.0) in
    grind (arith, common_steps, bad)

pub returns-clause-read : goal.returns-clause-read
returns-clause-read c =
    let here = c.loop-component.invariant in
    let end = yields-end here.comes c.in-None.ensures.steps in
    ap reverse (sym (append-nil c.loop-component.names.items)
    ∙ ap (λ left. c.loop-component.names.items ++ names_of left) (sym end) ∙ here.names)

pub returns-clause-sound : goal.returns-clause-sound
returns-clause-sound c =
    let here = c.loop-component.invariant in
    let end = yields-end here.comes c.in-None.ensures.steps in
    let begins : c.args.text.now ≡ 47 ∷ c.in-Some.relative.now =
    strip_prefix_char 47 c.args.text.now (Some c.in-Some.relative) c.in-Some.ensures.cases (lit< tt) in
    fault-components c.args.text.now c.in-Some.relative.now begins (omega arith) ∙ sym here.fault
    ∙ ap (bad_component c.loop-component.at) end

pub returns-in_default-clause-refused : goal.returns-in_default-clause-refused
returns-in_default-clause-refused c e =
    fault-not_absolute c.args.text.now (strip_prefix_char 47 c.args.text.now None c.in_default.ensures.cases (lit< tt))
