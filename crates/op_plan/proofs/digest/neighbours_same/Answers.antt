use Rattle.std.proofs.Common.{◌==◌, ◌-◌, ◌<◌, sym, ℕ, length, get_or, arith}
use Rattle.std.proofs.lemmas.List.{get_or_default}
use Rattle.op_plan.proofs.DigestLemmas.{number-same}
use Rattle.op_plan.proofs.Sorted.{neighbours-at, neighbours-all}
use Rattle.op_plan.proofs.digest.neighbours_same.Goals as goal

pub returns-then-sorted-i : goal.returns-then-sorted-i
returns-then-sorted-i c =
    let numbers = c.args.sorted.now in
    let i = c.loop-i.i in
    let smaller : i - 1 < length numbers = omega (arith, c.loop-i-test.true) in
    let before = get_or numbers (i - 1) 0 in
    let number = get_or numbers i 0 in
    sym (neighbours-at (λ (a b : ℕ). a == b) numbers i before number (omega arith) c.loop-i-test.true
    (get_or_default numbers (i - 1) 0 before smaller) (get_or_default numbers i 0 number c.loop-i-test.true) (number-same before number c.if-sorted-i.true))

pub returns : goal.returns
returns c = sym (neighbours-all (λ (a b : ℕ). a == b) c.args.sorted.now c.loop-i.i (omega arith) c.loop-i.invariant)
