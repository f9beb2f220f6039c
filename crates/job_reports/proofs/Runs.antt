-- Calls in a row: what one comes to, and what two rows come to, one behind the other.
use Rattle.std.proofs.Common.{◌≡◌, ℕ, ◌+◌, ◌<◌, ◌≤◌, zero, suc, Bool, List, [], ◌∷◌, ◌++◌, length, take, length-append, refl, sym, ◌∙◌, ap, subst, inl, inr, Option, Some, None, Result, Ok, Err, arith}
use Rattle.mc_text.specs.Routes.{Route}
use Rattle.tree_trait.specs.declared.calls.TreeError.{TreeError}
use Rattle.tree_trait.specs.declared.calls.TreeError.TheVariants as refused
use Rattle.tree_trait.specs.Calls.{Call}
use Rattle.tree_trait.specs.Change.{Change, CallLog, with_change}
use Rattle.tree_trait.specs.Answers.{IfKnown, HasRisen, HasCause, Performs}
use Rattle.job_reports.specs.declared.report.Cause.{Cause}
use Rattle.job_reports.specs.declared.report.Cause.TheVariants.{Tree, TargetKind, SpecialSource, TooDeep, PartTaken, TooLong, Unnamed, Changed, Memory}
use Rattle.job_reports.specs.declared.stop.Stop.{Stop}
use Rattle.job_reports.specs.CallRuns.{AllDone, StopsAt, RunStops, HasMore, path_of}
use Rattle.job_reports.specs.Stops.{RanFolded, Ran, calls_of, made_or_stopped_of, after_calls_of}

-- one change more, or none where there was no memory
pub one_more : (log : CallLog) (c : Change) (now : CallLog) → (let o : Option CallLog = Some (with_change log c) in o) ≡ Some now → HasMore log 1 now
one_more log c now h =
    let is : with_change log c ≡ now = cc in
    ap (λ (l : CallLog). length l.changes) (sym is) ∙ length-append log.changes (c ∷ [])

pub no_more : (log now : CallLog) → (let o : Option CallLog = Some log in o) ≡ Some now → HasMore log 0 now
no_more log now h = let is : log ≡ now = cc in let same = ap (λ (l : CallLog). length l.changes) (sym is) in omega (arith, same)

pub same_more : (before : Option CallLog) → IfKnown before (λ log. IfKnown before (HasMore log 0))
same_more before log known now is = no_more log now (sym known ∙ is)

-- a count that has risen has risen from what it was before
pub risen_before : (a b c : ℕ) → a ≤ b → HasRisen b c → HasRisen a c
risen_before a b c h risen = omega (arith, risen)

pub risen_after : (a b c : ℕ) → HasRisen a b → b ≤ c → HasRisen a c
risen_after a b c risen h = omega (arith, risen)

-- an answer that is no fault
no_fault : {T : Type 0} (e : TreeError) → (e ≡ refused.Fault → ⊥) → (let r : Result T TreeError = Err e in r) ≡ Err refused.Fault → ⊥
no_fault e h is = h cc

-- one call
pub ran_one : (call : Call) (answer : Result (Unit {0}) TreeError) (path : Route) (b : Bool) (before after : Option CallLog) (f0 f1 : ℕ) → path ≡ path_of call
    → IfKnown before (λ log. Performs {A = Unit {0}} log call answer after) → (before ≡ None → after ≡ None) → HasCause refused.Fault f0 f1 answer
    → Ran (call ∷ []) b (made_or_stopped_of answer path b) before after f0 f1
ran_one call (Ok done) path b before after f0 f1 at called unknown cause = record {
  done = λ log known. let h = called log known in (with_change log _, (h.0, (h.1.0, refl)), h.1.1);
  stopped = tt;
  barrier = tt;
  counted = λ log known now is. let h = called log known in one_more log _ now (sym h.1.1 ∙ is);
  few = omega arith;
  unknown = unknown;
  later = cause.later;
  fault = tt;
}
ran_one call (Err refused.Memory) path b before after f0 f1 at called unknown cause = record {
  done = tt;
  stopped = λ log known. (refl, (0, omega arith, called log known));
  barrier = refl;
  counted = λ log known now is. no_more log now (sym (called log known) ∙ is);
  few = omega arith;
  unknown = unknown;
  later = cause.later;
  fault = λ h. absurd cc;
}
ran_one call (Err refused.Fault) path b before after f0 f1 at called unknown cause = record {
  done = tt;
  stopped = λ log known. (call, ap Some at, inl (refl, called log known));
  barrier = refl;
  counted = λ log known now is. let h = called log known in one_more log _ now (sym h.1.1 ∙ is);
  few = omega arith;
  unknown = unknown;
  later = cause.later;
  fault = λ h. cause.risen refl;
}
ran_one call (Err e) path b before after f0 f1 at called unknown cause = record {
  done = tt;
  stopped = λ log known. (call, ap Some at, inl (refl, called log known));
  barrier = refl;
  counted = λ log known now is. let h = called log known in one_more log _ now (sym h.1 ∙ is);
  few = omega arith;
  unknown = unknown;
  later = cause.later;
  fault = λ h. absurd cc;
}

-- one call whose answer was told so
pub ran_call : (call : Call) (answer : Result (Unit {0}) TreeError) (path : Route) (b : Bool) (before after : Option CallLog) (f0 f1 : ℕ) (r : Result ℕ Stop) → r ≡ made_or_stopped_of answer path b
    → path ≡ path_of call → IfKnown before (λ log. Performs {A = Unit {0}} log call answer after) → (before ≡ None → after ≡ None) → HasCause refused.Fault f0 f1 answer
    → Ran (call ∷ []) b r before after f0 f1
ran_call call answer path b before after f0 f1 r is at called unknown cause =
    subst (λ q. Ran (call ∷ []) b q before after f0 f1) (sym is) (ran_one call answer path b before after f0 f1 at called unknown cause)

-- no call at all
pub ran_none : (b : Bool) (before : Option CallLog) (f : ℕ) → Ran [] b (Ok 0) before before f f
ran_none b before f = record {
  done = λ log known. known;
  stopped = tt;
  barrier = tt;
  counted = same_more before;
  few = omega arith;
  unknown = λ h. h;
  later = omega arith;
  fault = tt;
}

-- calls that were done leave a log
pub all_some : (xs : List Call) (log : CallLog) (after : Option CallLog) → AllDone log xs after → (now : CallLog) × (after ≡ Some now)
all_some [] log after h = (log, h)
all_some (x ∷ xs) log after h = all_some xs h.0 after h.2

pub all_then : (xs ys : List Call) (log mid : CallLog) (after : Option CallLog) → AllDone log xs (Some mid) → AllDone mid ys after → AllDone log (xs ++ ys) after
all_then [] ys log mid after h k = let same : mid ≡ log = cc in subst (λ l. AllDone l ys after) same k
all_then (x ∷ xs) ys log mid after h k = (h.0, h.1, all_then xs ys h.0 mid after h.2 k)

stops_then : (xs ys : List Call) (log mid : CallLog) (call : Call) (e : TreeError) (after : Option CallLog)
    → AllDone log xs (Some mid) → StopsAt mid ys call e after → StopsAt log (xs ++ ys) call e after
stops_then [] ys log mid call e after h k = let same : mid ≡ log = cc in subst (λ l. StopsAt l ys call e after) same k
stops_then (x ∷ xs) ys log mid call e after h k = inr (h.0, h.1, stops_then xs ys h.0 mid call e after h.2 k)

stops_more : (xs ys : List Call) (log : CallLog) (call : Call) (e : TreeError) (after : Option CallLog) → StopsAt log xs call e after → StopsAt log (xs ++ ys) call e after
stops_more [] ys log call e after h = absurd h
stops_more (x ∷ xs) ys log call e after (inl h) = inl h
stops_more (x ∷ xs) ys log call e after (inr h) = inr (h.0, h.1, stops_more xs ys h.0 call e after h.2)

some_then : (xs ys : List Call) (log mid : CallLog) (n : ℕ) (after : Option CallLog) → AllDone log xs (Some mid) → AllDone mid (take n ys) after
    → AllDone log (take (length xs + n) (xs ++ ys)) after
some_then [] ys log mid n after h k =
    let same : mid ≡ log = cc in
    let e : n ≡ 0 + n = omega arith in
    subst (λ m. AllDone log (take m ys) after) e (subst (λ l. AllDone l (take n ys) after) same k)
some_then (x ∷ xs) ys log mid n after h k =
    let e : suc (length xs + n) ≡ length (x ∷ xs) + n = omega arith in
    subst (λ m. AllDone log (take m ((x ∷ xs) ++ ys)) after) e (h.0, h.1, some_then xs ys h.0 mid n after h.2 k)

some_more : (xs ys : List Call) (log : CallLog) (n : ℕ) (after : Option CallLog) → n < length xs → AllDone log (take n xs) after → AllDone log (take n (xs ++ ys)) after
some_more [] ys log n after less h = absurd (omega (arith, less))
some_more (x ∷ xs) ys log zero after less h = h
some_more (x ∷ xs) ys log (suc n) after less h = (h.0, h.1, some_more xs ys h.0 n after (omega (arith, less)) h.2)

pub run_then : (xs ys : List Call) (log mid : CallLog) (cause : Cause) (path : Option Route) (after : Option CallLog)
    → AllDone log xs (Some mid) → RunStops ys cause path mid after → RunStops (xs ++ ys) cause path log after
run_then xs ys log mid (Tree e) path after h k = (k.0, k.1, stops_then xs ys log mid k.0 e after h k.2)
run_then xs ys log mid Memory path after h k =
    let less = k.1.1 in
    (k.0, (length xs + k.1.0, omega (arith, less, length-append xs ys), some_then xs ys log mid k.1.0 after h k.1.2))
run_then xs ys log mid (TargetKind kind) path after h k = k
run_then xs ys log mid SpecialSource path after h k = k
run_then xs ys log mid TooDeep path after h k = k
run_then xs ys log mid (Unnamed count) path after h k = k
run_then xs ys log mid PartTaken path after h k = k
run_then xs ys log mid TooLong path after h k = k
run_then xs ys log mid (Changed said got) path after h k = k

pub run_more : (xs ys : List Call) (log : CallLog) (cause : Cause) (path : Option Route) (after : Option CallLog)
    → RunStops xs cause path log after → RunStops (xs ++ ys) cause path log after
run_more xs ys log (Tree e) path after k = (k.0, k.1, stops_more xs ys log k.0 e after k.2)
run_more xs ys log Memory path after k =
    let less = k.1.1 in
    (k.0, (k.1.0, omega (arith, less, length-append xs ys), some_more xs ys log k.1.0 after less k.1.2))
run_more xs ys log (TargetKind kind) path after k = k
run_more xs ys log SpecialSource path after k = k
run_more xs ys log TooDeep path after k = k
run_more xs ys log (Unnamed count) path after k = k
run_more xs ys log PartTaken path after k = k
run_more xs ys log TooLong path after k = k
run_more xs ys log (Changed said got) path after k = k

module _ (xs ys : List Call) (b : Bool) (before mid after : Option CallLog) (f0 f1 f2 : ℕ) where
  -- calls that were done, and then others
  pub ran_then : (n : ℕ) (r : Result ℕ Stop) → Ran xs b (Ok n) before mid f0 f1 → Ran ys b r mid after f1 f2 → Ran (xs ++ ys) b (after_calls_of n r) before after f0 f2
  ran_then n (Ok m) one two = record {
    done = λ log known.
        let middle = all_some xs log mid (one.done log known) in
        all_then xs ys log middle.0 after (subst (AllDone log xs) middle.1 (one.done log known)) (two.done middle.0 middle.1);
    stopped = tt;
    barrier = tt;
    counted = λ log known now is.
        let middle = all_some xs log mid (one.done log known) in
        let first = one.counted log known middle.0 middle.1 in
        let second = two.counted middle.0 middle.1 now is in
        omega (arith, first, second);
    few = omega (arith, one.few, two.few, length-append xs ys);
    unknown = λ h. two.unknown (one.unknown h);
    later = omega (arith, one.later, two.later);
    fault = tt;
  }
  ran_then n (Err stop) one two = record {
    done = tt;
    stopped = λ log known.
        let middle = all_some xs log mid (one.done log known) in
        run_then xs ys log middle.0 stop.trouble.cause stop.trouble.path after (subst (AllDone log xs) middle.1 (one.done log known)) (two.stopped middle.0 middle.1);
    barrier = two.barrier;
    counted = λ log known now is.
        let middle = all_some xs log mid (one.done log known) in
        let first = one.counted log known middle.0 middle.1 in
        let second = two.counted middle.0 middle.1 now is in
        omega (arith, first, second);
    few = omega (arith, one.few, two.few, length-append xs ys);
    unknown = λ h. two.unknown (one.unknown h);
    later = omega (arith, one.later, two.later);
    fault = λ h. risen_before f0 f1 f2 one.later (two.fault h);
  }

  pub ran_told : (n : ℕ) (r told : Result ℕ Stop) → told ≡ after_calls_of n r → Ran xs b (Ok n) before mid f0 f1 → Ran ys b r mid after f1 f2 → Ran (xs ++ ys) b told before after f0 f2
  ran_told n r told is one two = subst (λ q. Ran (xs ++ ys) b q before after f0 f2) (sym is) (ran_then n r one two)

-- calls that stopped are the same with others to come behind them
pub ran_stopped : (xs ys : List Call) (b : Bool) (before after : Option CallLog) (f0 f1 : ℕ) (stop : Stop)
    → Ran xs b (Err stop) before after f0 f1 → Ran (xs ++ ys) b (Err stop) before after f0 f1
ran_stopped xs ys b before after f0 f1 stop one = record {
  done = tt;
  stopped = λ log known. run_more xs ys log stop.trouble.cause stop.trouble.path after (one.stopped log known);
  barrier = one.barrier;
  counted = one.counted;
  few = omega (arith, one.few, length-append xs ys);
  unknown = one.unknown;
  later = one.later;
  fault = one.fault;
}

-- the same of calls whose row is closed
pub comes_few : (calls : List Call) (b : Bool) (r : Result ℕ Stop) (before after : Option CallLog) (f0 f1 : ℕ) → RanFolded calls b r before after f0 f1 → calls_of r ≤ length calls
unfolding RanFolded
comes_few calls b r before after f0 f1 h = h.few

-- a call that was done, and then another
pub comes_then : (x y : Call) (b : Bool) (before mid after : Option CallLog) (f0 f1 f2 : ℕ) (n : ℕ) (r told : Result ℕ Stop) → told ≡ after_calls_of n r
    → RanFolded (x ∷ []) b (Ok n) before mid f0 f1 → RanFolded (y ∷ []) b r mid after f1 f2 → RanFolded (x ∷ y ∷ []) b told before after f0 f2
unfolding RanFolded
comes_then x y b before mid after f0 f1 f2 n r told is one two = ran_told (x ∷ []) (y ∷ []) b before mid after f0 f1 f2 n r told is one two

-- a call that stopped, and no other
pub comes_stopped : (x y : Call) (b : Bool) (before after : Option CallLog) (f0 f1 : ℕ) (stop : Stop)
    → RanFolded (x ∷ []) b (Err stop) before after f0 f1 → RanFolded (x ∷ y ∷ []) b (Err stop) before after f0 f1
unfolding RanFolded
comes_stopped x y b before after f0 f1 stop one = ran_stopped (x ∷ []) (y ∷ []) b before after f0 f1 stop one

-- what two calls come to, of what each comes to
pub ruleset two_calls = (comes_then, comes_stopped, comes_few)
