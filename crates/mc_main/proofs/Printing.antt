-- What is printed in place of a session, and where none starts.
use Rattle.std.proofs.Common.{◌≡◌, ◌≢◌, ◌<◌, ◌≤◌, ℕ, true, List, ◌++◌, refl, sym, subst, ap, ◌∙◌, inl, inr, Option, Some, None, IsSome, arith}
use Rattle.tree_trait.specs.Change.{CallLog, current}
use Rattle.tree_trait.specs.Answers.{HasRisen, IfKnown}
use Rattle.mc_text.specs.Routes.{Route}
use Rattle.main_words.specs.Asked.{asked_by}
use Rattle.main_words.specs.Folders.{started_in}
use Rattle.mc_main.specs.declared.words.Surroundings.{Surroundings}
use Rattle.main_words.specs.declared.words.Words.{Words}
use Rattle.main_words.specs.declared.words.Words.TheVariants.{Panels, View, NotBuilt}
use Rattle.main_words.specs.declared.words.Words.TheVariants as asks
use Rattle.mc_desk.specs.declared.starts.StartError.{StartError}
use Rattle.mc_desk.specs.declared.starts.StartError.TheVariants.{Resolve, Memory}
use Rattle.mc_desk.specs.declared.starts.Start.{Start}
use Rattle.mc_desk.specs.declared.starts.StartMode.{StartMode}
use Rattle.mc_desk.specs.declared.starts.StartMode.TheVariants as opens
use Rattle.mc_desk.specs.declared.starts.StartPlace.{StartPlace}
use Rattle.mc_desk.specs.Starts.{IsStartCause, is_start_fault}
use Rattle.mc_main.specs.declared.words.Printed.{Printed}
use Rattle.mc_main.specs.declared.words.Printed.TheVariants.{Usage, Help, Version}
use Rattle.mc_main.specs.declared.words.Typed.{Typed}
use Rattle.mc_main.specs.declared.words.Typed.TheVariants as said
use Rattle.mc_main.specs.declared.words.Beginning.{Beginning}
use Rattle.mc_main.specs.declared.words.Beginning.TheVariants.{Session, Print}
use Rattle.mc_main.specs.Beginnings.{AskFor, IsBeginning, asked_in, printed_for, session_start, start_with, start_word, status_with, text_of, word_for}
use Rattle.mc_main.specs.Statuses.{BeginsNone, IsStatusOr}
use Rattle.mc_main.specs.StartRefusals.{IsComplete, RefusesStart}
use Rattle.mc_main.specs.Printed.{IsCauseIn, MayPut, MayPutCause, PrintsCause, PrintsStart, PutsSome, start_line}

-- what was typed for a path is the word that names it
names_word : (place : StartPlace) (asked : Option Words) (start : StartMode) (word : Typed) → AskFor asked start word → start_word place asked ≡ word_for place word
names_word place asked (opens.Panels left right) (said.Panels on_left on_right) is = ap (start_word place) is
names_word place asked (opens.Panels left right) (said.File word) is = absurd is
names_word place asked (opens.View path) (said.Panels on_left on_right) is = absurd is
names_word place asked (opens.View path) (said.File word) is = ap (start_word place) is

-- a session starts at the paths that its words name
starts_at : (around : Surroundings) (asked : Option Words) (start : StartMode) (word : Typed) → AskFor asked start word → session_start around asked ≡ Some (start_with around start)
starts_at around asked (opens.Panels left right) (said.Panels on_left on_right) is = ap (session_start around) is
starts_at around asked (opens.Panels left right) (said.File word) is = absurd is
starts_at around asked (opens.View path) (said.Panels on_left on_right) is = absurd is
starts_at around asked (opens.View path) (said.File word) is = ap (session_start around) is

-- in its surroundings
pub starts_in : (around : Surroundings) (asked : Option Words) (start : Start) (typed : Typed) → IsBeginning around asked (Session start typed) → session_start around asked ≡ Some start
starts_in around asked start typed is =
    starts_at around asked start.mode typed is.0
    ∙ (ap (λ h. Some (let s : Start = record { mode = start.mode; home = h; lines = around.lines; columns = around.columns } in s)) (sym is.1)
    ∙ ap (λ n. Some (let s : Start = record { mode = start.mode; home = start.home; lines = n; columns = around.columns } in s)) (sym is.2)
    ∙ ap (λ n. Some (let s : Start = record { mode = start.mode; home = start.home; lines = start.lines; columns = n } in s)) (sym is.3))

-- why it doesn't start is the cause in what was asked for
cause_in : (log : CallLog) (around : Surroundings) (asked : Option Words) (start : Start) (typed : Typed) (error : StartError) → IsBeginning around asked (Session start typed) → IsStartCause (current log) start.mode error
    → IsCauseIn log (session_start around asked) error
cause_in log around asked start typed error is why = subst (λ o. IsCauseIn log o error) (sym (starts_in around asked start typed is)) why

-- the line for a path that is refused has the cause for which the session doesn't start
pub prints_start : (contents : Option CallLog) (around : Surroundings) (asked : Option Words) (start : Start) (typed : Typed) (error : StartError) (faults faults_after : ℕ) (before : List ℕ) (given : Option (List ℕ)) → IsBeginning around asked (Session start typed) → error ≢ Memory
    → IfKnown contents (λ log. IsStartCause (current log) start.mode error) → (is_start_fault error ≡ true → HasRisen faults faults_after) → PrintsCause typed error before given
    → PrintsStart contents around asked faults faults_after before given
prints_start contents around asked start typed Memory faults faults_after before given is some why risen prints = absurd (some refl)
prints_start contents around asked start typed (Resolve place cause) faults faults_after before given is some why risen prints = record {
  place = place;
  cause = cause;
  is_cause = λ log known. cause_in log around asked start typed (Resolve place cause) is (why log known);
  risen = risen;
  line = prints ∙ ap (λ word. Some (before ++ start_line word cause)) (sym (names_word place asked start.mode typed is.0));
}

-- how a run begins that was told as a match gives it
pub print_is : (around : Surroundings) (asked : Option Words) (beginning : Beginning) (printed : Printed) → IsBeginning around asked beginning → beginning ≡ Print printed → printed_for asked ≡ Some printed
print_is around asked beginning printed is same = subst (λ b. IsBeginning around asked b) same is

pub session_is : (around : Surroundings) (asked : Option Words) (beginning : Beginning) (start : Start) (typed : Typed) → IsBeginning around asked beginning → beginning ≡ Session start typed → IsBeginning around asked (Session start typed)
session_is around asked beginning start typed is same = subst (λ b. IsBeginning around asked b) same is

-- no text has a status above 1
pub status_few : (printed : Printed) → status_with printed < 2
status_few Usage = omega arith
status_few Help = omega arith
status_few Version = omega arith

-- what was read of the words is what they ask for
pub asked_read : (folder text : List ℕ) (words : List (List ℕ)) (started : Route) (asked : Option Words) → started ≡ started_in text → text ≡ folder → asked_by started words ≡ asked → asked_in folder words ≡ asked
unfolding asked_in
asked_read folder text words started asked is same read = sym (ap (λ route. asked_by route words) (is ∙ ap started_in same)) ∙ read

-- nothing is printed in place of a session
asks_for_none : (asked : Option Words) (start : StartMode) (word : Typed) → AskFor asked start word → printed_for asked ≡ None
asks_for_none asked (opens.Panels left right) (said.Panels on_left on_right) is = ap printed_for is
asks_for_none asked (opens.Panels left right) (said.File word) is = absurd is
asks_for_none asked (opens.View path) (said.Panels on_left on_right) is = absurd is
asks_for_none asked (opens.View path) (said.File word) is = ap printed_for is

pub prints_none : (around : Surroundings) (asked : Option Words) (start : Start) (typed : Typed) → IsBeginning around asked (Session start typed) → printed_for asked ≡ None
prints_none around asked start typed is = asks_for_none asked start.mode typed is.0

-- where a text is printed no session starts
pub no_folders : (around : Surroundings) (asked : Option Words) (printed : Printed) → printed_for asked ≡ Some printed → session_start around asked ≡ None
no_folders around None printed is = refl
no_folders around (Some asks.Help) printed is = refl
no_folders around (Some asks.Version) printed is = refl
no_folders around (Some (Panels left right)) printed is = cc
no_folders around (Some (View file)) printed is = cc
no_folders around (Some NotBuilt) printed is = refl

-- only the usage line has status 1
pub usage_printed : (printed : Printed) (status : ℕ) → IsStatusOr (status_with printed) status → status ≡ 1 → printed ≡ Usage
usage_printed Usage status is one = refl
usage_printed Help status (inl is) one = absurd (omega (arith, is, one))
usage_printed Help status (inr (inl is)) one = absurd (omega (arith, is, one))
usage_printed Help status (inr (inr is)) one = absurd (omega (arith, is, one))
usage_printed Version status (inl is) one = absurd (omega (arith, is, one))
usage_printed Version status (inr (inl is)) one = absurd (omega (arith, is, one))
usage_printed Version status (inr (inr is)) one = absurd (omega (arith, is, one))

-- the status of a run in which a text was printed
pub begins_none : (asked : Option Words) (printed : Printed) (status : ℕ) → printed_for asked ≡ Some printed → IsStatusOr (status_with printed) status → BeginsNone asked status
begins_none asked Usage status is (inl one) = inr (inl one)
begins_none asked Help status is (inl zero_status) = inl (zero_status, subst (λ (o : Option Printed). IsSome o) (sym is) refl)
begins_none asked Version status is (inl zero_status) = inl (zero_status, subst (λ (o : Option Printed). IsSome o) (sym is) refl)
begins_none asked printed status is (inr cut) = inr (inr (inr cut))

-- a run that printed a text has its status, 4 or 5
pub not_at : (own status at : ℕ) → own < 2 → 2 ≤ at → at < 4 → IsStatusOr own status → status ≢ at
not_at own status at few least most (inl is) same = absurd (omega (arith, few, least, is, same))
not_at own status at few least most (inr (inl is)) same = absurd (omega (arith, most, is, same))
not_at own status at few least most (inr (inr is)) same = absurd (omega (arith, most, is, same))

pub at_most_five : (own status : ℕ) → own < 2 → IsStatusOr own status → status ≤ 5
at_most_five own status few (inl is) = omega (arith, few, is)
at_most_five own status few (inr (inl is)) = omega (arith, is)
at_most_five own status few (inr (inr is)) = omega (arith, is)

-- what is said of the text that is printed
pub prints_it : (asked : Option Words) (printed other : Printed) (status : ℕ) → printed_for asked ≡ Some printed → printed_for asked ≡ Some other → IsStatusOr (status_with printed) status → IsStatusOr (status_with other) status
prints_it asked printed other status is known at =
    let both : Some printed ≡ Some other = sym is ∙ known in
    let same : printed ≡ other = cc in
    subst (λ p. IsStatusOr (status_with p) status) same at

pub text_given : (asked : Option Words) (printed other : Printed) (before text : List ℕ) (given : Option (List ℕ)) → printed_for asked ≡ Some printed → printed_for asked ≡ Some other → text ≡ text_of printed → given ≡ Some (before ++ text) → given ≡ Some (before ++ text_of other)
text_given asked printed other before text given is known says line =
    let both : Some printed ≡ Some other = sym is ∙ known in
    let same : printed ≡ other = cc in
    line ∙ ap (λ t. Some (before ++ t)) (says ∙ ap text_of same)

pub below_four : (asked : Option Words) (printed other : Printed) (status : ℕ) → printed_for asked ≡ Some printed → printed_for asked ≡ Some other → status_with printed < 2 → status ≡ status_with other → status < 4
below_four asked printed other status is known few at =
    let both : Some printed ≡ Some other = sym is ∙ known in
    let same : printed ≡ other = cc in
    let less : status_with other < 2 = subst (λ p. status_with p < 2) same few in
    omega (arith, less, at)

pub usage_asked : (asked : Option Words) (printed : Printed) (status : ℕ) → printed_for asked ≡ Some printed → IsStatusOr (status_with printed) status → status ≡ 1 → printed_for asked ≡ Some Usage
usage_asked asked printed status is at one = is ∙ ap (λ p. Some p) (usage_printed printed status at one)

-- nothing is printed, so nothing is said of it
pub prints_not : {A : Type 0} (around : Surroundings) (asked : Option Words) (start : Start) (typed : Typed) (other : Printed) → IsBeginning around asked (Session start typed) → printed_for asked ≡ Some other → A
prints_not around asked start typed other is known = absurd (let none = prints_none around asked start typed is in cc)

pub some_prints_not : {A : Type 0} (around : Surroundings) (asked : Option Words) (start : Start) (typed : Typed) → IsBeginning around asked (Session start typed) → IsSome (printed_for asked) → A
some_prints_not around asked start typed is some = absurd (let none = prints_none around asked start typed is in cc)

-- no session was asked for, so no start is refused
pub refuses_none : (log : CallLog) (around : Surroundings) (asked : Option Words) (printed : Printed) (status : ℕ) → printed_for asked ≡ Some printed → RefusesStart log (session_start around asked) status
refuses_none log around asked printed status is = subst (λ o. RefusesStart log o status) (sym (no_folders around asked printed is)) tt

pub completes_none : (log : CallLog) (around : Surroundings) (asked : Option Words) (printed : Printed) (status : ℕ) (failed : Type 0) → printed_for asked ≡ Some printed → IsComplete log (session_start around asked) status failed
completes_none log around asked printed status failed is = subst (λ o. IsComplete log o status failed) (sym (no_folders around asked printed is)) tt

-- what a run puts that prints a text, or whose start is refused
pub put_printed : (contents : Option CallLog) (around : Surroundings) (asked : Option Words) (printed : Printed) (before text : List ℕ) (given : Option (List ℕ)) → printed_for asked ≡ Some printed → text ≡ text_of printed
    → PutsSome before text given → MayPut contents around asked before given
put_printed contents around asked printed before text given is says puts = inr (inl (printed, is, subst (λ t. PutsSome before t given) says puts))

pub put_start : (contents : Option CallLog) (around : Surroundings) (asked : Option Words) (start : Start) (typed : Typed) (error : StartError) (before : List ℕ) (given : Option (List ℕ)) → IsBeginning around asked (Session start typed)
    → IfKnown contents (λ log. IsStartCause (current log) start.mode error) → MayPutCause typed error before given → MayPut contents around asked before given
put_start contents around asked start typed Memory before given is why same = inl same
put_start contents around asked start typed (Resolve place cause) before given is why (inl same) = inl same
put_start contents around asked start typed (Resolve place cause) before given is why (inr puts) =
    inr (inr (
      place,
      cause,
      subst (λ (o : Option Start). IsSome o) (sym (starts_in around asked start typed is)) refl,
      λ log known. cause_in log around asked start typed (Resolve place cause) is (why log known),
      subst (λ word. PutsSome before (start_line word cause) given) (sym (names_word place asked start.mode typed is.0)) puts,
    ))
