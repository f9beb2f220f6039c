-- What `clap` says of a parse, for the program's command.
use Rattle.std.proofs.Common.{◌≡◌, ◌≢◌, true, false, List, [], ◌∷◌, refl, sym, ap, ap₂, ◌∙◌, inl, inr, rules}
use Rattle.clap.specs.Words.{App, Text, Kinds, HasKind, fault_of, first_of, first_value, found_of, is_simple, is_simple_and_free, matches_of, rows_of, kind_of}
use Rattle.clap.specs.Walk.{is_empty}
use Rattle.clap.specs.declared.error.Error.{Error}
use Rattle.clap.specs.declared.error.kind.ErrorKind.TheVariants as kind
use Rattle.clap.specs.declared.parser.matches.ArgMatches.{ArgMatches}
use Rattle.clap.proofs.OnLiterals.{clap_on_literals}
use Rattle.clap.proofs.WalkLemmas.{first_value-rows}
use Rattle.main_words.specs.Profile.{mc_app, are_read, rows_of_words, value_in}

-- `clap` gives the matches and the faults of this command in full
pub mc_app-free : is_simple_and_free mc_app ≡ true
unfolding clap_on_literals mc_app
mc_app-free = refl

pub mc_app-simple : is_simple mc_app ≡ true
unfolding clap_on_literals mc_app
mc_app-simple = refl

pub is_free : (a : App) → a ≡ mc_app → is_simple_and_free a ≡ true
is_free a e = ap is_simple_and_free e ∙ mc_app-free

pub is_simple_app : (a : App) → a ≡ mc_app → is_simple a ≡ true
is_simple_app a e = ap is_simple e ∙ mc_app-simple

empty-cons : {X : Type 0} (x : X) (xs : List X) → is_empty (x ∷ xs) ≡ false
empty-cons x xs = search rules

-- no fault
pub are_read-ok : (a : App) (ws words : List Text) → a ≡ mc_app → ws ≡ words → fault_of a ws ≡ [] → are_read words ≡ true
unfolding are_read
are_read-ok a ws words e same none = ap is_empty (sym (ap₂ fault_of e same) ∙ none)

not_empty : (kinds : Kinds) (e : Error) → HasKind kinds e → kind_of e ≢ kind.OutOfMemory → is_empty kinds ≡ false
not_empty [] e (inl memory) ne = absurd (ne memory)
not_empty [] e (inr among) ne = absurd among
not_empty (k ∷ ks) e h ne = empty-cons k ks

-- a fault that isn't want of memory
pub are_read-err : (a : App) (ws words : List Text) (error : Error) → a ≡ mc_app → ws ≡ words → HasKind (fault_of a ws) error
    → kind_of error ≢ kind.OutOfMemory → are_read words ≡ false
unfolding are_read
are_read-err a ws words error e same has ne = ap is_empty (sym (ap₂ fault_of e same)) ∙ not_empty (fault_of a ws) error has ne

-- the values
pub value_in-found : (a : App) (ws words : List Text) (m : ArgMatches) (id : Text) → a ≡ mc_app → ws ≡ words
    → rows_of (found_of m) ≡ matches_of a ws → first_value (found_of m) id ≡ value_in words id
unfolding value_in rows_of_words
value_in-found a ws words m id e same rows = first_value-rows (found_of m) id ∙ ap (first_of id) (rows ∙ ap₂ matches_of e same)
