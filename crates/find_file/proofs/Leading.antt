-- What is passed in silence, joined; and what is told behind it.
use Rattle.std.proofs.Common.{◌≡◌, List, [], ◌∷◌, ◌++◌, map, refl, sym, ap, ◌∙◌, append_assoc}
use Rattle.std.specs.Prelude.{Option, Some, None, Result, Ok, Err, IsErr}
use Rattle.std.proofs.lemmas.List.{map-append}
use Rattle.mc_text.specs.declared.error.NoMemory.{NoMemory}
use Rattle.tree_trait.specs.declared.file_system.FileSystem.{FileSystem}
use Rattle.tree_trait.specs.declared.calls.TreeError.TheVariants.{Missing, NotFolder, Denied, Exists, IsFolder, NotEmpty, IntoItself, Mounted, CrossMount, NoSpace, Special, Fault, Memory}
use Rattle.mc_text.specs.Routes.{Route}
use Rattle.find_file.specs.declared.found.Found.{Found}
use Rattle.find_file.specs.declared.found.Found.TheVariants.{Path, Skipped, End}
use Rattle.find_file.specs.declared.search.Search.{Search}
use Rattle.find_file.specs.FoundList.{Turn, told_in}
use Rattle.find_file.specs.FoundList.Turn.{At, Tells}
use Rattle.find_file.specs.Walks.{of_task}
use Rattle.find_file.specs.Telling.{Leads, Advances, Answers, IsFirst, IsNext}

pub leads-on : (one two three : List Turn) → Leads one two → Leads two three → Leads one three
leads-on one two three first second = record {
  past = first.past ++ second.past;
  is = first.is ∙ ap (λ l. map At first.past ++ l) second.is ∙ sym (append_assoc (map At first.past) (map At second.past) three)
      ∙ ap (λ l. l ++ three) (sym (map-append At first.past second.past));
}

-- what is told behind that is what is told from there
module _ (s : FileSystem) (search : Search) (before now after : List Turn) (way : Leads before now) where
  skipped : (found : Found) → Leads now (Tells found ∷ after) → Leads before (Tells found ∷ after)
  skipped found h = leads-on before now (Tells found ∷ after) way h

  pub told-on : (r : Result (Option Found) NoMemory) → Advances s search now r after → Advances s search before r after
  told-on (Err e) h = leads-on before now after way h
  told-on (Ok None) h = leads-on before now after way h
  told-on (Ok (Some (Path path))) h = skipped (Path path) h
  told-on (Ok (Some End)) h = (leads-on before now [] way h.0, h.1)
  told-on (Ok (Some (Skipped path Fault))) h = record {
    task = h.task;
    place = h.place;
    allowed = h.allowed;
    missing = leads-on before now (of_task s search (Some h.task) ++ after) way h.missing;
  }
  told-on (Ok (Some (Skipped path Memory))) h = skipped (Skipped path Memory) h
  told-on (Ok (Some (Skipped path Missing))) h = skipped (Skipped path Missing) h
  told-on (Ok (Some (Skipped path NotFolder))) h = skipped (Skipped path NotFolder) h
  told-on (Ok (Some (Skipped path Denied))) h = skipped (Skipped path Denied) h
  told-on (Ok (Some (Skipped path Exists))) h = skipped (Skipped path Exists) h
  told-on (Ok (Some (Skipped path IsFolder))) h = skipped (Skipped path IsFolder) h
  told-on (Ok (Some (Skipped path NotEmpty))) h = skipped (Skipped path NotEmpty) h
  told-on (Ok (Some (Skipped path IntoItself))) h = skipped (Skipped path IntoItself) h
  told-on (Ok (Some (Skipped path Mounted))) h = skipped (Skipped path Mounted) h
  told-on (Ok (Some (Skipped path CrossMount))) h = skipped (Skipped path CrossMount) h
  told-on (Ok (Some (Skipped path NoSpace))) h = skipped (Skipped path NoSpace) h
  told-on (Ok (Some (Skipped path Special))) h = skipped (Skipped path Special) h

-- without memory what is to come waits
pub answers-want : (s : FileSystem) (search : Search) (before after : List Turn) (r : Result Found NoMemory) → IsErr r → Leads before after → Answers s search before r after
answers-want s search before after (Ok found) h way = absurd (cc)
answers-want s search before after (Err e) h way = way

-- ---- what is told

told-past : (past : List Route) (turns : List Turn) → told_in (map At past ++ turns) ≡ told_in turns
unfolding told_in
told-past [] turns = refl
told-past (path ∷ past) turns = told-past past turns

pub told-leads : (before after : List Turn) → Leads before after → told_in before ≡ told_in after
told-leads before after way = ap told_in way.is ∙ told-past way.past after

module _ (s : FileSystem) (search : Search) (before after : List Turn) where
  first : (found : Found) → Leads before (Tells found ∷ after) → told_in before ≡ found ∷ told_in after
  unfolding told_in
  first found way = told-leads before (Tells found ∷ after) way

  -- an answer is the first of what is to be found
  pub first-of : (r : Result Found NoMemory) → Answers s search before r after → IsFirst (told_in before) r (told_in after)
  unfolding told_in
  first-of (Err e) h = told-leads before after h
  first-of (Ok (Path path)) h = first (Path path) h
  first-of (Ok End) h = (told-leads before [] h.0, ap told_in h.1)
  first-of (Ok (Skipped path Fault)) h = tt
  first-of (Ok (Skipped path Memory)) h = first (Skipped path Memory) h
  first-of (Ok (Skipped path Missing)) h = first (Skipped path Missing) h
  first-of (Ok (Skipped path NotFolder)) h = first (Skipped path NotFolder) h
  first-of (Ok (Skipped path Denied)) h = first (Skipped path Denied) h
  first-of (Ok (Skipped path Exists)) h = first (Skipped path Exists) h
  first-of (Ok (Skipped path IsFolder)) h = first (Skipped path IsFolder) h
  first-of (Ok (Skipped path NotEmpty)) h = first (Skipped path NotEmpty) h
  first-of (Ok (Skipped path IntoItself)) h = first (Skipped path IntoItself) h
  first-of (Ok (Skipped path Mounted)) h = first (Skipped path Mounted) h
  first-of (Ok (Skipped path CrossMount)) h = first (Skipped path CrossMount) h
  first-of (Ok (Skipped path NoSpace)) h = first (Skipped path NoSpace) h
  first-of (Ok (Skipped path Special)) h = first (Skipped path Special) h

  -- what a step tells is the first of that, if it tells anything
  pub next-of : (told : Option Found) → Advances s search before (Ok told) after → IsNext (told_in before) told (told_in after)
  next-of None h = told-leads before after h
  next-of (Some found) h = first-of (Ok found) h
