mod EntryLemmas
mod LabelLemmas
