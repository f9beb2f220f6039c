mod QuestionLemmas
mod RowLemmas
