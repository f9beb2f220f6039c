pub mod Boxes
pub mod CommonKeys
pub mod ModeKeys
pub mod QuestionKeys
pub mod ListKeys
pub mod InputKeys
pub mod InputField
pub mod KeyLists
