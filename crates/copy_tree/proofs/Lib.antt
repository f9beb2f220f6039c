pub mod Beginnings
mod CallLaws
mod Callings
mod CallsMade
pub mod Counting
pub mod Fallings
pub mod InPlaces
mod Judged
mod OnDisks
mod Placed
pub mod PartsBegin
pub mod Staying
mod TakenUp
pub mod Windable
pub mod Worked
