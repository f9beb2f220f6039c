mod Counting
mod Ending
mod Judged
mod Ordered
mod Stepping
