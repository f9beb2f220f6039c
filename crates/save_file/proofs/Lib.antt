mod Filling
mod Looked
mod Making
mod PartLaws
mod PartNodes
mod PlacingLaws
mod RefusedCalls
mod Settling
