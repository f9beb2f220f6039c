mod Firsts
mod Refusing
mod NewPlaces
mod CarryCauses
mod Within
mod CarriesLead
mod Sights
mod ChoiceLemmas
