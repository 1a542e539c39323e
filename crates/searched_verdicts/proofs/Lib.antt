mod Descending
mod UnderNames
mod LowestValues
mod Settling
