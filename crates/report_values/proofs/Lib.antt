mod Fitting
mod NamedAndBound
