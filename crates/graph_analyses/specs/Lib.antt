pub mod GraphAnalyses
