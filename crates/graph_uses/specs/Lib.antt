pub mod GraphUses
