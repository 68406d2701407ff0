pub mod NoWrites
