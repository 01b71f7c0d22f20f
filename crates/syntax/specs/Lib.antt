pub mod Names
pub mod Numbers
pub mod Addresses
pub mod Operands
pub mod Mnemonics
pub mod Instructions
