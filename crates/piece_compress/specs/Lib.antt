pub mod BinaryDigits
