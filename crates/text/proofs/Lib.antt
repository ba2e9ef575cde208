-- The laws of texts put into lent bytes, of decimals and lines, and worked numbers.
pub mod WrittenLaws
pub mod DecimalLaws
pub mod LineLaws
pub mod WorkedNumbers
