pub mod ParamRows
pub mod LookUps
pub mod ListedRows
