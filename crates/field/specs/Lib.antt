pub mod FieldStep
