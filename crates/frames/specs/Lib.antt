-- What the code's frames say in the definitions' words. The record that bytes begin with is `frame` of rules.
pub mod Frames
pub mod Worked
