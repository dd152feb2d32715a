-- Laws of those walks: what each says, and its steps as a loop makes them.
pub mod Walking
pub mod Steps
