-- The length of an image.
pub mod Image
