-- Laws on the lines.
pub mod RingTexts
